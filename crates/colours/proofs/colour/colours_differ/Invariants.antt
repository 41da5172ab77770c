-- Invariant: every good placing keeps the colours.
use Rattle.std.proofs.Common.{◌≡◌, length}
use Rattle.rows.specs.Limits.{sheet_atom_limit, sheet_link_limit}
use Rattle.candidates.specs.Frames.{whole}
use Rattle.colours.specs.Arrays.{KeptIn}
use Rattle.colours.proofs.colour.colours_differ.Given as goal

abbrev pub invariant-loop-rounds : goal.invariant-loop-rounds
invariant-loop-rounds l = (length l.sheet_atoms ≡ sheet_atom_limit) × (length l.sheet_links ≡ sheet_link_limit) × (length l.figure_atoms ≡ sheet_atom_limit) × (length l.figure_links ≡ sheet_link_limit) × KeptIn (whole l.sheet l.laid) (whole l.figure l.parts) l.figure_atoms l.figure_links l.sheet_atoms l.sheet_links
