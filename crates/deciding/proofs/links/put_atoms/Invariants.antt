-- Invariant: the first i atoms agree, and what stands is told.
use mathlib.Core.Path.{◌≡◌}
use lib.ListN.{length}
use Rattle.rows.specs.Limits.{sheet_link_limit}
use Rattle.deciding.proofs.LaidTelling.{Said}
use Rattle.deciding.proofs.links.put_atoms.Given as goal

abbrev pub invariant-loop-i : goal.invariant-loop-i
invariant-loop-i l = (length l.to ≡ sheet_link_limit) × Said l.laid l.parts l.m l.atoms_to l.initial.to l.to l.i
