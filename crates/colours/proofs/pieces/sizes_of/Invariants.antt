-- Invariant: the sizes that are noted are right, and those of the first t atoms are noted.
use Rattle.std.proofs.Common.{◌≡◌, length}
use Rattle.rows.specs.Limits.{sheet_atom_limit}
use Rattle.rows.specs.declared.Sheet.{Sheet as NormalForm}
use Rattle.candidates.specs.Laid.{LaidOut}
use Rattle.colours.proofs.SizeCode.{SizedTo}
use Rattle.colours.proofs.pieces.sizes_of.Given as goal

abbrev pub invariant-loop-t : goal.invariant-loop-t
invariant-loop-t l = (length l.sizes ≡ sheet_atom_limit) × ((net : NormalForm) → LaidOut net l.laid l.n → SizedTo net l.n l.sizes l.t)
