-- Invariant: the atoms of the piece that are not in the rest have the size.
use Rattle.std.proofs.Common.{◌≡◌, length}
use Rattle.rows.specs.Limits.{sheet_atom_limit}
use Rattle.colours.proofs.PieceCode.{Put}
use Rattle.colours.proofs.pieces.put_size.Given as goal

abbrev pub invariant-loop-rest : goal.invariant-loop-rest
invariant-loop-rest l = (length l.sizes ≡ sheet_atom_limit) × Put l.piece l.size l.initial.sizes l.sizes l.rest

abbrev pub decreases-loop-rest : goal.decreases-loop-rest
decreases-loop-rest l = l.rest
