-- Invariant: what was found so far is in the piece.
use Rattle.rows.specs.declared.Sheet.{Sheet as NormalForm}
use Rattle.candidates.specs.Laid.{LaidOut}
use Rattle.colours.proofs.PieceCode.{Grown}
use Rattle.colours.proofs.pieces.piece_of.Given as goal

abbrev pub invariant-loop-piece : goal.invariant-loop-piece
invariant-loop-piece l = (net : NormalForm) → LaidOut net l.laid l.n → Grown net l.t l.piece l.rest

abbrev pub decreases-loop-piece : goal.decreases-loop-piece
decreases-loop-piece l = l.rest
