-- Invariant: what the tables tell. The halves fall.
use Rattle.std.proofs.Common.{suc}
use Rattle.ways.specs.Nodes.{Tells}
use Rattle.ways.proofs.crowded.crowded.Given as goal

abbrev pub invariant-loop-side : goal.invariant-loop-side
invariant-loop-side l = Tells l.parts l.rows l.marked l.marks l.sets (suc l.links) l.to l.flags l.opens

abbrev pub decreases-loop-side : goal.decreases-loop-side
decreases-loop-side l = l.side
