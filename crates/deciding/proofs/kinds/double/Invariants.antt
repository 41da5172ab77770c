-- Invariant: the numbers before x are doubled, the others as they were.
use Rattle.deciding.proofs.KindLaws.{Doubling}
use Rattle.deciding.proofs.kinds.double.Given as goal

abbrev pub invariant-loop-x : goal.invariant-loop-x
invariant-loop-x l = Doubling l.initial.kinds l.flags l.x l.kinds
