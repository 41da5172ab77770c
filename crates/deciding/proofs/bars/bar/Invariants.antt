-- Invariant: what is barred was barred, or is y for a link of the kind of x.
use Rattle.deciding.specs.Bars.{BarredTo}
use Rattle.deciding.proofs.bars.bar.Given as goal

abbrev pub invariant-loop-z : goal.invariant-loop-z
invariant-loop-z l = BarredTo l.kinds l.x l.y l.initial.bars l.bars
