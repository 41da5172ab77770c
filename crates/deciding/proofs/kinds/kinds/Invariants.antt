-- Invariant: the numbers tell the first c contexts apart.
use Rattle.deciding.specs.Kinds.{KindsTo}
use Rattle.deciding.proofs.kinds.kinds.Given as goal

abbrev pub invariant-loop-c : goal.invariant-loop-c
invariant-loop-c l = KindsTo l.contexts l.c l.k
