-- `plain::one_each` meets its contract. The loop's invariant: the first c numbers differ. Assumes nothing.
use Rattle.stepping.proofs.PlainSteps.{Differ}
use Rattle.stepping.proofs.plain.one_each.Given as goal

abbrev pub invariant-loop-c : goal.invariant-loop-c
invariant-loop-c l = Differ l.list l.c
