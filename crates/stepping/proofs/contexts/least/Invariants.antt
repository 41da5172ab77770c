-- Invariant: the best of the contexts so far.
use Prim.Native.Nat.{◌≤◌}
use Rattle.stepping.specs.Contexts.{Least}
use Rattle.stepping.proofs.contexts.least.Given as goal

abbrev pub invariant-loop-c : goal.invariant-loop-c
invariant-loop-c l = (l.best ≤ l.count) × Least l.numbers l.count l.cuts l.c l.best
