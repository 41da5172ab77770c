-- `remaining::apart_from` meets its contract. Assumes nothing.
use Prim.Native.Nat.{◌≤◌}
use Rattle.remaining.proofs.remaining.apart_from.Given as goal

abbrev pub invariant-loop-z : goal.invariant-loop-z
invariant-loop-z l = l.z ≤ l.count
