-- `atoms::some_empty` meets its contract. Assumes nothing.
use Prim.Native.Nat.{◌≤◌}
use Rattle.remaining.proofs.atoms.some_empty.Given as goal

abbrev pub invariant-loop-j : goal.invariant-loop-j
invariant-loop-j l = l.j ≤ l.atoms
