-- `joins::spread` meets its contract. The loop's invariant: the first x links are joined. Assumes nothing.
use Prim.Native.Nat.{◌≤◌}
use Rattle.remaining.specs.Joining.{Spread}
use Rattle.remaining.proofs.joins.spread.Given as goal

abbrev pub invariant-loop-x : goal.invariant-loop-x
invariant-loop-x l = (l.x ≤ l.count) × Spread l.standing l.flags l.to l.x l.y l.word l.next
