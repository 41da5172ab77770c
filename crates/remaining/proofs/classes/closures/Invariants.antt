-- `classes::closures` meets its contract. The loop's invariant: the words below w have theirs. Assumes nothing.
use Prim.Native.Nat.{◌≤◌}
use Rattle.remaining.specs.Joining.{word_count}
use Rattle.remaining.proofs.JoinLaws.{TableTo}
use Rattle.remaining.proofs.classes.closures.Given as goal

abbrev pub invariant-loop-w : goal.invariant-loop-w
invariant-loop-w l = (1 ≤ l.w) × (l.w ≤ word_count) × TableTo l.standing l.flags l.to l.count l.w l.table
