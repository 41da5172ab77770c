-- The measure is what the queue has room for behind the place.
use Rattle.std.proofs.Common.{◌-◌, ◌≤◌}
use Rattle.ways.specs.Flow.{state_count}
use Rattle.ways.proofs.search.search.Given as goal

abbrev pub invariant-loop-head : goal.invariant-loop-head
invariant-loop-head l = l.head ≤ state_count

abbrev pub decreases-loop-head : goal.decreases-loop-head
decreases-loop-head l = state_count - l.head
