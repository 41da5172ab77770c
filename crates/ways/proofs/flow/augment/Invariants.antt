-- No index leaves its array.
use Rattle.std.proofs.Common.{◌<◌}
use Rattle.ways.specs.Flow.{state_count}
use Rattle.ways.proofs.flow.augment.Given as goal

abbrev pub invariant-loop : goal.invariant-loop
invariant-loop l = l.state < state_count
