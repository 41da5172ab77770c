-- No index leaves its array.
use Rattle.std.proofs.Common.{◌≤◌}
use Rattle.ways.proofs.outnumbered.ends.Given as goal

abbrev pub invariant-loop-y : goal.invariant-loop-y
invariant-loop-y l = l.n ≤ l.y
