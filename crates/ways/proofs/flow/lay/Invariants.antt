-- No index leaves its array.
use Rattle.std.proofs.Common.{◌≡◌, ◌≤◌, length}
use Rattle.ways.specs.Trails.{trail_room}
use Rattle.ways.proofs.flow.lay.Given as goal

abbrev pub invariant-loop : goal.invariant-loop
invariant-loop l = (l.at ≤ trail_room) × (length l.trails ≡ trail_room)

abbrev pub invariant-loop-z : goal.invariant-loop-z
invariant-loop-z l = (l.at ≤ trail_room) × (length l.trails ≡ trail_room)
