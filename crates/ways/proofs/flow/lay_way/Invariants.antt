-- No index leaves its array.
use Rattle.std.proofs.Common.{◌≡◌, ◌<◌, length}
use Rattle.rows.specs.Limits.{sheet_link_limit}
use Rattle.ways.specs.Trails.{trail_room}
use Rattle.ways.proofs.flow.lay_way.Given as goal

abbrev pub invariant-loop-next : goal.invariant-loop-next
invariant-loop-next l = (l.z < sheet_link_limit) × (length l.trails ≡ trail_room)
