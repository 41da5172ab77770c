-- Invariant: the ways so far.
use Rattle.std.proofs.Common.{◌≡◌, ◌-◌, ◌≤◌, length}
use Rattle.rows.specs.Limits.{sheet_atom_limit, sheet_link_limit}
use Rattle.ways.specs.Trails.{trail_room, FoundIn}
use Rattle.ways.proofs.trail.ways.Given as goal

abbrev pub invariant-loop-at : goal.invariant-loop-at
invariant-loop-at l = (l.n ≤ l.at) × (l.at ≤ trail_room) × (length l.seen ≡ sheet_link_limit) × (length l.passed ≡ sheet_atom_limit) × FoundIn l.net.laid.now l.net.taken.now l.net.atoms l.guards l.net.links l.net.sorted.now l.seen l.passed l.n

abbrev pub decreases-loop-at : goal.decreases-loop-at
decreases-loop-at l = trail_room - l.at
