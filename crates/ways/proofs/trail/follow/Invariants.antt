-- Invariant: a trail from the link to the end.
use Rattle.std.proofs.Common.{◌≡◌, suc, ◌<◌, length}
use Rattle.rows.specs.Limits.{sheet_atom_limit, sheet_link_limit}
use Rattle.ways.specs.Trails.{TrailIn}
use Rattle.ways.proofs.trail.follow.Given as goal

abbrev pub invariant-loop-at : goal.invariant-loop-at
invariant-loop-at l =
    (l.z < sheet_link_limit) × (length l.seen ≡ sheet_link_limit) × (length l.passed ≡ sheet_atom_limit) × TrailIn l.net.laid.now l.net.taken.now l.net.atoms l.guards l.net.links l.net.sorted.now l.initial.seen l.initial.passed l.seen l.passed (suc l.z)
