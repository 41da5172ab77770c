-- Invariant: the links so far that stand on both halves are listed.
use Rattle.std.proofs.Common.{◌≤◌}
use Rattle.ways.specs.Halves.{Crossing}
use Rattle.ways.proofs.halves.crossing.Given as goal

abbrev pub invariant-loop-x : goal.invariant-loop-x
invariant-loop-x l = (l.n ≤ l.x) × Crossing l.standing l.flags l.side l.x l.n
