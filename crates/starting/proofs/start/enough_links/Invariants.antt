-- Invariant: what has places enough, of those looked at, is in the set.
use Prim.Native.Nat.{ℕ, ◌<◌}
use lib.ListN.{get_or}
use Rattle.candidates.specs.Words.{InPair}
use Rattle.starting.specs.Steps.{Enough}
use Rattle.starting.proofs.start.enough_links.Given as goal

abbrev pub invariant-loop-y : goal.invariant-loop-y
invariant-loop-y l = (v : ℕ) → v < l.y → Enough l.closed l.wanted (get_or l.counts v 0) → InPair l.pair v
