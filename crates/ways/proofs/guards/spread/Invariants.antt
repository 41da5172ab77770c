-- Invariant: the flags so far.
use Rattle.std.proofs.Common.{◌≡◌, ℕ, ◌<◌, length, get_or}
use Rattle.rows.specs.Limits.{sheet_link_limit}
use Rattle.candidates.specs.Words.{InPair}
use Rattle.ways.proofs.guards.spread.Given as goal

abbrev pub invariant-loop-y : goal.invariant-loop-y
invariant-loop-y l = (length l.flags ≡ sheet_link_limit) × ((z : ℕ) → z < l.y → InPair l.pair z → get_or l.flags z 0 ≡ 1)
