-- Invariant: the first k links are counted.
use Prim.Native.Nat.{ℕ, ◌+◌, ◌<◌}
use mathlib.Core.Path.{◌≡◌}
use lib.ListN.{get_or, take}
use Rattle.rows.specs.Limits.{sheet_link_limit}
use Rattle.starting.specs.Count.{count as times}
use Rattle.starting.specs.Steps.{Tally}
use Rattle.starting.proofs.profile.count_places.Given as goal

abbrev pub invariant-loop-k : goal.invariant-loop-k
invariant-loop-k l = Tally l.counts (l.n + l.k) × ((x : ℕ) → x < sheet_link_limit → get_or l.counts x 0 ≡ get_or l.initial.counts x 0 + times (x + 1) (take l.k l.atom.links))
