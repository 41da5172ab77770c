-- Invariant: the sets of the first x figure links have what has places enough.
use Prim.Native.Nat.{ℕ, ◌*◌, ◌<◌}
use mathlib.Core.Path.{◌≡◌}
use lib.ListN.{length, get_or}
use Rattle.rows.specs.Limits.{sheet_link_limit}
use Rattle.candidates.specs.Tables.{LinkIn}
use Rattle.starting.specs.Steps.{Enough}
use Rattle.starting.proofs.start.start_places.Given as goal

abbrev pub invariant-loop-x : goal.invariant-loop-x
invariant-loop-x l = (length l.links ≡ sheet_link_limit * 2) × ((z y : ℕ) → z < l.x → y < l.n → Enough (get_or l.closed z 0) (get_or l.wanted z 0) (get_or l.counts y 0) → LinkIn l.links z y)
