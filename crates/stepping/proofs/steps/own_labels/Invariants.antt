-- Invariant: the links so far have their own label.
use Prim.Native.Nat.{ℕ, ◌+◌, ◌<◌}
use mathlib.Core.Path.{◌≡◌}
use lib.ListN.{length, get_or}
use Rattle.rows.specs.Limits.{sheet_link_limit}
use Rattle.stepping.proofs.steps.own_labels.Given as goal

abbrev pub invariant-loop-x : goal.invariant-loop-x
invariant-loop-x l = (length l.labels ≡ sheet_link_limit) × ((i : ℕ) → i < l.x → get_or l.labels i 0 ≡ i + 1)
