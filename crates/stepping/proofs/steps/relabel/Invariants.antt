-- Invariant: the links so far have their new label, the others their old one, which those from n on keep.
use Prim.Native.Nat.{ℕ, ◌≤◌, ◌<◌}
use mathlib.Core.Path.{◌≡◌}
use lib.ListN.{length, get_or}
use Rattle.rows.specs.Limits.{sheet_link_limit}
use Rattle.rows.specs.Held.{relabelled}
use Rattle.stepping.proofs.steps.relabel.Given as goal

abbrev pub invariant-loop-x : goal.invariant-loop-x
invariant-loop-x l = (length l.labels ≡ sheet_link_limit) × ((i : ℕ) → i < l.x → get_or l.labels i 0 ≡ relabelled l.from l.to (get_or l.initial.labels i 0)) × ((i : ℕ) → l.x ≤ i → get_or l.labels i 0 ≡ get_or l.initial.labels i 0)
