-- Invariant: the contexts so far are judged, the others are as before.
use Prim.Native.Nat.{ℕ, ◌+◌, ◌*◌, ◌≤◌, ◌<◌}
use mathlib.Core.Path.{◌≡◌}
use mathlib.Core.Logic.{◌↔◌}
use lib.ListN.{length, get_or}
use Rattle.rows.specs.Limits.{sheet_link_limit, context_room}
use Rattle.stepping.proofs.contexts.cut_at.Given as goal

abbrev pub invariant-loop-c : goal.invariant-loop-c
invariant-loop-c l = (length l.cuts ≡ context_room) × ((i : ℕ) → i < l.c → (get_or l.cuts i 0 ≡ 0) ↔ ((get_or l.initial.cuts i 0 ≡ 0) × (get_or l.ports (i * sheet_link_limit + l.y) 0 ≡ 1))) × ((i : ℕ) → l.c ≤ i → get_or l.cuts i 0 ≡ get_or l.initial.cuts i 0)
