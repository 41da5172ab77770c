-- Refusal 8 in a row, by the row's letter.
use Prim.Native.Nat.{ℕ, suc, ◌+◌, ◌-◌, ◌<◌}
use mathlib.Core.Path.{◌≡◌, refl}
use mathlib.Core.List.{List, [], ◌∷◌}
use mathlib.Core.Bool.{false}
use native.Mathlib.Numerals.{add-one}
use native.Mathlib.Omega.{arith}
use lib.Dec.{leb}
use lib.ListN.{length, get_or}
use borrow.Author.Tests.{eq-eqb, ne_eqb}
use Rattle.rows.specs.Format.{context_bound, context_letter, head_letter}
use Rattle.rows.specs.Limits.{context_room}
use Rattle.rows.specs.Packed.{padded, no_context, port_table}
use Rattle.rows.specs.declared.Context.{Context}
use Rattle.rows.specs.declared.row.Row.{Row}
use Rattle.rows.proofs.Padding.{get_d-padded}
use Rattle.rows.proofs.Ports.{table_at}
use Rattle.sheet.specs.Reading.{last_number, clash_of, clashes}
use Rattle.sheet.specs.declared.kind.Kind.{Kind}

module _ (kind : Kind) (pattern : List ℕ) (r : Row) (l : List Context) where
  pub clash-head : (last : ℕ) → last ≡ last_number l → r.letter ≡ head_letter → leb (get_or r.nums 0 0) last ≡ clashes kind pattern l r
  unfolding clashes
  clash-head last q e = rw q (rw (eq-eqb _ _ e))

  pub clash-blank : (ports : List ℕ) → ports ≡ port_table l → (r.letter ≡ head_letter → ⊥) → r.letter ≡ context_letter → get_or r.nums 0 0 < context_bound
      → clash_of kind (get_or ports (get_or r.nums 0 0) 0) (get_or pattern (get_or r.nums 0 0) 0) (get_or r.nums 1 0 + 1) ≡ clashes kind pattern l r
  unfolding clashes
  clash-blank ports q n e small = rw q (rw (table_at l (get_or r.nums 0 0) small) (rw (ne_eqb _ _ n) (rw (eq-eqb _ _ e) (rw (add-one (get_or r.nums 1 0))))))

  pub clash-none : (r.letter ≡ head_letter → ⊥) → (r.letter ≡ context_letter → ⊥) → false ≡ clashes kind pattern l r
  unfolding clashes
  clash-none n m = rw (ne_eqb _ _ n) (rw (ne_eqb _ _ m))

-- the number of the last context, as the arrays have it; past an array's end the logic reads zeros and an empty list
last-number : (l : List Context) (d : Context) → (length l ≡ 0 → ⊥) → (get_or l (length l - 1) d).number ≡ last_number l
unfolding last_number
last-number [] d n = absurd (n refl)
last-number (c ∷ []) d n = refl
last-number (c ∷ b ∷ l) d n = rw e (last-number (b ∷ l) d (λ z. omega arith))
  where
    e : suc (suc (length l)) - 1 ≡ suc (suc (length l) - 1)
    e = omega arith

pub last-at : (l : List Context) → (get_or (padded context_room no_context l) (length l - 1) (record { number = 0; count = 0; links = []; row = 0 })).number ≡ last_number l
unfolding last_number padded
last-at [] = refl
last-at (c ∷ l) =
    rw (get_d-padded context_room no_context (c ∷ l) (length (c ∷ l) - 1) (record { number = 0; count = 0; links = []; row = 0 }) (omega arith))
    (last-number (c ∷ l) (record { number = 0; count = 0; links = []; row = 0 }) (λ z. omega arith))
