-- The steps of a row's reading, over plain variables: a column of a field, a field of a row.
use Prim.Native.Nat.{ℕ, suc, ◌+◌, ◌-◌, ◌*◌, ◌<◌, ◌≤◌, ◌^◌}
use mathlib.Core.Path.{◌≡◌, refl, ◌∙◌, sym}
use mathlib.Core.List.{List, ◌∷◌}
use mathlib.Core.Bool as bool
use mathlib.Core.Bool.{Bool, true, false}
use native.Mathlib.Numerals.{add-one}
use native.Mathlib.Nat.{pow-suc, pow-le-pow_right}
use native.Mathlib.Omega.{arith}
use lib.Dec.{ltb, leb, eqb}
use lib.ListN.{length, get_or, drop, take, set, replicate, drop_of_length-le, length-take, length-drop}
use lib.Seq.{drop-cons, get_or-take, get_or-drop, length-take-le}
use borrow.Author.Tests.{eq-eqb, ne_eqb, ltb-false, eqb-true, eqb-false}
use Rattle.rows.specs.Pick.{pick, and, or, not}
use Rattle.rows.specs.Format.{field_width, field_count, letter_of, rule_of}
use Rattle.rows.specs.Row.{Field, malformed, holds, misplaced_in, is_nil, field_of, needed, suits, row_with, no_row, judged, fields_of, row_of}
use Rattle.rows.specs.declared.row.Rule.{Rule}

-- A number of i digits stays below ten to the i.
module _ (n i : ℕ) (h : n < 10 ^ i) where
  pub digit-more : (d : ℕ) → d ≤ 9 → n * 10 + d < 10 ^ (i + 1)
  digit-more d k = rw (add-one i, pow-suc 10 i) (omega arith)

  pub digit-none : n < 10 ^ (i + 1)
  digit-none = rw (add-one i, pow-suc 10 i) (omega arith)

pub digits-fit : (i : ℕ) → i ≤ 4 → 10 ^ i ≤ 10000
digits-fit i h = pow-le-pow_right {n = 10} (omega arith) h

-- Every place but 5 is a letter's.
pub letter-small : (b : ℕ) → (letter_of b ≡ 5 → ⊥) → letter_of b < 5
unfolding letter_of
letter-small b = small (eqb b 83) (eqb b 66) (eqb b 70) (eqb b 69) (eqb b 72)
  where
    small : (p q r s t : Bool) → (◌≡◌ {A = ℕ} (pick p 0 (pick q 1 (pick r 2 (pick s 3 (pick t 4 5))))) 5 → ⊥)
        → pick p 0 (pick q 1 (pick r 2 (pick s 3 (pick t 4 5)))) < 5
    small true q r s t h = omega arith
    small false true r s t h = omega arith
    small false false true s t h = omega arith
    small false false false true t h = omega arith
    small false false false false true h = omega arith
    small false false false false false h = absurd (h refl)

-- A byte that is not misplaced is a space or a digit.
pub misplaced-digit : (b : ℕ) (filled last : Bool) → misplaced_in b filled last ≡ false → (b ≡ 32 → ⊥) → (48 ≤ b) × (b ≤ 57)
unfolding misplaced_in
misplaced-digit b filled last e h =
    go (ltb b 48) (ltb 57 b) refl refl (simp (ne_eqb _ _ h) at e)
  where
    go : (low high : Bool) → ltb b 48 ≡ low → ltb 57 b ≡ high → or low (or high (and (eqb b 48) (not (or filled last)))) ≡ false → (48 ≤ b) × (b ≤ 57)
    go true high l k q = absurd (bool.true≢false q)
    go false true l k q = absurd (bool.true≢false q)
    go false false l k q = (ltb-false _ _ l, ltb-false _ _ k)

-- What a rule asks; `b` is whether it needs a number at the field.
pub suits-by : (r : Rule) (f count : ℕ) (filled : Bool) (n : ℕ) (b : Bool) → needed r f count ≡ b
    → suits r f count filled n ≡ pick b (and filled (and (leb r.low n) (leb n r.high))) (not filled)
unfolding suits
suits-by r f count filled n b e = rw e

-- The four columns of a field that starts at `at`.
abbrev pub columns : List ℕ → ℕ → List ℕ
columns s at = take 4 (drop at s)

pub field_end : (s : List ℕ) (at col : ℕ) (filled : Bool) (n : ℕ) → 4 ≤ col → field_of filled n (drop col (columns s at)) ≡ holds filled n
unfolding field_of
field_end s at col filled n h = rw (drop_of_length-le (columns s at) {i = col} (simp length-take (omega arith)))

-- Column col of it. `bad` and `space` are what the two tests of the column's byte say.
module _ (s : List ℕ) (at col : ℕ) (room : at + 4 ≤ length s) (h : col < 4) where
  pub columns-length : length (columns s at) ≡ 4
  columns-length = length-take-le 4 (drop at s) (simp length-drop (omega arith))

  pub column-byte : get_or (columns s at) col 0 ≡ get_or s (at + col) 0
  column-byte = simp (get_or-take 4 (drop at s) col 0 h, get_or-drop)

  head : drop col (columns s at) ≡ get_or s (at + col) 0 ∷ drop (col + 1) (columns s at)
  head = drop-cons (columns s at) col 0 (rw columns-length h) ∙ simp (column-byte, add-one)

  last-column : is_nil (drop (col + 1) (columns s at)) ≡ eqb (col + 1) field_width
  last-column = go (eqb (col + 1) field_width) refl
    where
      go : (b : Bool) → eqb (col + 1) field_width ≡ b → is_nil (drop (col + 1) (columns s at)) ≡ b
      go true e = rw (drop_of_length-le (columns s at) {i = col + 1} (rw columns-length (omega (arith, eqb-true (col + 1) field_width e))))
      go false e = rw (drop-cons (columns s at) (col + 1) 0 (rw columns-length (omega (arith, eqb-false (col + 1) field_width e))))

  pub field-column : (filled : Bool) (n : ℕ) (bad space : Bool) → misplaced_in (get_or s (at + col) 0) filled (eqb (col + 1) field_width) ≡ bad → eqb (get_or s (at + col) 0) 32 ≡ space
      → field_of filled n (drop col (columns s at))
      ≡ pick bad malformed (pick space (field_of filled n (drop (col + 1) (columns s at))) (field_of true (n * 10 + (get_or s (at + col) 0 - 48)) (drop (col + 1) (columns s at))))
  unfolding field_of
  field-column filled n bad space e f = rw (head, last-column, e, f)

-- The fields from f on.
pub fields-end : (s : List ℕ) (letter f : ℕ) (nums : List ℕ) → field_count ≤ f → fields_of s letter f nums (field_count - f) ≡ row_with letter true nums
unfolding fields_of
fields-end s letter f nums h = let e : field_count - f ≡ 0 = omega arith in rw e

module _ (s : List ℕ) (letter f : ℕ) (nums : List ℕ) (h : f < field_count) where
  fields-by : (c : Field) → field_of false 0 (columns s (f * 4 + 1)) ≡ c
      → fields_of s letter f nums (field_count - f) ≡ judged letter f nums (λ n. fields_of s letter (f + 1) (set nums f n) (field_count - (f + 1))) c
  unfolding fields_of
  fields-by c e = let z : field_count - f ≡ suc (field_count - (f + 1)) = omega arith in rw (z, e)

  pub fields-malformed : field_of false 0 (columns s (f * 4 + 1)) ≡ malformed → fields_of s letter f nums (field_count - f) ≡ row_with letter false nums
  unfolding judged
  fields-malformed e = fields-by malformed e

  -- `good` is whether the number, or its absence, suits the field's rule.
  pub fields-held : (filled : Bool) (n : ℕ) (good : Bool) → field_of false 0 (columns s (f * 4 + 1)) ≡ holds filled n
      → suits (rule_of letter f) f (get_or nums 1 0) filled n ≡ good
      → fields_of s letter f nums (field_count - f) ≡ pick good (fields_of s letter (f + 1) (set nums f n) (field_count - (f + 1))) (row_with letter false nums)
  unfolding judged
  fields-held filled n good e t = fields-by (holds filled n) e ∙ rw t

-- A row, by its letter's place k.
module _ (s : List ℕ) (k : ℕ) (e : k ≡ letter_of (get_or s 0 0)) where
  pub row-strange : k ≡ 5 → row_of s ≡ no_row
  unfolding row_of
  row-strange h = rw (eq-eqb _ _ (sym e ∙ h))

  pub row-fields : (k ≡ 5 → ⊥) → row_of s ≡ fields_of s k 0 (replicate field_count 0) field_count
  unfolding row_of
  row-fields h = rw (← e, ne_eqb _ _ h)
