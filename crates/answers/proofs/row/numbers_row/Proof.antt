-- The row is the whole array, and each of its numbers fits a field.
use borrow.Author.Rules.{rules}
use Prim.Native.Nat.{ℕ, zero, suc, ◌≤◌, ◌<◌}
use mathlib.Core.Path.{◌≡◌, refl, ap, ◌∙◌}
use mathlib.Core.List.{List, [], ◌∷◌, append-nil}
use mathlib.Core.Bool.{Bool, true, false}
use native.Mathlib.Omega.{arith}
use lib.ListN.{get_or, take}
use Rattle.rows.specs.Format.{most_number}
use mir.Val.{bool_byte}
use Rattle.rows.specs.Pick.{pick}
use Rattle.writing.specs.RowText.{row_bytes}
use Rattle.answers.specs.AnswerRow.{answer_letter, last_digits}
use Rattle.answers.proofs.row.numbers_row.Statement.{statement}
use Rattle.answers.proofs.row.numbers_row.Tie as tie

array-write-nums : tie.Need-bounds-nums-0
array-write-nums c = search rules

array-write-nums-2 : tie.Need-bounds-nums-1
array-write-nums-2 c = search rules

cast-nums : tie.Need-overflow_cast-nums
cast-nums c = search rules

rem-nums : tie.Need-nonzero_rem-nums-3
rem-nums c = search rules

cast-nums-2 : tie.Need-overflow_cast-nums-2
cast-nums-2 c = search rules

array-write-nums-3 : tie.Need-bounds-nums-2
array-write-nums-3 c = search rules

cast-nums-3 : tie.Need-overflow_cast-nums-3
cast-nums-3 c = search rules

array-write-nums-4 : tie.Need-bounds-nums-3
array-write-nums-4 c = search rules

slice-aggregate-put-row : tie.Need-slice_bounds-put_row-end
slice-aggregate-put-row c = search rules

bit : (b : Bool) → bool_byte b ≡ pick b 1 0
bit true = refl
bit false = refl

small : (b : Bool) → bool_byte b ≤ most_number
small true = omega arith
small false = omega arith

within : (a b c d : ℕ) (l : List ℕ) → a ≤ most_number → b ≤ most_number → c ≤ most_number → d ≤ most_number → (k : ℕ) → k < 4 → get_or (a ∷ b ∷ c ∷ d ∷ l) k 0 ≤ most_number
within a b c d l x y z w zero h = x
within a b c d l x y z w (suc zero) h = y
within a b c d l x y z w (suc (suc zero)) h = z
within a b c d l x y z w (suc (suc (suc zero))) h = w
within a b c d l x y z w (suc (suc (suc (suc k)))) h = absurd (omega arith)

first : (a b c d : ℕ) (l : List ℕ) (n : ℕ) → n ≤ 4 → take n (a ∷ b ∷ c ∷ d ∷ l) ≡ take n (a ∷ b ∷ c ∷ d ∷ [])
first a b c d l zero h = refl
first a b c d l (suc zero) h = refl
first a b c d l (suc (suc zero)) h = refl
first a b c d l (suc (suc (suc zero))) h = refl
first a b c d l (suc (suc (suc (suc zero)))) h = refl
first a b c d l (suc (suc (suc (suc (suc n))))) h = absurd (omega arith)

put-row-requires : tie.Need-put_row-requires
put-row-requires c κs = let a = c.args in
    (omega arith, (omega arith, λ k h. within (last_digits a.number) (last_digits a.input) (last_digits a.row) (bool_byte a.yes) (0 ∷ 0 ∷ 0 ∷ 0 ∷ []) (omega arith) (omega arith) (omega arith) (small a.yes) k (omega arith)))

returns : tie.Need-returns
returns c = let a = c.args in
    c.put_row.ensures ∙ append-nil _
    ∙ ap (row_bytes answer_letter) (first (last_digits a.number) (last_digits a.input) (last_digits a.row) (bool_byte a.yes) (0 ∷ 0 ∷ 0 ∷ 0 ∷ []) a.count (omega arith))
    ∙ ap (λ (y : ℕ). row_bytes answer_letter (take a.count (last_digits a.number ∷ last_digits a.input ∷ last_digits a.row ∷ y ∷ []))) (bit a.yes)

pub numbers_row_spec : {M : Type 1} → statement M
numbers_row_spec =
    tie.close
    (tie.spec
    array-write-nums
    array-write-nums-2
    cast-nums
    rem-nums
    cast-nums-2
    array-write-nums-3
    cast-nums-3
    array-write-nums-4
    slice-aggregate-put-row
    put-row-requires
    returns)
