-- What is read from the four columns of a number: the number.
use Prim.Native.Nat.{ℕ, ◌+◌, ◌-◌, ◌*◌, ◌/◌, ◌%◌, ◌<◌, ◌≤◌}
use mathlib.Core.Path.{◌≡◌, refl, ap, ◌∙◌}
use mathlib.Core.List.{List, [], ◌∷◌}
use mathlib.Core.Bool.{Bool, true, false}
use native.Mathlib.Omega.{arith}
use borrow.Author.Tests.{le-ltb, ne_eqb, ltb-true, ltb-false, eqb-true}
use lib.Dec.{ltb, eqb}
use Rattle.rows.specs.Pick.{pick, and, or, not}
use Rattle.rows.specs.Row.{holds, misplaced_in, is_nil, field_of}
use Rattle.rows.specs.Format.{most_number}
use Rattle.writing.specs.RowText.{field_bytes}
use Rattle.rows.proofs.Bools.{or-true}

-- A digit may stand in a column, a zero where it is not the first or is the only one.
digit-placed : (d : ℕ) (filled last : Bool) → d < 10 → (d ≡ 0 → or filled last ≡ true) → misplaced_in (48 + d) filled last ≡ false
unfolding misplaced_in
digit-placed d filled last h k =
    rw (ne_eqb (48 + d) 32 (λ e. omega arith), le-ltb (48 + d) 48 (omega arith), le-ltb 57 (48 + d) (omega arith)) (go (eqb (48 + d) 48) refl)
  where
    go : (b : Bool) → eqb (48 + d) 48 ≡ b → and b (not (or filled last)) ≡ false
    go true e = rw (k (omega (arith, eqb-true (48 + d) 48 e)))
    go false e = refl

digit-read : (filled : Bool) (n d : ℕ) (t : List ℕ) → d < 10 → (d ≡ 0 → or filled (is_nil t) ≡ true)
    → field_of filled n ((48 + d) ∷ t) ≡ field_of true (n * 10 + d) t
unfolding field_of
digit-read filled n d t h k =
    let z : 48 + d - 48 ≡ d = omega arith in
    rw (digit-placed d filled (is_nil t) h k, ne_eqb (48 + d) 32 (λ e. omega arith), z)

-- The last digit.
last-read : (filled : Bool) (m d n : ℕ) → d < 10 → m * 10 + d ≡ n → field_of filled m ((48 + d) ∷ []) ≡ holds true n
unfolding field_of
last-read filled m d n h e = digit-read filled m d [] h (λ z. or-true filled) ∙ ap (holds true) e

-- A number's four columns, by how many digits it has: x, y and z are the tests of its first three columns.
pub field_back : (n : ℕ) → n ≤ most_number → field_of false 0 (field_bytes n) ≡ holds true n
unfolding field_bytes field_of misplaced_in
field_back n h = go (ltb n 1000) (ltb n 100) (ltb n 10) refl refl refl
  where
    ones : List ℕ
    ones = (48 + n % 10) ∷ []

    tens : List ℕ
    tens = (48 + n / 10 % 10) ∷ ones

    hundreds : List ℕ
    hundreds = (48 + n / 100 % 10) ∷ tens

    from-ones : (filled : Bool) (m : ℕ) → m * 10 + n % 10 ≡ n → field_of filled m ones ≡ holds true n
    from-ones filled m e = last-read filled m (n % 10) n (omega arith) e

    from-tens : (filled : Bool) (m : ℕ) → m * 10 + n / 10 % 10 ≡ n / 10 → (n / 10 % 10 ≡ 0 → filled ≡ true) → field_of filled m tens ≡ holds true n
    from-tens filled m e k = digit-read filled m (n / 10 % 10) ones (omega arith) (λ z. rw (k z)) ∙ from-ones true (m * 10 + n / 10 % 10) (omega arith)

    from-hundreds : (filled : Bool) (m : ℕ) → m * 10 + n / 100 % 10 ≡ n / 100 → (n / 100 % 10 ≡ 0 → filled ≡ true) → field_of filled m hundreds ≡ holds true n
    from-hundreds filled m e k =
        digit-read filled m (n / 100 % 10) tens (omega arith) (λ z. rw (k z)) ∙ from-tens true (m * 10 + n / 100 % 10) (omega arith) (λ z. refl)

    go : (x y z : Bool) → ltb n 1000 ≡ x → ltb n 100 ≡ y → ltb n 10 ≡ z
        → field_of false 0 (pick x 32 (48 + n / 1000 % 10) ∷ pick y 32 (48 + n / 100 % 10) ∷ pick z 32 (48 + n / 10 % 10) ∷ ones) ≡ holds true n
    go true true true p q r = from-ones false 0 (omega (arith, ltb-true n 10 r))
    go true true false p q r = from-tens false 0 (omega (arith, ltb-true n 100 q)) (λ e. absurd (omega (arith, ltb-true n 100 q, ltb-false n 10 r)))
    go true false false p q r = from-hundreds false 0 (omega (arith, ltb-true n 1000 p)) (λ e. absurd (omega (arith, ltb-true n 1000 p, ltb-false n 100 q)))
    go false false false p q r =
        digit-read false 0 (n / 1000 % 10) hundreds (omega arith) (λ e. absurd (omega (arith, ltb-false n 1000 p)))
        ∙ from-hundreds true (0 * 10 + n / 1000 % 10) (omega arith) (λ e. refl)
    go true false true p q r = absurd (omega (arith, ltb-false n 100 q, ltb-true n 10 r))
    go false false true p q r = absurd (omega (arith, ltb-false n 100 q, ltb-true n 10 r))
    go false true z p q r = absurd (omega (arith, ltb-false n 1000 p, ltb-true n 100 q))
