-- The half of a word, and what it says of the contexts.
use Rattle.std.proofs.Common.{◌≡◌, ℕ, zero, suc, ◌<◌, Bool, true, false, eqb, ◌≢◌, ◌⊎◌, refl, inl, inr, arith, ne_eqb, eqb-true}
use lib.Bits.{bit_and, bit_xor}
use borrow.Author.Tests.{eqb-false}
use Rattle.candidates.specs.Words.{digit, In, fewer}
use Rattle.candidates.proofs.Digits.{in-dec, in_some, some_in, in_and, and_in, fewer-in, in-fewer}
use Rattle.ways.specs.Halves.{half_by, half_of}

pub half_is : (w s : ℕ) (b d : Bool) → eqb (bit_and w s) 0 ≡ b → eqb (bit_xor w (bit_and w s)) 0 ≡ d → half_by b d ≡ half_of w s
unfolding half_of fewer
half_is w s b d e f = rw (e, f) refl

by-few : (b d : Bool) → half_by b d < 4
by-few true true = omega arith
by-few false true = omega arith
by-few true false = omega arith
by-few false false = omega arith

pub half-few : (w s : ℕ) → half_of w s < 4
unfolding half_of
half-few w s = by-few (eqb (bit_and w s) 0) (eqb (fewer w s) 0)

by_first : (b d : Bool) → half_by b d ≡ 1 → d ≡ true
by_first true true e = refl
by_first false true e = refl
by_first true false e = absurd (omega arith)
by_first false false e = absurd (omega arith)

by-second : (b d : Bool) → half_by b d ≡ 2 → b ≡ true
by-second true true e = refl
by-second false true e = absurd (omega arith)
by-second true false e = refl
by-second false false e = absurd (omega arith)

by_one : (b d : Bool) → In (half_by b d) 0 → b ≡ false
unfolding digit
by_one true true e = absurd (omega (arith, e))
by_one true false e = absurd (omega (arith, e))
by_one false d e = refl

by_two : (b d : Bool) → In (half_by b d) 1 → d ≡ false
unfolding digit
by_two true true e = absurd (omega (arith, e))
by_two false true e = absurd (omega (arith, e))
by_two b false e = refl

-- The halves of some links, as digits: the first or the second is there.
pub some-half : (r : ℕ) → r < 4 → r ≢ 0 → In r 0 ⊎ In r 1
unfolding digit
some-half zero h n = absurd (n refl)
some-half (suc zero) h n = inl refl
some-half (suc (suc zero)) h n = inr refl
some-half (suc (suc (suc zero))) h n = inl refl
some-half (suc (suc (suc (suc r)))) h n = absurd (omega arith)

module _ (w s : ℕ) where
  -- all contexts of half 1 are on the first half
  pub half-first : half_of w s ≡ 1 → (t : ℕ) → In w t → In s t
  unfolding half_of
  half-first e t i = go (in-dec s t)
    where
      none : fewer w s ≡ 0
      none = eqb-true (fewer w s) 0 (by_first (eqb (bit_and w s) 0) (eqb (fewer w s) 0) e)

      go : Dec (In s t) → In s t
      go (yes h) = h
      go (no n) = absurd (omega (arith, none, in_some (fewer w s) t (in-fewer w s (fewer w s) refl t i n)))

  -- those of half 2 are on the second
  pub half-second : half_of w s ≡ 2 → (t : ℕ) → In w t → ¬ In s t
  unfolding half_of
  half-second e t i h = omega (arith, eqb-true (bit_and w s) 0 (by-second (eqb (bit_and w s) 0) (eqb (fewer w s) 0) e), in_some (bit_and w s) t (in_and w s t i h))

  pub half-both : (t u : ℕ) → In w t → In s t → In w u → ¬ In s u → half_of w s ≡ 3
  unfolding half_of
  half-both t u i h j n = rw (ne_eqb (bit_and w s) 0 some, ne_eqb (fewer w s) 0 more) refl
    where
      some : bit_and w s ≢ 0
      some e = omega (arith, e, in_some (bit_and w s) t (in_and w s t i h))

      more : fewer w s ≢ 0
      more e = omega (arith, e, in_some (fewer w s) u (in-fewer w s (fewer w s) refl u j n))

  -- by its digits: some context is on the first half, and some on the second
  pub half-one : In (half_of w s) 0 → (t : ℕ) × In w t × In s t
  unfolding half_of
  half-one i =
      let some : bit_and w s ≢ 0 = eqb-false _ _ (by_one (eqb (bit_and w s) 0) (eqb (fewer w s) 0) i) in
      let t = some_in (bit_and w s) (omega (arith, some)) in
      let u = and_in w s t.0 t.1 in
      (t.0, u.0, u.1)

  pub half-two : In (half_of w s) 1 → (t : ℕ) × In w t × (¬ In s t)
  unfolding half_of
  half-two i =
      let some : fewer w s ≢ 0 = eqb-false _ _ (by_two (eqb (bit_and w s) 0) (eqb (fewer w s) 0) i) in
      let t = some_in (fewer w s) (omega (arith, some)) in
      let u = fewer-in w s (fewer w s) refl t.0 t.1 in
      (t.0, u.0, u.1)
