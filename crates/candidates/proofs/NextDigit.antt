-- The first digit from a place on that is 1.
use Prim.Native.Nat.{ℕ, ◌+◌, ◌-◌, ◌/◌, ◌^◌, ◌≤◌, ◌<◌}
use mathlib.Core.Path.{◌≡◌, sym, ◌∙◌, ap, subst}
use native.Mathlib.Decide.{dec_lt}
use native.Mathlib.Omega.{arith}
use lib.Count.{count_trailing_zeros}
use lib.Pow.{shr_lt, shr_le}
use Rattle.candidates.specs.Words.{word_digits, digit, In}
use Rattle.candidates.specs.Forced.{FirstAt}
use Rattle.candidates.proofs.Digits.{none_in, first-in, digit-shifted, below-first}

-- a word has no digits beyond
pub within_word : (s u : ℕ) → s < 2 ^ word_digits → In s u → u < word_digits
within_word s u h e = go (dec_lt u word_digits)
  where
    go : Dec (u < word_digits) → u < word_digits
    go (yes l) = l
    go (no l) = absurd (none_in (u - word_digits) (subst (λ (w : ℕ). In w (u - word_digits)) nothing (sym (digit-shifted s word_digits (u - word_digits)) ∙ ap (digit s) (let z : word_digits + (u - word_digits) ≡ u = omega (arith, l) in z) ∙ e)))
      where
        nothing : s / 2 ^ word_digits ≡ 0
        nothing = let q = shr_lt {n = s} 0 word_digits h in omega (arith, q)

-- the digits from t on, and those of the word shifted
module _ (s t : ℕ) where
  shifted-there : (u : ℕ) → t ≤ u → In s u → In (s / 2 ^ t) (u - t)
  shifted-there u h e = sym (digit-shifted s t (u - t)) ∙ ap (digit s) (let z : t + (u - t) ≡ u = omega arith in z) ∙ e

  pub nothing_left : s / 2 ^ t ≡ 0 → (u : ℕ) → t ≤ u → ¬ In s u
  nothing_left z u h e = none_in (u - t) (subst (λ (w : ℕ). In w (u - t)) z (shifted-there u h e))

  pub next-digit : s < 2 ^ word_digits → 0 < s / 2 ^ t → FirstAt s t word_digits (t + count_trailing_zeros word_digits (s / 2 ^ t))
  next-digit h p = record {
    after = omega arith;
    below = inside;
    within = inside;
    passed = λ u g l e. below-first word_digits (s / 2 ^ t) (u - t) (omega (arith, g, l)) (shifted-there u g e);
    there = found;
  }
    where
      found : In s (t + count_trailing_zeros word_digits (s / 2 ^ t))
      found = digit-shifted s t (count_trailing_zeros word_digits (s / 2 ^ t)) ∙ (first-in word_digits (s / 2 ^ t) p (omega (arith, h, shr_le s t))).1

      inside : t + count_trailing_zeros word_digits (s / 2 ^ t) < word_digits
      inside = within_word s (t + count_trailing_zeros word_digits (s / 2 ^ t)) h found
