-- The only number of a set: t is the first of row, which is what is left where `one` is taken out.
use Prim.Native.Nat.{ℕ, ◌<◌, ◌≤◌, ◌^◌}
use mathlib.Core.Path.{◌≡◌, sym, ◌∙◌, ap, subst}
use mathlib.Core.Logic.{◌≢◌, ◌↔◌}
use mathlib.Core.List.{List}
use native.Mathlib.Omega.{arith}
use lib.Count.{count_trailing_zeros}
use lib.ListN.{get_or}
use Rattle.std.specs.Prelude.{None, Some}
use Rattle.candidates.specs.Words.{word_digits, In, alone, fewer}
use Rattle.candidates.specs.Forced.{Only}
use Rattle.candidates.proofs.Digits.{none_in, in-dec, first-in, alone-in, alone-only, fewer-in, in-fewer}

module _ (atoms : List ℕ) (k n : ℕ) where
  none_only : ((t : ℕ) → ¬ Only atoms k n t) → (t : ℕ) → (None ≡ Some t) ↔ Only atoms k n t
  none_only f t = ((λ (e : None ≡ Some t). cc), λ o. absurd (f t o))

  pub empty-only : get_or atoms k 0 ≡ 0 → (t : ℕ) → (None ≡ Some t) ↔ Only atoms k n t
  empty-only z = none_only (λ t o. none_in t (subst (λ (w : ℕ). In w t) z o.1))

  module _ (first : ℕ) (there : In (get_or atoms k 0) first) where
    -- what is the only one is the first
    is-first : (t : ℕ) → Only atoms k n t → first ≡ t
    is-first t o = o.2 first there

    pub beyond-only : n ≤ first → (t : ℕ) → (None ≡ Some t) ↔ Only atoms k n t
    beyond-only h = none_only (λ t o. absurd (omega (arith, h, o.0, is-first t o)))

    module _ (one rest : ℕ) (e : one ≡ alone first) (f : rest ≡ fewer (get_or atoms k 0) one) where
      -- another one is left
      pub several-only : rest ≢ 0 → rest < 2 ^ word_digits → (t : ℕ) → (None ≡ Some t) ↔ Only atoms k n t
      several-only some small = none_only other
        where
          other : (t : ℕ) → ¬ Only atoms k n t
          other t o =
              let u = count_trailing_zeros word_digits rest in
              let w = fewer-in (get_or atoms k 0) one rest f u (first-in word_digits rest (omega (arith, some)) small).1 in
              w.1 (subst (In one) (is-first t o ∙ sym (o.2 u w.0)) (alone-in first one e))

      -- nothing else is left
      pub first-only : rest ≡ 0 → first < n → (t : ℕ) → (Some first ≡ Some t) ↔ Only atoms k n t
      first-only none h t = ((λ (q : Some first ≡ Some t). let same : first ≡ t = cc in subst (Only atoms k n) same (h, there, λ u i. go u i (in-dec one u))), λ o. ap Some (is-first t o))
        where
          go : (u : ℕ) → In (get_or atoms k 0) u → Dec (In one u) → u ≡ first
          go u i (yes a) = alone-only first one e u a
          go u i (no a) = absurd (none_in u (subst (λ (w : ℕ). In w u) none (in-fewer (get_or atoms k 0) one rest f u i a)))
