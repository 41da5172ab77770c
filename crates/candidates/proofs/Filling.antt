-- Sets stored one after another.
use Prim.Native.Nat.{ℕ, ◌+◌, ◌*◌, ◌≤◌, ◌<◌}
use mathlib.Core.Path.{◌≡◌, sym, subst}
use mathlib.Core.List.{List}
use native.Mathlib.Decide.{ℕ_discrete}
use native.Mathlib.Omega.{arith}
use lib.ListN.{length, set}
use lib.Seq.{get_or-set_same, get_or-set_other}
use Rattle.rows.specs.Limits.{sheet_link_limit}
use Rattle.candidates.specs.Words.{In, InPair}
use Rattle.candidates.specs.Tables.{AtomIn, LinkIn}
use Rattle.candidates.proofs.Halves.{stored, pair-stored, stored_other}

module _ (P : ℕ → ℕ → Type 0) (l : List ℕ) (i n : ℕ) where
  -- the word of figure atom i, after those before it
  pub atoms-next : (v : ℕ) → i < length l → ((j u : ℕ) → j < i → u < n → P j u → AtomIn l j u) → ((u : ℕ) → u < n → P i u → In v u)
      → (j u : ℕ) → j < i + 1 → u < n → P j u → AtomIn (set l i v) j u
  atoms-next v room before here j u h k p = go (ℕ_discrete j i)
    where
      go : Dec (j ≡ i) → AtomIn (set l i v) j u
      go (yes e) = subst (λ (z : ℕ). AtomIn (set l i v) z u) (sym e) (subst (λ (w : ℕ). In w u) (sym (get_or-set_same l i v 0 room)) (here u k (subst (λ (z : ℕ). P z u) e p)))
      go (no d) = subst (λ (w : ℕ). In w u) (sym (get_or-set_other l i j v 0 d)) (before j u (omega (arith, h, d)) k p)

  -- the two words of figure link i
  pub links-next : (pair : List ℕ) → i * 2 + 1 < length l → n ≤ sheet_link_limit → ((x y : ℕ) → x < i → y < n → P x y → LinkIn l x y) → ((y : ℕ) → y < n → P i y → InPair pair y)
      → (x y : ℕ) → x < i + 1 → y < n → P x y → LinkIn (stored l i pair) x y
  links-next pair room few before here x y h k p = go (ℕ_discrete x i)
    where
      within : y < sheet_link_limit
      within = omega (arith, k, few)

      go : Dec (x ≡ i) → LinkIn (stored l i pair) x y
      go (yes e) = subst (λ (z : ℕ). LinkIn (stored l i pair) z y) (sym e) (pair-stored l i pair y within room (here y k (subst (λ (z : ℕ). P z y) e p)))
      go (no d) = stored_other l i pair x y within d (before x y (omega (arith, h, d)) k p)
