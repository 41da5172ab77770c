-- A list after a store.
use Prim.Native.Nat.{ℕ, suc, ◌≤◌, ◌<◌}
use mathlib.Core.Path.{◌≡◌, sym, subst}
use mathlib.Core.Logic.{◌≢◌}
use mathlib.Core.List.{List}
use native.Mathlib.Decide.{ℕ_discrete, dec_lt}
use native.Mathlib.Omega.{arith}
use lib.ListN.{length, get_or, set}
use lib.Seq.{get_or-set_same, get_or-set_other}

-- what stands at x after a store at i
pub set_cases : (P : ℕ → Type 0) (l : List ℕ) (i v x : ℕ) → i < length l → (x ≡ i → P v) → (x ≢ i → P (get_or l x 0)) → P (get_or (set l i v) x 0)
set_cases P l i v x h a b = go (ℕ_discrete x i)
  where
    go : Dec (x ≡ i) → P (get_or (set l i v) x 0)
    go (yes e) = subst (λ (z : ℕ). P (get_or (set l i v) z 0)) (sym e) (subst P (sym (get_or-set_same l i v 0 h)) (a e))
    go (no n) = subst P (sym (get_or-set_other l i x v 0 n)) (b n)

-- below k + 1: below k, or k
pub below-cases : (P : ℕ → Type 0) (k i : ℕ) → i < suc k → (i < k → P i) → P k → P i
below-cases P k i h a b = go (dec_lt i k)
  where
    go : Dec (i < k) → P i
    go (yes w) = a w
    go (no n) = let e : k ≡ i = omega arith in subst P e b

pub below_or : (a b : ℕ) → a ≤ b → a ≢ b → a < b
below_or a b h n = go (dec_lt a b)
  where
    go : Dec (a < b) → a < b
    go (yes k) = k
    go (no k) = absurd (n (omega arith))
