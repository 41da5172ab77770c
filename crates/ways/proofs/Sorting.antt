-- The list of the figure links that stand on both halves.
use Rattle.std.proofs.Common.{◌≡◌, ℕ, suc, ◌+◌, ◌<◌, ◌≢◌, List, ◌∷◌, get_or, ap, subst, arith}
use mathlib.Core.List.Memᴰ
use native.Mathlib.Decide.{ℕ_discrete}
use Rattle.hyperlmntal.specs.Link.{◌∈◌}
use Rattle.ways.specs.Halves.{half_of, Crossing}

module _ (words flags : List ℕ) (side : ℕ) where
  -- One more link, which is listed.
  pub crossing-more : (x n : ℕ) → Crossing words flags side x n → Crossing words flags side (x + 1) (n + 1)
  crossing-more x n c = record { across = suc x ∷ c.across; number = let e = c.number in omega arith; all = all }
    where
      all : (i : ℕ) → i < x + 1 → get_or flags i 0 ≡ 1 → half_of (get_or words i 0) side ≡ 3 → suc i ∈ (suc x ∷ c.across)
      all i h f e = go (ℕ_discrete i x)
        where
          go : Dec (i ≡ x) → suc i ∈ (suc x ∷ c.across)
          go (yes d) = Memᴰ.head (ap suc d)
          go (no d) = Memᴰ.tail (c.all i (omega arith) f e)

  -- One that has no flag, or is not on both.
  pub crossing-skip : (x n : ℕ) → Crossing words flags side x n → (get_or flags x 0 ≡ 1 → half_of (get_or words x 0) side ≢ 3) → Crossing words flags side (x + 1) n
  crossing-skip x n c d = record { across = c.across; number = c.number; all = all }
    where
      all : (i : ℕ) → i < x + 1 → get_or flags i 0 ≡ 1 → half_of (get_or words i 0) side ≡ 3 → suc i ∈ c.across
      all i h f e = go (ℕ_discrete i x)
        where
          go : Dec (i ≡ x) → suc i ∈ c.across
          go (yes s) = absurd (d (subst (λ (k : ℕ). get_or flags k 0 ≡ 1) s f) (subst (λ (k : ℕ). half_of (get_or words k 0) side ≡ 3) s e))
          go (no s) = c.all i (omega arith) f e
