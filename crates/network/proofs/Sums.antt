-- Sums over the numbers from 1 to n; a sum does not change under a bijection of what is summed.
use Prim.Native.Nat.{ℕ, zero, suc, ◌+◌, ◌*◌, ◌≤◌, ◌<◌}
use mathlib.Core.Path.{◌≡◌, refl, sym, ap, ◌∙◌}
use mathlib.Core.Logic.{◌⊎◌, inl, inr}
use native.Mathlib.Decide.{ℕ_discrete}
use native.Mathlib.Nat.{suc-mul}
use native.Mathlib.Omega.{arith}
use Rattle.placing.specs.Net.{Range}
use Rattle.network.specs.Sums.{sum_to}

abbrev pub unless : {A : Type 0} → Dec A → ℕ → ℕ
unless (yes a) n = 0
unless (no m) n = n

-- f, but 0 at a
abbrev pub without : (ℕ → ℕ) → ℕ → ℕ → ℕ
without f a j = unless (ℕ_discrete j a) (f j)

without-below : (f : ℕ → ℕ) (a n : ℕ) → n < a → sum_to (without f a) n ≡ sum_to f n
unfolding sum_to
without-below f a zero h = refl
without-below f a (suc n) h = go (ℕ_discrete (suc n) a) (without-below f a n (omega arith))
  where
    go : (d : Dec (suc n ≡ a)) → sum_to (without f a) n ≡ sum_to f n → unless d (f (suc n)) + sum_to (without f a) n ≡ f (suc n) + sum_to f n
    go (yes e) r = absurd (omega arith)
    go (no e) r = omega arith

pub without-to : (f : ℕ → ℕ) (a n : ℕ) → 1 ≤ a → a ≤ n → sum_to f n ≡ f a + sum_to (without f a) n
unfolding sum_to
without-to f a zero b h = absurd (omega arith)
without-to f a (suc n) b h = go (ℕ_discrete (suc n) a) (λ k. without-to f a n b k) (λ k. without-below f a n k)
  where
    go : (d : Dec (suc n ≡ a)) → (a ≤ n → sum_to f n ≡ f a + sum_to (without f a) n) → (n < a → sum_to (without f a) n ≡ sum_to f n) → f (suc n) + sum_to f n ≡ f a + (unless d (f (suc n)) + sum_to (without f a) n)
    go (yes e) r s = let t = s (omega arith) in let u : f (suc n) ≡ f a = ap f e in omega arith
    go (no e) r s = let t = r (omega arith) in omega arith

pub sum-zero : (f : ℕ → ℕ) (n : ℕ) → ((j : ℕ) → Range n j → f j ≡ 0) → sum_to f n ≡ 0
unfolding sum_to
sum-zero f zero h = refl
sum-zero f (suc n) h = omega (arith, h (suc n) (omega arith, omega arith), sum-zero f n (λ j k. let b : j ≤ n = k.1 in h j (k.0, omega arith)))

pub sum-front : (f : ℕ → ℕ) (n : ℕ) → sum_to f (suc n) ≡ f 1 + sum_to (λ j. f (suc j)) n
unfolding sum_to
sum-front f zero = omega arith
sum-front f (suc n) = omega (arith, sum-front f n)

pub sum_same : (f g : ℕ → ℕ) (n : ℕ) → ((j : ℕ) → Range n j → f j ≡ g j) → sum_to f n ≡ sum_to g n
unfolding sum_to
sum_same f g zero h = refl
sum_same f g (suc n) h = omega (arith, h (suc n) (omega arith, omega arith), sum_same f g n (λ j k. let b : j ≤ n = k.1 in h j (k.0, omega arith)))

-- Every term at most b.
pub sum-most : (f : ℕ → ℕ) (b n : ℕ) → ((j : ℕ) → Range n j → f j ≤ b) → sum_to f n ≤ n * b
unfolding sum_to
sum-most f b zero h = omega arith
sum-most f b (suc n) h = omega (arith, h (suc n) (omega arith, omega arith), sum-most f b n (λ j r. let q : j ≤ n = r.1 in h j (r.0, omega arith)), suc-mul n b)

range-more : (n j : ℕ) → Range n j → Range (suc n) j
range-more n j r = let b : j ≤ n = r.1 in (r.0, omega arith)

-- a number from 1 to n that goes to j
abbrev pub From : ℕ → (ℕ → ℕ) → ℕ → Type 0
From n to j = (i : ℕ) × Range n i × (to i ≡ j)

-- Where g is 0 at what nothing goes to.
sum-into : (to f g : ℕ → ℕ) (n m : ℕ) → ((i : ℕ) → Range n i → Range m (to i)) → ((i j : ℕ) → Range n i → Range n j → to i ≡ to j → i ≡ j)
    → ((i : ℕ) → Range n i → f i ≡ g (to i)) → ((j : ℕ) → Range m j → From n to j ⊎ (g j ≡ 0)) → sum_to f n ≡ sum_to g m
unfolding sum_to
sum-into to f g zero m within one same all = sym (sum-zero g m (λ j r. go j (all j r)))
  where
    go : (j : ℕ) → From 0 to j ⊎ (g j ≡ 0) → g j ≡ 0
    go j (inl (i, r, e)) = let a : 1 ≤ i = r.0 in let b : i ≤ 0 = r.1 in absurd (omega arith)
    go j (inr e) = e
sum-into to f g (suc n) m within one same all =
    omega (
      arith,
      same (suc n) last,
      without-to g (to (suc n)) m (within (suc n) last).0 (within (suc n) last).1,
      sum-into to f (without g (to (suc n))) n m (λ i r. within i (range-more n i r)) (λ i j r s. one i j (range-more n i r) (range-more n j s)) (λ i r. keep i r (ℕ_discrete (to i) (to (suc n)))) (λ j r. left j (ℕ_discrete j (to (suc n))) (all j r)),
    )
  where
    last : Range (suc n) (suc n)
    last = (omega arith, omega arith)

    keep : (i : ℕ) → Range n i → (d : Dec (to i ≡ to (suc n))) → f i ≡ unless d (g (to i))
    keep i r (yes e) = let b : i ≤ n = r.1 in let c : i ≡ suc n = one i (suc n) (range-more n i r) last e in absurd (omega arith)
    keep i r (no e) = same i (range-more n i r)

    left : (j : ℕ) → (d : Dec (j ≡ to (suc n))) → From (suc n) to j ⊎ (g j ≡ 0) → From n to j ⊎ (unless d (g j) ≡ 0)
    left j (yes e) c = inr refl
    left j (no e) (inr z) = inr z
    left j (no e) (inl (i, r, q)) = inl (i, (r.0, low (ℕ_discrete i (suc n))), q)
      where
        low : Dec (i ≡ suc n) → i ≤ n
        low (yes h) = absurd (e (sym q ∙ ap to h))
        low (no h) = let b : i ≤ suc n = r.1 in omega arith

-- a bijection of the numbers from 1 to n with those from 1 to m
pub record Across (n m : ℕ) (to : ℕ → ℕ) : Type 0 where
  pub within : (i : ℕ) → Range n i → Range m (to i)
  pub one : (i j : ℕ) → Range n i → Range n j → to i ≡ to j → i ≡ j
  pub all : (j : ℕ) → Range m j → From n to j

-- Two sums whose terms go across are equal.
pub sum-across : (n m : ℕ) (to : ℕ → ℕ) → Across n m to → (f g : ℕ → ℕ) → ((i : ℕ) → Range n i → f i ≡ g (to i)) → sum_to f n ≡ sum_to g m
sum-across n m to a f g same = sum-into to f g n m a.within a.one same (λ j r. inl (a.all j r))
