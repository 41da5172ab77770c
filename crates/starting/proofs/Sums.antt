-- Sums over a list in which no number stands twice.
use Prim.Native.Nat.{ℕ, ◌+◌, ◌≤◌}
use mathlib.Core.Path.{◌≡◌, refl, sym}
use mathlib.Core.Logic.{◌⊎◌, inl, inr}
use mathlib.Core.List.Memᴰ
use mathlib.Core.List.{List, [], ◌∷◌}
use native.Mathlib.Decide.{ℕ_discrete}
use native.Mathlib.Omega.{arith}
use Rattle.hyperlmntal.specs.Link.{◌∈◌}
use Rattle.reading.proofs.normal.Distinct.{Once}
use Rattle.placing.specs.Net.{Range}
use Rattle.network.specs.Sums.{sum_to}
use Rattle.network.proofs.Sums.{unless, without, without-to, sum-zero}

unfoldable pub sum_over : (ℕ → ℕ) → List ℕ → ℕ
sum_over f [] = 0
sum_over f (a ∷ l) = f a + sum_over f l

without-over : (f : ℕ → ℕ) (a : ℕ) (l : List ℕ) → ¬ (a ∈ l) → sum_over (without f a) l ≡ sum_over f l
unfolding sum_over
without-over f a [] n = refl
without-over f a (b ∷ l) n = go (ℕ_discrete b a) (without-over f a l (λ m. n (Memᴰ.tail m)))
  where
    go : (d : Dec (b ≡ a)) → sum_over (without f a) l ≡ sum_over f l → unless d (f b) + sum_over (without f a) l ≡ f b + sum_over f l
    go (yes e) r = absurd (n (Memᴰ.head (sym e)))
    go (no e) r = omega arith

pub sum-once-le : (f : ℕ → ℕ) (n : ℕ) (l : List ℕ) → Once l → ((a : ℕ) → a ∈ l → Range n a) → sum_over f l ≤ sum_to f n
unfolding sum_over
sum-once-le f n [] o b = omega arith
sum-once-le f n (a ∷ l) o b =
    let r = b a (Memᴰ.head refl) in
    omega (arith, without-over f a l o.0, without-to f a n r.0 r.1, sum-once-le (without f a) n l o.1 (λ c m. b c (Memᴰ.tail m)))

-- Equal, where f is 0 off the list.
pub sum-once-eq : (f : ℕ → ℕ) (n : ℕ) (l : List ℕ) → Once l → ((a : ℕ) → a ∈ l → Range n a) → ((j : ℕ) → Range n j → ¬ (j ∈ l) → f j ≡ 0) → sum_over f l ≡ sum_to f n
unfolding sum_over
sum-once-eq f n [] o b z = sym (sum-zero f n (λ j h. z j h Memᴰ.not-nil))
sum-once-eq f n (a ∷ l) o b z =
    let r = b a (Memᴰ.head refl) in
    omega (arith, without-over f a l o.0, without-to f a n r.0 r.1, sum-once-eq (without f a) n l o.1 (λ c m. b c (Memᴰ.tail m)) (λ j h m. go j h m (ℕ_discrete j a)))
  where
    go : (j : ℕ) → Range n j → ¬ (j ∈ l) → (d : Dec (j ≡ a)) → unless d (f j) ≡ 0
    go j h m (yes e) = refl
    go j h m (no e) = z j h (λ k. off (Memᴰ.cases_cons k))
      where
        off : (j ≡ a) ⊎ (j ∈ l) → ⊥
        off (inl q) = e q
        off (inr k) = m k
