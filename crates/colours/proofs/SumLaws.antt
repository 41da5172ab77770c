-- Sums whose numbers wrap: what is added at the places of one link, place by place.
use Rattle.std.proofs.Common.{◌≡◌, ℕ, zero, suc, ◌+◌, ◌-◌, ◌*◌, ◌/◌, ◌%◌, ◌<◌, List, [], ◌∷◌, length, get_or, take, set, sym, ap, ◌∙◌, div-add-mod', add-one, arith, get_or-set_other, get_or-set_same}
use native.Mathlib.Decide.{ℕ_discrete}
use native.Mathlib.Nat.{mul-add-mod_self_right}
use Rattle.hyperlmntal.specs.Link.{select}
use Rattle.placing.specs.Net.{Range}
use Rattle.colours.specs.Colours.{places_at}

-- the rest of a sum by the rest of a part of it
pub rest-added : (m a b : ℕ) → (a % m + b) % m ≡ (a + b) % m
rest-added m a b =
    let e : a / m * m + (a % m + b) ≡ a + b = omega (arith, div-add-mod' a m) in
    sym (mul-add-mod_self_right (a / m) m (a % m + b)) ∙ ap (λ (n : ℕ). n % m) e

-- one place more
places-step : (f : ℕ → ℕ) (x k : ℕ) (l : List ℕ) (i : ℕ) → i < length l → places_at f x k (take (suc i) l) ≡ places_at f x k (take i l) + select (ℕ_discrete x (get_or l i 0)) (f (k + i)) 0
unfolding places_at
places-step f x k [] i h = absurd (omega arith)
places-step f x k (y ∷ l) zero h = let e = ap (λ (n : ℕ). select (ℕ_discrete x y) (f n) 0) (let q : k ≡ k + 0 = omega arith in q) in omega (arith, e)
places-step f x k (y ∷ l) (suc i) h =
    let e = ap (λ (n : ℕ). select (ℕ_discrete x (get_or l i 0)) (f n) 0) (let q : suc k + i ≡ k + suc i = omega arith in q) in
    omega (arith, e, places-step f x (suc k) l i (omega arith))

places-next : (f : ℕ → ℕ) (x : ℕ) (l : List ℕ) (i : ℕ) → i < length l → places_at f x 0 (take (i + 1) l) ≡ places_at f x 0 (take i l) + select (ℕ_discrete x (get_or l i 0)) (f i) 0
places-next f x l i h = rw (add-one i) (places-step f x 0 l i h ∙ ap (λ (n : ℕ). places_at f x 0 (take i l) + select (ℕ_discrete x (get_or l i 0)) (f n) 0) (let e : 0 + i ≡ i = omega arith in e))

-- what place i adds to the number of its link
module _ (m : ℕ) (sums f : ℕ → ℕ) (around links : List ℕ) (n i r : ℕ) (room : length around ≡ n) (at : i < length links) (link : Range n (get_or links i 0)) where
  pub around-next : ((x : ℕ) → x < n → get_or around x 0 ≡ (sums x + places_at f (suc x) 0 (take i links)) % m) → r ≡ (get_or around (get_or links i 0 - 1) 0 + f i) % m
      → (x : ℕ) → x < n → get_or (set around (get_or links i 0 - 1) r) x 0 ≡ (sums x + places_at f (suc x) 0 (take (i + 1) links)) % m
  around-next before e x h = go (ℕ_discrete (suc x) (get_or links i 0)) (places-next f (suc x) links i at)
    where
      within : get_or links i 0 - 1 < length around
      within = let a = link.0 in let b = link.1 in omega arith

      go : (d : Dec (suc x ≡ get_or links i 0)) → places_at f (suc x) 0 (take (i + 1) links) ≡ places_at f (suc x) 0 (take i links) + select d (f i) 0
          → get_or (set around (get_or links i 0 - 1) r) x 0 ≡ (sums x + places_at f (suc x) 0 (take (i + 1) links)) % m
      go (yes q) p =
          let s : x ≡ get_or links i 0 - 1 = omega arith in
          ap (λ (z : ℕ). get_or (set around (get_or links i 0 - 1) r) z 0) s ∙ get_or-set_same around (get_or links i 0 - 1) r 0 within ∙ e
          ∙ ap (λ (z : ℕ). (get_or around z 0 + f i) % m) (sym s) ∙ ap (λ (z : ℕ). (z + f i) % m) (before x h) ∙ rest-added m (sums x + places_at f (suc x) 0 (take i links)) (f i)
          ∙ ap (λ (z : ℕ). z % m) (let t : (sums x + places_at f (suc x) 0 (take i links)) + f i ≡ sums x + places_at f (suc x) 0 (take (i + 1) links) = omega arith in t)
      go (no q) p =
          get_or-set_other around (get_or links i 0 - 1) x r 0 (λ s. q (let a = link.0 in omega arith)) ∙ before x h
          ∙ ap (λ (z : ℕ). z % m) (let t : sums x + places_at f (suc x) 0 (take i links) ≡ sums x + places_at f (suc x) 0 (take (i + 1) links) = omega arith in t)
