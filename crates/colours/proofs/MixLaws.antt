-- Numbers mixed one after the other, and the first place of a link.
use Rattle.std.proofs.Common.{◌≡◌, ℕ, zero, suc, ◌+◌, ◌<◌, ◌≢◌, List, [], ◌∷◌, map, length, get_or, take, sym, refl, ap, add-one, arith}
use native.Mathlib.Decide.{ℕ_discrete}
use Rattle.hyperlmntal.specs.Link.{select}
use Rattle.colours.specs.Colours.{first_at}
use Rattle.colours.specs.Mixed.{mixed, mixed_all}

mixed-step : (f : ℕ → ℕ) (a : ℕ) (l : List ℕ) (k : ℕ) → k < length l → mixed (mixed_all a (map f (take k l))) (f (get_or l k 0)) ≡ mixed_all a (map f (take (suc k) l))
unfolding mixed_all
mixed-step f a [] k h = absurd (omega arith)
mixed-step f a (y ∷ l) zero h = refl
mixed-step f a (y ∷ l) (suc k) h = mixed-step f (mixed a (f y)) l k (omega arith)

-- one number more
pub mixed-next : (f : ℕ → ℕ) (a : ℕ) (l : List ℕ) (k : ℕ) → k < length l → mixed (mixed_all a (map f (take k l))) (f (get_or l k 0)) ≡ mixed_all a (map f (take (k + 1) l))
mixed-next f a l k h = rw (add-one k) (mixed-step f a l k h)

pub first-at : (x : ℕ) (l : List ℕ) (h : ℕ) → h < length l → get_or l h 0 ≡ x → ((g : ℕ) → g < h → get_or l g 0 ≢ x) → first_at x l ≡ h
unfolding first_at
first-at x [] h b e n = absurd (omega arith)
first-at x (y ∷ l) zero b e n = go (ℕ_discrete x y)
  where
    go : (d : Dec (x ≡ y)) → select d 0 (suc (first_at x l)) ≡ 0
    go (yes q) = refl
    go (no q) = absurd (q (sym e))
first-at x (y ∷ l) (suc h) b e n = go (ℕ_discrete x y) (first-at x l h (omega arith) e (λ g k. n (suc g) (omega arith)))
  where
    go : (d : Dec (x ≡ y)) → first_at x l ≡ h → select d 0 (suc (first_at x l)) ≡ suc h
    go (yes q) r = absurd (n 0 (omega arith) (sym q))
    go (no q) r = ap suc r
