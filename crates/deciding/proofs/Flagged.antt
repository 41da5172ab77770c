-- The numbers that have a flag.
use Prim.Native.Nat.{ℕ, zero, suc, ◌+◌, ◌≤◌, ◌<◌}
use mathlib.Core.Path.{◌≡◌, refl, sym, ◌∙◌, ap}
use mathlib.Core.Logic.{◌≢◌}
use mathlib.Core.List.Memᴰ
use mathlib.Core.List.{List, [], ◌∷◌}
use mathlib.Core.Bool.{Bool, true, false}
use native.Mathlib.Decide.{dec_lt}
use native.Mathlib.Omega.{arith}
use lib.Dec.{eqb}
use lib.ListN.{length, take, get_or, set, length-take, get_or-eq_default}
use lib.Seq.{get_or-take, take-set-lt}
use borrow.Author.Tests.{eq-eqb, ne_eqb}
use Rattle.hyperlmntal.specs.Link.{◌∈◌}
use Rattle.rows.specs.Pick.{pick}
use Rattle.placing.specs.Fillings.{places_of}
use Rattle.placing.proofs.Orders.{places-in, places-out}
use Rattle.completing.specs.Leaf.{Ascending}
use Rattle.deciding.specs.Flags.{flagged}
use Rattle.deciding.proofs.Sets.{set_cases}

-- by their indices, from 0
pub flagged-in : (n : ℕ) (l : List ℕ) (x : ℕ) → x < n → get_or l x 0 ≡ 1 → suc x ∈ flagged n l
flagged-in n l x h e = Memᴰ.cast (let q : suc x ≡ 1 + x = omega arith in q) (places-in 1 1 (take n l) x (fits (dec_lt x (length l))) (get_or-take n l x 0 h ∙ e))
  where
    fits : Dec (x < length l) → x < length (take n l)
    fits (yes w) = omega (arith, length-take n l)
    fits (no w) = absurd (let z : ◌≡◌ {A = ℕ} 0 1 = sym (get_or-eq_default l 0 (let u : length l ≤ x = omega arith in u)) ∙ e in omega arith)

pub record FlaggedAt (n : ℕ) (l : List ℕ) (z : ℕ) : Type 0 where
  pub index : ℕ
  pub number : z ≡ suc index
  pub within : index < n
  pub flag : get_or l index 0 ≡ 1

pub flagged-out : (n : ℕ) (l : List ℕ) (z : ℕ) → z ∈ flagged n l → FlaggedAt n l z
flagged-out n l z m =
    let t = places-out 1 1 (take n l) z m in
    let h : t.0 < n = omega (arith, t.2, length-take n l) in
    record { index = t.0; number = t.1 ∙ (let q : 1 + t.0 ≡ suc t.0 = omega arith in q); within = h; flag = sym (get_or-take n l t.0 0 h) ∙ t.3 }

-- one flag cleared
module _ (n : ℕ) (l : List ℕ) (x : ℕ) (room : x < length l) where
  pub cleared-out : (z : ℕ) → z ∈ flagged n (set l x 0) → (z ∈ flagged n l) × (z ≢ suc x)
  cleared-out z m =
      let t = flagged-out n (set l x 0) z m in
      let f = set_cases (λ (v : ℕ). v ≡ 1 → (t.index ≢ x) × (get_or l t.index 0 ≡ 1)) l x 0 t.index room (λ e w. absurd (omega arith)) (λ d w. (d, w)) t.flag in
      (Memᴰ.cast t.number (flagged-in n l t.index t.within f.1), λ e. f.0 (let q : suc t.index ≡ suc x = sym t.number ∙ e in omega arith))

  pub cleared-in : (z : ℕ) → z ∈ flagged n l → z ≢ suc x → z ∈ flagged n (set l x 0)
  cleared-in z m d =
      let t = flagged-out n l z m in
      Memᴰ.cast t.number (flagged-in n (set l x 0) t.index t.within
      (set_cases (λ (v : ℕ). v ≡ 1) l x 0 t.index room (λ e. absurd (d (t.number ∙ ap suc e))) (λ e. t.flag)))

-- in ascending order, from s on
places-from : (s k : ℕ) (l : List ℕ) (z : ℕ) → z ∈ places_of s k l → s ≤ z
places-from s k l z m = let t = places-out s k l z m in let q : z ≡ s + t.0 = t.1 in omega arith

places-ascending : (s k : ℕ) (l : List ℕ) → Ascending (places_of s k l)
unfolding places_of
places-ascending s k [] = tt
places-ascending s k (n ∷ l) = go (eqb n k) (places-ascending (suc s) k l)
  where
    go : (t : Bool) → Ascending (places_of (suc s) k l) → Ascending (pick t (s ∷ places_of (suc s) k l) (places_of (suc s) k l))
    go true a = ((λ z m. let h : suc s ≤ z = places-from (suc s) k l z m in omega arith), a)
    go false a = a

pub flagged-ascending : (n : ℕ) (l : List ℕ) → Ascending (flagged n l)
flagged-ascending n l = places-ascending 1 1 (take n l)

-- the first flag is at x
places-first : (s : ℕ) (l : List ℕ) (x : ℕ) → ((z : ℕ) → z < x → get_or l z 0 ≢ 1) → x < length l → get_or l x 0 ≡ 1
    → places_of s 1 l ≡ (s + x) ∷ places_of s 1 (set l x 0)
unfolding places_of
places-first s [] x low h e = absurd (omega arith)
places-first s (n ∷ l) zero low h e = rw (eq-eqb n 1 e) (ap (λ (i : ℕ). i ∷ places_of (suc s) 1 l) (let q : s ≡ s + 0 = omega arith in q) ∙ refl)
places-first s (n ∷ l) (suc x) low h e =
    rw (ne_eqb n 1 (low 0 (omega arith)))
    (places-first (suc s) l x (λ z w. low (suc z) (omega arith)) (omega arith) e ∙ ap (λ (i : ℕ). i ∷ places_of (suc s) 1 (set l x 0)) (let q : suc s + x ≡ s + suc x = omega arith in q))

pub flagged-first : (n : ℕ) (l : List ℕ) (x : ℕ) → ((z : ℕ) → z < x → get_or l z 0 ≢ 1) → x < n → n ≤ length l → get_or l x 0 ≡ 1
    → flagged n l ≡ suc x ∷ flagged n (set l x 0)
flagged-first n l x low h room e =
    places-first 1 (take n l) x (λ z w f. low z w (sym (get_or-take n l z 0 (omega arith)) ∙ f)) (omega (arith, length-take n l)) (get_or-take n l x 0 h ∙ e)
    ∙ (ap (λ (m : List ℕ). (1 + x) ∷ places_of 1 1 m) (sym (take-set-lt n l x 0 h)) ∙ ap (λ (i : ℕ). i ∷ flagged n (set l x 0)) (let q : 1 + x ≡ suc x = omega arith in q))

-- no flag
places-none : (s : ℕ) (l : List ℕ) → ((z : ℕ) → z < length l → get_or l z 0 ≢ 1) → places_of s 1 l ≡ []
unfolding places_of
places-none s [] low = refl
places-none s (n ∷ l) low = rw (ne_eqb n 1 (low 0 (omega arith))) (places-none (suc s) l (λ z w. low (suc z) (omega arith)))

pub flagged-none : (n : ℕ) (l : List ℕ) → ((z : ℕ) → z < n → get_or l z 0 ≢ 1) → flagged n l ≡ []
flagged-none n l low = places-none 1 (take n l) (λ z w f. let h : z < n = omega (arith, length-take n l) in low z h (sym (get_or-take n l z 0 h) ∙ f))

-- a flag cleared makes one less
places-fewer : (s : ℕ) (l : List ℕ) (x : ℕ) → get_or l x 0 ≡ 1 → x < length l → length (places_of s 1 l) ≡ suc (length (places_of s 1 (set l x 0)))
unfolding places_of
places-fewer s [] x e h = absurd (omega arith)
places-fewer s (n ∷ l) zero e h = rw (eq-eqb n 1 e)
places-fewer s (n ∷ l) (suc x) e h = go (eqb n 1) (places-fewer (suc s) l x e (omega arith))
  where
    go : (t : Bool) → length (places_of (suc s) 1 l) ≡ suc (length (places_of (suc s) 1 (set l x 0)))
        → length (pick t (s ∷ places_of (suc s) 1 l) (places_of (suc s) 1 l)) ≡ suc (length (pick t (s ∷ places_of (suc s) 1 (set l x 0)) (places_of (suc s) 1 (set l x 0))))
    go true r = omega arith
    go false r = r

pub flagged-fewer : (n : ℕ) (l : List ℕ) (x : ℕ) → x < n → n ≤ length l → get_or l x 0 ≡ 1 → length (flagged n l) ≡ suc (length (flagged n (set l x 0)))
flagged-fewer n l x h room e =
    places-fewer 1 (take n l) x (get_or-take n l x 0 h ∙ e) (omega (arith, length-take n l)) ∙ ap (λ (m : List ℕ). suc (length (places_of 1 1 m))) (sym (take-set-lt n l x 0 h))
