-- Places of a number in a list, contexts in ascending order, and lists with the same members.
use Prim.Native.Nat.{ℕ, zero, suc, ◌+◌, ◌≤◌, ◌<◌}
use mathlib.Core.Path.{◌≡◌, refl, ap, sym, ◌∙◌, subst}
use mathlib.Core.Logic.{◌⊎◌, inl, inr, ◌≢◌}
use mathlib.Core.Bool.{Bool, true, false}
use mathlib.Core.List.Memᴰ
use mathlib.Core.List.{List, [], ◌∷◌, ◌++◌}
use mathlib.Core.Option.{some}
use native.Mathlib.Omega.{arith}
use native.Mathlib.Decide.{ℕ_discrete}
use borrow.Author.Tests.{eqb-true, eqb-false}
use lib.Dec.{eqb, ltb}
use lib.ListN.{length, get_or, get_elem?}
use Rattle.hyperlmntal.specs.Link.{◌∈◌}
use Rattle.hyperlmntal.proofs.Lists.{Perm, empty, keep, after, perm-front}
use Rattle.hyperlmntal.proofs.Positions.{some-injective}
use Rattle.rows.specs.Pick.{pick}
use Rattle.reading.proofs.normal.Distinct.{Once}
use Rattle.placing.specs.Net.{NetCell, Range, Apart}
use Rattle.placing.specs.Fillings.{places_of, with_context, by_number}
use Rattle.placing.specs.Smallest.{table}
use Rattle.placing.proofs.Lists.{member-at, at-member, get_d_of}

-- The numbers from s on.
pub count-in : (s n j : ℕ) → s ≤ j → j < s + n → j ∈ table (λ i. i) s n
count-in s zero j p q = absurd (omega arith)
count-in s (suc n) j p q = at (ℕ_discrete j s) (λ h. count-in (suc s) n j h (omega arith))
  where
    at : Dec (j ≡ s) → (suc s ≤ j → j ∈ table (λ i. i) (suc s) n) → j ∈ (s ∷ table (λ i. i) (suc s) n)
    at (yes e) f = Memᴰ.head e
    at (no k) f = Memᴰ.tail (f (omega arith))

pub count-out : (s n j : ℕ) → j ∈ table (λ i. i) s n → (s ≤ j) × (j < s + n)
count-out s zero j m = absurd (Memᴰ.not-nil m)
count-out s (suc n) j m = at (Memᴰ.cases_cons m) (count-out (suc s) n j)
  where
    at : (j ≡ s) ⊎ (j ∈ table (λ i. i) (suc s) n) → (j ∈ table (λ i. i) (suc s) n → (suc s ≤ j) × (j < suc s + n)) → (s ≤ j) × (j < s + suc n)
    at (inl e) f = (omega arith, omega arith)
    at (inr k) f = let t = f k in let a : suc s ≤ j = t.0 in let b : j < suc s + n = t.1 in (omega arith, omega arith)

pub count-once : (s n : ℕ) → Once (table (λ i. i) s n)
count-once s zero = tt
count-once s (suc n) = (λ m. let h : suc s ≤ s = (count-out (suc s) n s m).0 in omega arith, count-once (suc s) n)

-- The numbers from 1 to n.
abbrev pub up_to : ℕ → List ℕ
up_to n = table (λ i. i) 1 n

pub up-to-in : (n j : ℕ) → Range n j → j ∈ up_to n
up-to-in n j h = let b : j ≤ n = h.1 in count-in 1 n j h.0 (omega arith)

pub up-to-out : (n j : ℕ) → j ∈ up_to n → Range n j
up-to-out n j m = let t = count-out 1 n j m in let b : j < 1 + n = t.1 in (t.0, omega arith)

-- The places of a number.
pub places-in : (s k : ℕ) (l : List ℕ) (j : ℕ) → j < length l → get_or l j 0 ≡ k → s + j ∈ places_of s k l
unfolding places_of
places-in s k [] j h e = absurd (omega arith)
places-in s k (n ∷ l) j h e = at (eqb n k) refl j h e (λ i h e. places-in (suc s) k l i h e)
  where
    at : (t : Bool) → eqb n k ≡ t → (j : ℕ) → j < suc (length l) → get_or (n ∷ l) j 0 ≡ k → ((i : ℕ) → i < length l → get_or l i 0 ≡ k → suc s + i ∈ places_of (suc s) k l) → s + j ∈ pick t (s ∷ places_of (suc s) k l) (places_of (suc s) k l)
    at true q zero h e f = Memᴰ.head (let z : s + 0 ≡ s = omega arith in z)
    at false q zero h e f = absurd (eqb-false _ _ q e)
    at true q (suc j) h e f = Memᴰ.tail (Memᴰ.cast (let z : s + suc j ≡ suc s + j = omega arith in z) (f j (omega arith) e))
    at false q (suc j) h e f = Memᴰ.cast (let z : s + suc j ≡ suc s + j = omega arith in z) (f j (omega arith) e)

pub places-out : (s k : ℕ) (l : List ℕ) (i : ℕ) → i ∈ places_of s k l → (j : ℕ) × (i ≡ s + j) × (j < length l) × (get_or l j 0 ≡ k)
unfolding places_of
places-out s k [] i m = absurd (Memᴰ.not-nil m)
places-out s k (n ∷ l) i m = at (eqb n k) refl m (places-out (suc s) k l i)
  where
    Place : ℕ → List ℕ → Type 0
    Place s l = (j : ℕ) × (i ≡ s + j) × (j < length l) × (get_or l j 0 ≡ k)

    next : Place (suc s) l → Place s (n ∷ l)
    next t = let a : i ≡ suc s + t.0 = t.1 in let b : t.0 < length l = t.2 in (suc t.0, omega arith, omega arith, t.3)

    first : n ≡ k → (i ≡ s) ⊎ (i ∈ places_of (suc s) k l) → (i ∈ places_of (suc s) k l → Place (suc s) l) → Place s (n ∷ l)
    first q (inl e) f = (0, omega arith, omega arith, q)
    first q (inr j) f = next (f j)

    at : (t : Bool) → eqb n k ≡ t → i ∈ pick t (s ∷ places_of (suc s) k l) (places_of (suc s) k l) → (i ∈ places_of (suc s) k l → Place (suc s) l) → Place s (n ∷ l)
    at true q m f = first (eqb-true _ _ q) (Memᴰ.cases_cons m) f
    at false q m f = next (f m)

pub places-once : (s k : ℕ) (l : List ℕ) → Once (places_of s k l)
unfolding places_of
places-once s k [] = tt
places-once s k (n ∷ l) = at (eqb n k) (places-once (suc s) k l)
  where
    at : (t : Bool) → Once (places_of (suc s) k l) → Once (pick t (s ∷ places_of (suc s) k l) (places_of (suc s) k l))
    at true o = (λ m. let t = places-out (suc s) k l s m in let e : s ≡ suc s + t.0 = t.1 in omega arith, o)
    at false o = o

-- Contexts in ascending order are the same contexts.
with_in : (c d : NetCell) (l : List NetCell) → (d ≡ c) ⊎ (d ∈ l) → d ∈ with_context c l
unfolding with_context
with_in c d [] (inl e) = Memᴰ.head e
with_in c d [] (inr m) = absurd (Memᴰ.not-nil m)
with_in c d (b ∷ l) o = at (ltb c.0 b.0) o (with_in c d l)
  where
    rest : (d ≡ b) ⊎ (d ∈ l) → ((d ≡ c) ⊎ (d ∈ l) → d ∈ with_context c l) → d ∈ (b ∷ with_context c l)
    rest (inl e) f = Memᴰ.head e
    rest (inr m) f = Memᴰ.tail (f (inr m))

    at : (t : Bool) → (d ≡ c) ⊎ (d ∈ (b ∷ l)) → ((d ≡ c) ⊎ (d ∈ l) → d ∈ with_context c l) → d ∈ pick t (c ∷ b ∷ l) (b ∷ with_context c l)
    at true (inl e) f = Memᴰ.head e
    at true (inr m) f = Memᴰ.tail m
    at false (inl e) f = Memᴰ.tail (f (inl e))
    at false (inr m) f = rest (Memᴰ.cases_cons m) f

with_out : (c d : NetCell) (l : List NetCell) → d ∈ with_context c l → d ∈ (c ∷ l)
unfolding with_context
with_out c d [] m = m
with_out c d (b ∷ l) m = at (ltb c.0 b.0) m (with_out c d l)
  where
    first : (d ≡ c) ⊎ (d ∈ l) → d ∈ (c ∷ b ∷ l)
    first (inl e) = Memᴰ.head e
    first (inr m) = Memᴰ.tail (Memᴰ.tail m)

    rest : (d ≡ b) ⊎ (d ∈ with_context c l) → (d ∈ with_context c l → d ∈ (c ∷ l)) → d ∈ (c ∷ b ∷ l)
    rest (inl e) f = Memᴰ.tail (Memᴰ.head e)
    rest (inr m) f = first (Memᴰ.cases_cons (f m))

    at : (t : Bool) → d ∈ pick t (c ∷ b ∷ l) (b ∷ with_context c l) → (d ∈ with_context c l → d ∈ (c ∷ l)) → d ∈ (c ∷ b ∷ l)
    at true m f = m
    at false m f = rest (Memᴰ.cases_cons m) f

pub by-number-in : (l : List NetCell) (d : NetCell) → d ∈ l → d ∈ by_number l
unfolding by_number
by-number-in [] d m = m
by-number-in (c ∷ l) d m = at (Memᴰ.cases_cons m) (by-number-in l d)
  where
    at : (d ≡ c) ⊎ (d ∈ l) → (d ∈ l → d ∈ by_number l) → d ∈ with_context c (by_number l)
    at (inl e) f = with_in c d (by_number l) (inl e)
    at (inr m) f = with_in c d (by_number l) (inr (f m))

pub by-number-out : (l : List NetCell) (d : NetCell) → d ∈ by_number l → d ∈ l
unfolding by_number
by-number-out [] d m = m
by-number-out (c ∷ l) d m = at (Memᴰ.cases_cons (with_out c d (by_number l) m)) (by-number-out l d)
  where
    at : (d ≡ c) ⊎ (d ∈ by_number l) → (d ∈ by_number l → d ∈ l) → d ∈ (c ∷ l)
    at (inl e) f = Memᴰ.head e
    at (inr m) f = Memᴰ.tail (f m)

-- Contexts with different numbers: one number, one place.
pub apart-place : (l : List NetCell) → Apart l → (i j : ℕ) (c d : NetCell) → get_elem? l i ≡ some c → get_elem? l j ≡ some d → c.0 ≡ d.0 → i ≡ j
apart-place [] a i j c d p q e = absurd (let z : ◌≡◌ {A = ℕ} 0 1 = cc in omega arith)
apart-place (b ∷ l) a zero zero c d p q e = refl
apart-place (b ∷ l) a zero (suc j) c d p q e = absurd (a.0 d (at-member l j d q) (ap (λ x. x.0) (some-injective p) ∙ e))
apart-place (b ∷ l) a (suc i) zero c d p q e = absurd (a.0 c (at-member l i c p) (ap (λ x. x.0) (some-injective q) ∙ sym e))
apart-place (b ∷ l) a (suc i) (suc j) c d p q e = ap suc (apart-place l a.1 i j c d p q e)

pub apart-same : (l : List NetCell) → Apart l → (c d : NetCell) → c ∈ l → d ∈ l → c.0 ≡ d.0 → c ≡ d
apart-same l a c d m k e =
    let s = member-at l c m in
    let t = member-at l d k in
    some-injective (sym s.2 ∙ ap (get_elem? l) (apart-place l a s.0 t.0 c d s.2 t.2 e) ∙ t.2)

-- Lists with no number twice and the same members differ by the order.
pub once-append : (l k : List ℕ) → Once l → Once k → ((j : ℕ) → j ∈ l → ¬ (j ∈ k)) → Once (l ++ k)
once-append [] k a b h = b
once-append (i ∷ l) k a b h = (λ m. at (Memᴰ.append_cases l m), once-append l k a.1 b (λ j m. h j (Memᴰ.tail m)))
  where
    at : (i ∈ l) ⊎ (i ∈ k) → ⊥
    at (inl m) = a.0 m
    at (inr m) = h i (Memᴰ.head refl) m

pub once-by-place : (l : List ℕ) → ((i j : ℕ) → i < length l → j < length l → get_or l i 0 ≡ get_or l j 0 → i ≡ j) → Once l
once-by-place [] h = tt
once-by-place (x ∷ l) h = (
  λ m. let t = member-at l x m in let a : t.0 < length l = t.1 in let b : ◌≡◌ {A = ℕ} 0 (suc t.0) = h 0 (suc t.0) (omega arith) (omega arith) (sym (get_d_of l t.0 0 x t.2)) in omega arith,
  once-by-place l (λ i j a b e. let q : suc i ≡ suc j = h (suc i) (suc j) (omega arith) (omega arith) e in omega arith),
)

split_at : (k : List ℕ) (j : ℕ) → j ∈ k → (a : List ℕ) × (b : List ℕ) × (k ≡ a ++ (j ∷ b))
split_at [] j m = absurd (Memᴰ.not-nil m)
split_at (i ∷ k) j m = at (Memᴰ.cases_cons m) (split_at k j)
  where
    at : (j ≡ i) ⊎ (j ∈ k) → (j ∈ k → (a : List ℕ) × (b : List ℕ) × (k ≡ a ++ (j ∷ b))) → (a : List ℕ) × (b : List ℕ) × (i ∷ k ≡ a ++ (j ∷ b))
    at (inl e) f = ([], k, ap (λ x. x ∷ k) (sym e))
    at (inr n) f = let t = f n in (i ∷ t.0, t.1, ap (λ x. i ∷ x) t.2)

widen : (a b : List ℕ) (j i : ℕ) → i ∈ a ++ b → i ∈ a ++ (j ∷ b)
widen a b j i m = at (Memᴰ.append_cases a m)
  where
    at : (i ∈ a) ⊎ (i ∈ b) → i ∈ a ++ (j ∷ b)
    at (inl k) = Memᴰ.append_left (j ∷ b) k
    at (inr k) = Memᴰ.append_right a (Memᴰ.tail k)

narrow : (a b : List ℕ) (j i : ℕ) → i ≢ j → i ∈ a ++ (j ∷ b) → i ∈ a ++ b
narrow a b j i n m = at (Memᴰ.append_cases a m)
  where
    rest : (i ≡ j) ⊎ (i ∈ b) → i ∈ a ++ b
    rest (inl e) = absurd (n e)
    rest (inr k) = Memᴰ.append_right a k

    at : (i ∈ a) ⊎ (i ∈ (j ∷ b)) → i ∈ a ++ b
    at (inl k) = Memᴰ.append_left b k
    at (inr k) = rest (Memᴰ.cases_cons k)

once-without : (a : List ℕ) (j : ℕ) (b : List ℕ) → Once (a ++ (j ∷ b)) → Once (a ++ b) × ¬ (j ∈ a ++ b)
once-without [] j b n = (n.1, n.0)
once-without (i ∷ a) j b n = let t = once-without a j b n.1 in ((λ m. n.0 (widen a b j i m), t.0), λ m. at t.1 (Memᴰ.cases_cons m))
  where
    at : ¬ (j ∈ a ++ b) → (j ≡ i) ⊎ (j ∈ a ++ b) → ⊥
    at f (inl e) = n.0 (Memᴰ.append_right a (Memᴰ.head (sym e)))
    at f (inr m) = f m

pub once-perm : (l k : List ℕ) → Once l → Once k → ((j : ℕ) → j ∈ l → j ∈ k) → ((j : ℕ) → j ∈ k → j ∈ l) → Perm l k
once-perm [] [] a b f g = empty
once-perm [] (j ∷ k) a b f g = absurd (Memᴰ.not-nil (g j (Memᴰ.head refl)))
once-perm (j ∷ l) k a b f g = subst (λ x. Perm (j ∷ l) x) (sym t.2) (after (keep (once-perm l (t.0 ++ t.1) a.1 d.0 there here)) (perm-front j t.0 t.1))
  where
    t : (x : List ℕ) × (y : List ℕ) × (k ≡ x ++ (j ∷ y))
    t = split_at k j (f j (Memᴰ.head refl))

    d : Once (t.0 ++ t.1) × ¬ (j ∈ t.0 ++ t.1)
    d = once-without t.0 j t.1 (subst Once t.2 b)

    there : (i : ℕ) → i ∈ l → i ∈ t.0 ++ t.1
    there i m = narrow t.0 t.1 j i (λ e. a.0 (Memᴰ.cast (sym e) m)) (subst (λ x. i ∈ x) t.2 (f i (Memᴰ.tail m)))

    here : (i : ℕ) → i ∈ t.0 ++ t.1 → i ∈ l
    here i m = at (Memᴰ.cases_cons (g i (subst (λ x. i ∈ x) (sym t.2) (widen t.0 t.1 j i m))))
      where
        at : (i ≡ j) ⊎ (i ∈ l) → i ∈ l
        at (inl e) = absurd (d.1 (Memᴰ.cast (sym e) m))
        at (inr n) = n
