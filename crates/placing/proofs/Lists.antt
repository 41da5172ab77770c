-- Lists by position, tables of values, related lists, and a search through a list.
use Prim.Native.Nat.{ℕ, zero, suc, ◌+◌, ◌<◌}
use mathlib.Core.Path.{◌≡◌, refl, ap, ap₂, sym, ◌∙◌, subst, subst₂}
use mathlib.Core.Logic.{◌⊎◌, inl, inr}
use mathlib.Core.List.Memᴰ
use mathlib.Core.List.{List, [], ◌∷◌, ◌++◌, map}
use mathlib.Core.Option.{some}
use native.Mathlib.Omega.{arith}
use lib.ListN.{length, get_or, get_elem?}
use Rattle.hyperlmntal.specs.Link.{◌∈◌}
use Rattle.hyperlmntal.proofs.Lists.{Each, done, more}
use Rattle.hyperlmntal.proofs.Positions.{some-injective}
use Rattle.placing.specs.Smallest.{table}

-- What stands at a position.
pub at_left : {A : Type 0} (k l : List A) (i : ℕ) → i < length k → get_elem? (k ++ l) i ≡ get_elem? k i
at_left [] l i h = absurd (omega arith)
at_left (a ∷ k) l zero h = refl
at_left (a ∷ k) l (suc i) h = at_left k l i (omega arith)

pub at_right : {A : Type 0} (k l : List A) (i : ℕ) → get_elem? (k ++ l) (length k + i) ≡ get_elem? l i
at_right [] l i = ap (get_elem? l) (let q : 0 + i ≡ i = omega arith in q)
at_right (a ∷ k) l i = ap (get_elem? (a ∷ (k ++ l))) (let q : suc (length k) + i ≡ suc (length k + i) = omega arith in q) ∙ at_right k l i

pub at_map : {A B : Type 0} (f : A → B) (l : List A) (i : ℕ) (a : A) → get_elem? l i ≡ some a → get_elem? (map f l) i ≡ some (f a)
at_map f [] i a e = absurd (let z : ◌≡◌ {A = ℕ} 0 1 = cc in omega arith)
at_map f (b ∷ l) zero a e = ap (λ c. some (f c)) (some-injective e)
at_map f (b ∷ l) (suc i) a e = at_map f l i a e

pub at-of-map : {A B : Type 0} (f : A → B) (l : List A) (i : ℕ) (b : B) → get_elem? (map f l) i ≡ some b → (a : A) × (get_elem? l i ≡ some a) × (f a ≡ b)
at-of-map f [] i b e = absurd (let z : ◌≡◌ {A = ℕ} 0 1 = cc in omega arith)
at-of-map f (a ∷ l) zero b e = (a, refl, some-injective e)
at-of-map f (a ∷ l) (suc i) b e = at-of-map f l i b e

pub at-get_d : {A : Type 0} (l : List A) (i : ℕ) (d : A) → i < length l → get_elem? l i ≡ some (get_or l i d)
at-get_d [] i d h = absurd (omega arith)
at-get_d (a ∷ l) zero d h = refl
at-get_d (a ∷ l) (suc i) d h = at-get_d l i d (omega arith)

pub get_d_of : {A : Type 0} (l : List A) (i : ℕ) (d a : A) → get_elem? l i ≡ some a → get_or l i d ≡ a
get_d_of [] i d a e = absurd (let z : ◌≡◌ {A = ℕ} 0 1 = cc in omega arith)
get_d_of (b ∷ l) zero d a e = some-injective e
get_d_of (b ∷ l) (suc i) d a e = get_d_of l i d a e

pub at-member : {A : Type 0} (l : List A) (i : ℕ) (a : A) → get_elem? l i ≡ some a → a ∈ l
at-member [] i a e = absurd (let z : ◌≡◌ {A = ℕ} 0 1 = cc in omega arith)
at-member (b ∷ l) zero a e = Memᴰ.head (sym (some-injective e))
at-member (b ∷ l) (suc i) a e = Memᴰ.tail (at-member l i a e)

pub member-at : {A : Type 0} (l : List A) (a : A) → a ∈ l → (i : ℕ) × (i < length l) × (get_elem? l i ≡ some a)
member-at [] a m = absurd (Memᴰ.not-nil m)
member-at {A} (b ∷ l) a m = at (Memᴰ.cases_cons m) (λ k. member-at l a k)
  where
    at : (a ≡ b) ⊎ (a ∈ l) → (a ∈ l → (i : ℕ) × (i < length l) × (get_elem? l i ≡ some a)) → (i : ℕ) × (i < suc (length l)) × (get_elem? (b ∷ l) i ≡ some a)
    at (inl e) f = (0, omega arith, ap some (sym e))
    at (inr k) f = let t = f k in (suc t.0, (let h : t.0 < length l = t.1 in omega arith), t.2)

-- Tables of values, by position.
pub table-length : {A : Type 0} (g : ℕ → A) (s n : ℕ) → length (table g s n) ≡ n
table-length g s zero = refl
table-length g s (suc n) = ap suc (table-length g (suc s) n)

pub table_at : {A : Type 0} (g : ℕ → A) (s n i : ℕ) (d : A) → i < n → get_or (table g s n) i d ≡ g (s + i)
table_at g s zero i d h = absurd (omega arith)
table_at g s (suc n) zero d h = ap g (omega arith)
table_at g s (suc n) (suc i) d h = table_at g (suc s) n i d (omega arith) ∙ ap g (omega arith)

-- Related lists.
pub each_right : {A B : Type 0} {Q : A → B → Type 0} {l : List A} {k : List B} → Each Q l k → (b : B) → b ∈ k → (a : A) × (a ∈ l) × Q a b
each_right done b m = absurd (Memᴰ.not-nil m)
each_right {A} {B} {Q} (more {a = x} {b = y} {l = l} {k = k} r e) b m = at (Memᴰ.cases_cons m) (λ i. each_right e b i)
  where
    at : (b ≡ y) ⊎ (b ∈ k) → (b ∈ k → (a : A) × (a ∈ l) × Q a b) → (a : A) × (a ∈ (x ∷ l)) × Q a b
    at (inl p) f = (x, Memᴰ.head refl, subst (Q x) (sym p) r)
    at (inr i) f = let t = f i in (t.0, Memᴰ.tail t.1, t.2)

pub each-sends : {A B : Type 0} {Q : A → B → Type 0} (g : A → B) {l : List A} {k : List B} → Each Q l k → ((a : A) (b : B) → a ∈ l → b ∈ k → Q a b → g a ≡ b) → map g l ≡ k
each-sends g done h = refl
each-sends g (more {a = x} {b = y} r e) h = ap₂ ◌∷◌ (h x y (Memᴰ.head refl) (Memᴰ.head refl) r) (each-sends g e (λ a b i j q. h a b (Memᴰ.tail i) (Memᴰ.tail j) q))

each-unmapped : {A B C D : Type 0} (f : A → C) (g : B → D) {Q : C → D → Type 0} {m : List C} {k : List D} → Each Q m k → (l : List A) (n : List B) → map f l ≡ m → map g n ≡ k → Each (λ a b. Q (f a) (g b)) l n
each-unmapped {A} {B} {C} {D} f g {Q} done l n e h = both l n e h
  where
    both : (l : List A) (n : List B) → map f l ≡ [] → map g n ≡ [] → Each (λ a b. Q (f a) (g b)) l n
    both [] [] e h = done
    both [] (b ∷ n) e h = absurd (let z : ◌≡◌ {A = ℕ} 0 1 = cc in omega arith)
    both (a ∷ l) n e h = absurd (let z : ◌≡◌ {A = ℕ} 0 1 = cc in omega arith)
each-unmapped {A} {B} {C} {D} f g {Q} (more {a = c} {b = d} {l = m} {k = k} r w) l n e h = both l n e h (λ l n e h. each-unmapped f g w l n e h)
  where
    both : (l : List A) (n : List B) → map f l ≡ c ∷ m → map g n ≡ d ∷ k → ((l : List A) (n : List B) → map f l ≡ m → map g n ≡ k → Each (λ a b. Q (f a) (g b)) l n) → Each (λ a b. Q (f a) (g b)) l n
    both [] n e h i = absurd (let z : ◌≡◌ {A = ℕ} 0 1 = cc in omega arith)
    both (a ∷ l) [] e h i = absurd (let z : ◌≡◌ {A = ℕ} 0 1 = cc in omega arith)
    both (a ∷ l) (b ∷ n) e h i =
        let p : c ≡ f a = cc in
        let q : d ≡ g b = cc in
        let s : map f l ≡ m = cc in
        let t : map g n ≡ k = cc in
        more (subst₂ Q p q r) (i l n s t)

pub each-of-maps : {A B C D : Type 0} (f : A → C) (g : B → D) {Q : C → D → Type 0} (l : List A) (n : List B) → Each Q (map f l) (map g n) → Each (λ a b. Q (f a) (g b)) l n
each-of-maps f g l n e = each-unmapped f g e l n refl refl

pub each-by-position : {A B : Type 0} {Q : A → B → Type 0} (d : A) (d' : B) (l : List A) (k : List B) → length l ≡ length k → ((i : ℕ) → i < length l → Q (get_or l i d) (get_or k i d')) → Each Q l k
each-by-position d d' [] [] e h = done
each-by-position d d' [] (b ∷ k) e h = absurd (omega arith)
each-by-position d d' (a ∷ l) [] e h = absurd (omega arith)
each-by-position d d' (a ∷ l) (b ∷ k) e h = more (h 0 (omega arith)) (each-by-position d d' l k (omega arith) (λ i p. h (suc i) (omega arith)))
