-- Lists of numbers: the place of a number, each number once, and lists that differ by a renaming.
use Prim.Native.Nat.{ℕ, suc, ◌<◌, ◌≤◌}
use mathlib.Core.Path.{◌≡◌, refl, sym, ap, ◌∙◌}
use mathlib.Core.List.Memᴰ
use mathlib.Core.List.{List, [], ◌∷◌, map}
use mathlib.Core.Bool.{Bool, true, false}
use mathlib.Core.Logic.{◌↔◌, ◌⊎◌, inl, inr}
use native.Mathlib.Omega.{arith}
use borrow.Author.Tests.{eqb-true, eqb-false, eq-eqb, ne_eqb}
use lib.Dec.{eqb}
use lib.ListN.{length}
use Rattle.hyperlmntal.specs.Link.{◌∈◌}
use Rattle.hyperlmntal.proofs.Lists.{Each, done, more, each_maps}
use Rattle.rows.specs.Pick.{pick}
use Rattle.rows.specs.Held.{index_of}
use Rattle.reading.specs.Normal.{others, distinct}
use Rattle.hyperlmntal.proofs.Equivalence.{each-length}

-- The place of a number that is there.
pub index_below : (x : ℕ) (l : List ℕ) → x ∈ l → index_of x l < length l
unfolding index_of
index_below x [] m = absurd (Memᴰ.not-nil m)
index_below x (y ∷ l) m = go (eqb y x) refl (Memᴰ.cases_cons m) (index_below x l)
  where
    go : (t : Bool) → eqb y x ≡ t → (x ≡ y) ⊎ (x ∈ l) → (x ∈ l → index_of x l < length l) → pick t 0 (suc (index_of x l)) < suc (length l)
    go true e c ih = omega arith
    go false e (inl p) ih = absurd (eqb-false _ _ e (sym p))
    go false e (inr i) ih = let h = ih i in omega arith

pub index-injective : (x y : ℕ) (l : List ℕ) → index_of x l < length l → index_of x l ≡ index_of y l → x ≡ y
unfolding index_of
index-injective x y [] h e = absurd (omega arith)
index-injective x y (z ∷ l) h e = go (eqb z x) refl (eqb z y) refl (index-injective x y l) h e
  where
    go : (s : Bool) → eqb z x ≡ s → (t : Bool) → eqb z y ≡ t → (index_of x l < length l → index_of x l ≡ index_of y l → x ≡ y)
        → pick s 0 (suc (index_of x l)) < suc (length l) → pick s 0 (suc (index_of x l)) ≡ pick t 0 (suc (index_of y l)) → x ≡ y
    go true p true q ih k r = sym (eqb-true _ _ p) ∙ eqb-true _ _ q
    go true p false q ih k r = absurd (omega arith)
    go false p true q ih k r = absurd (omega arith)
    go false p false q ih k r = ih (omega arith) (omega arith)

-- What is in a list without x, and in a list with each number once.
pub others-in : (x y : ℕ) (l : List ℕ) → y ∈ l → ¬ (y ≡ x) → y ∈ others x l
unfolding others
others-in x y [] m n = absurd (Memᴰ.not-nil m)
others-in x y (z ∷ l) m n = go (eqb z x) refl (Memᴰ.cases_cons m) (λ i. others-in x y l i n)
  where
    go : (t : Bool) → eqb z x ≡ t → (y ≡ z) ⊎ (y ∈ l) → (y ∈ l → y ∈ others x l) → y ∈ pick t (others x l) (z ∷ others x l)
    go true e (inl p) ih = absurd (n (p ∙ eqb-true _ _ e))
    go true e (inr i) ih = ih i
    go false e (inl p) ih = Memᴰ.head p
    go false e (inr i) ih = Memᴰ.tail (ih i)

pub others-of : (x y : ℕ) (l : List ℕ) → y ∈ others x l → (y ∈ l) × ¬ (y ≡ x)
unfolding others
others-of x y [] m = absurd (Memᴰ.not-nil m)
others-of x y (z ∷ l) m = go (eqb z x) refl (others-of x y l) m
  where
    at : eqb z x ≡ false → ((y ∈ others x l) → (y ∈ l) × ¬ (y ≡ x)) → (y ≡ z) ⊎ (y ∈ others x l) → (y ∈ (z ∷ l)) × ¬ (y ≡ x)
    at e ih (inl p) = (Memᴰ.head p, λ q. eqb-false _ _ e (sym p ∙ q))
    at e ih (inr i) = let t = ih i in (Memᴰ.tail t.0, t.1)

    go : (t : Bool) → eqb z x ≡ t → ((y ∈ others x l) → (y ∈ l) × ¬ (y ≡ x)) → y ∈ pick t (others x l) (z ∷ others x l)
        → (y ∈ (z ∷ l)) × ¬ (y ≡ x)
    go true e ih i = let t = ih i in (Memᴰ.tail t.0, t.1)
    go false e ih i = at e ih (Memᴰ.cases_cons i)

pub distinct-in : (x : ℕ) (l : List ℕ) → x ∈ l → x ∈ distinct l
unfolding distinct
distinct-in x [] m = absurd (Memᴰ.not-nil m)
distinct-in x (y ∷ l) m = go (eqb x y) refl (Memᴰ.cases_cons m) (distinct-in x l)
  where
    go : (t : Bool) → eqb x y ≡ t → (x ≡ y) ⊎ (x ∈ l) → (x ∈ l → x ∈ distinct l) → x ∈ (y ∷ others y (distinct l))
    go true e c ih = Memᴰ.head (eqb-true _ _ e)
    go false e (inl p) ih = Memᴰ.head p
    go false e (inr i) ih = Memᴰ.tail (others-in y x (distinct l) (ih i) (eqb-false _ _ e))

pub distinct_of : (x : ℕ) (l : List ℕ) → x ∈ distinct l → x ∈ l
unfolding distinct
distinct_of x [] m = m
distinct_of x (y ∷ l) m = at (Memᴰ.cases_cons m) (distinct_of x l)
  where
    at : (x ≡ y) ⊎ (x ∈ others y (distinct l)) → (x ∈ distinct l → x ∈ l) → x ∈ (y ∷ l)
    at (inl p) ih = Memᴰ.head p
    at (inr i) ih = Memᴰ.tail (ih (others-of y x (distinct l) i).0)

-- A list in which no number stands twice.
abbrev pub Once : List ℕ → Type 0
Once [] = Unit {0}
Once (x ∷ l) = ¬ (x ∈ l) × Once l

pub others-once : (x : ℕ) (l : List ℕ) → Once l → Once (others x l)
unfolding others
others-once x [] o = tt
others-once x (y ∷ l) o = go (eqb y x) (others-once x l o.1)
  where
    go : (t : Bool) → Once (others x l) → Once (pick t (others x l) (y ∷ others x l))
    go true k = k
    go false k = (λ m. o.0 (others-of x y l m).0, k)

pub distinct-once : (l : List ℕ) → Once (distinct l)
unfolding distinct
distinct-once [] = tt
distinct-once (x ∷ l) = (λ m. (others-of x x (distinct l) m).1 refl, others-once x (distinct l) (distinct-once l))

-- It is no longer than a list that has all its numbers.
others-le : (x : ℕ) (l : List ℕ) → length (others x l) ≤ length l
unfolding others
others-le x [] = omega arith
others-le x (y ∷ l) = go (eqb y x) (others-le x l)
  where
    go : (t : Bool) → length (others x l) ≤ length l → length (pick t (others x l) (y ∷ others x l)) ≤ suc (length l)
    go true h = omega arith
    go false h = omega arith

others-less : (x : ℕ) (l : List ℕ) → x ∈ l → length (others x l) < length l
unfolding others
others-less x [] m = absurd (Memᴰ.not-nil m)
others-less x (y ∷ l) m = go (eqb y x) refl (Memᴰ.cases_cons m) (others-less x l)
  where
    go : (t : Bool) → eqb y x ≡ t → (x ≡ y) ⊎ (x ∈ l) → (x ∈ l → length (others x l) < length l)
        → length (pick t (others x l) (y ∷ others x l)) < suc (length l)
    go true e c ih = omega (arith, others-le x l)
    go false e (inl p) ih = absurd (eqb-false _ _ e (sym p))
    go false e (inr i) ih = let h = ih i in omega arith

pub once-length : (l k : List ℕ) → Once l → ((x : ℕ) → x ∈ l → x ∈ k) → length l ≤ length k
once-length [] k o h = omega arith
once-length (x ∷ l) k o h =
    let fewer = others-less x k (h x (Memᴰ.head refl)) in
    let rest = once-length l (others x k) o.1 (λ y m. others-in x y k (h y (Memᴰ.tail m)) (λ e. o.0 (rw (← e) m))) in
    omega arith

-- Numbers related one to one: the same places, the same places with each number once.
pub same_test_lem : (a b c d : ℕ) → ((a ≡ b) ↔ (c ≡ d)) → eqb a b ≡ eqb c d
same_test_lem a b c d h = go (eqb a b) refl
  where
    go : (t : Bool) → eqb a b ≡ t → t ≡ eqb c d
    go true e = sym (eq-eqb c d (h.0 (eqb-true a b e)))
    go false e = sym (ne_eqb c d (λ q. eqb-false a b e (h.1 q)))

module _ (R : ℕ → ℕ → Type 0) (same : (a b c d : ℕ) → R a b → R c d → eqb a c ≡ eqb b d) where
  index-each : (a b : ℕ) {l k : List ℕ} → R a b → Each R l k → index_of a l ≡ index_of b k
  unfolding index_of
  index-each a b r done = refl
  index-each a b r (more {a = c} {b = d} s e) = rw (same c d a b s r, index-each a b r e)

  others-each : (a b : ℕ) {l k : List ℕ} → R a b → Each R l k → Each R (others a l) (others b k)
  unfolding others
  others-each a b r done = done
  others-each a b r (more {a = c} {b = d} {l = l} {k = k} s e) = rw (same c d a b s r) (go (eqb d b) (others-each a b r e))
    where
      go : (t : Bool) → Each R (others a l) (others b k) → Each R (pick t (others a l) (c ∷ others a l)) (pick t (others b k) (d ∷ others b k))
      go true f = f
      go false f = more s f

  distinct-each : {l k : List ℕ} → Each R l k → Each R (distinct l) (distinct k)
  unfolding distinct
  distinct-each done = done
  distinct-each (more {a = a} {b = b} r e) = more r (others-each a b r (distinct-each e))

-- Two labellings of a list that are equal on the same pairs number it in the same way.
abbrev pub Agree : {A : Type 0} → List A → (A → ℕ) → (A → ℕ) → Type 0
Agree {A} l f g = (x y : A) → x ∈ l → y ∈ l → (f x ≡ f y) ↔ (g x ≡ g y)

module _ {A : Type 0} (l : List A) (f g : A → ℕ) (agree : Agree l f g) where
  Pair : ℕ → ℕ → Type 0
  Pair a b = (x : A) × (x ∈ l) × (a ≡ f x) × (b ≡ g x)

  pair-test : (a b c d : ℕ) → Pair a b → Pair c d → eqb a c ≡ eqb b d
  unfolding Pair
  pair-test a b c d s t = rw (s.2, t.2, s.3, t.3) (same_test_lem _ _ _ _ (agree s.0 t.0 s.1 t.1))

  pairs : Each Pair (distinct (map f l)) (distinct (map g l))
  unfolding Pair
  pairs = distinct-each Pair pair-test (each_maps f g Pair l (λ x m. (x, m, refl, refl)))

  pub index-agree : (x : A) → x ∈ l → index_of (f x) (distinct (map f l)) ≡ index_of (g x) (distinct (map g l))
  unfolding Pair
  index-agree x m = index-each Pair pair-test (f x) (g x) (x, m, refl, refl) pairs

  -- and has as many different labels
  pub length-agree : length (distinct (map f l)) ≡ length (distinct (map g l))
  length-agree = each-length pairs

-- The place of a label among all is itself such a labelling.
pub index-label : {A : Type 0} (l : List A) (f : A → ℕ) → Agree l f (λ x. index_of (f x) (distinct (map f l)))
index-label l f x y m n =
    let k = distinct (map f l) in
    (λ e. ap (λ a. index_of a k) e, index-injective (f x) (f y) k (index_below (f x) k (distinct-in (f x) (map f l) (Memᴰ.map f m))))
