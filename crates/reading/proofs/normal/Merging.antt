-- Places in a list, lists with more put in, and labels that are made one.
use Prim.Native.Nat.{ℕ, zero, suc, ◌<◌, ◌≤◌}
use mathlib.Core.Path.{◌≡◌, refl, ◌∙◌, sym}
use mathlib.Core.List.Memᴰ
use mathlib.Core.List.{List, [], ◌∷◌, ◌++◌}
use mathlib.Core.Bool.{Bool, true, false}
use mathlib.Core.Logic.{◌⊎◌, inl, inr, ⊎_elim, ◌↔◌}
use native.Mathlib.Omega.{arith}
use lib.Dec.{eqb}
use lib.ListN.{length, get_or, length-append}
use borrow.Author.Tests.{eqb-true, eq-eqb}
use Rattle.hyperlmntal.specs.Link.{◌∈◌}
use Rattle.rows.specs.Pick.{pick}
use Rattle.rows.specs.Held.{index_of, relabelled, Among}
use Rattle.rows.proofs.Lists.{index_of-append, index_of-added}

-- A number that is in a list is at its place.
pub at-index_of : (x : ℕ) (l : List ℕ) → Among x l → get_or l (index_of x l) 0 ≡ x
unfolding index_of
at-index_of x [] h = absurd (omega arith)
at-index_of x (y ∷ l) h = go (eqb y x) refl (at-index_of x l) h
  where
    go : (b : Bool) → eqb y x ≡ b → (Among x l → get_or l (index_of x l) 0 ≡ x) → pick b 0 (suc (index_of x l)) < suc (length l)
        → get_or (y ∷ l) (pick b 0 (suc (index_of x l))) 0 ≡ x
    go true e ih k = eqb-true y x e
    go false e ih k = ih (omega arith)

-- Elements of a list.
pub get_d-in : {A : Type 0} (l : List A) (k : ℕ) (d : A) → k < length l → get_or l k d ∈ l
get_d-in [] k d h = absurd (omega arith)
get_d-in (x ∷ l) zero d h = Memᴰ.head refl
get_d-in (x ∷ l) (suc k) d h = Memᴰ.tail (get_d-in l k d (omega arith))

pub among_in : (x : ℕ) (l : List ℕ) → Among x l → x ∈ l
among_in x l h = Memᴰ.cast (sym (at-index_of x l h)) (get_d-in l (index_of x l) 0 h)

-- A number in a list with one more is in the list, or that one.
pub among-added : (y x : ℕ) (l : List ℕ) → Among y (l ++ (x ∷ [])) → Among y l ⊎ (y ≡ x)
unfolding index_of
among-added y x [] h = go (eqb x y) refl h
  where
    go : (b : Bool) → eqb x y ≡ b → pick b 0 1 < 1 → (0 < 0) ⊎ (y ≡ x)
    go true e k = inr (sym (eqb-true x y e))
    go false e k = absurd (omega arith)
among-added y x (z ∷ l) h = go (eqb z y) (among-added y x l) h
  where
    go : (b : Bool) → (Among y (l ++ (x ∷ [])) → Among y l ⊎ (y ≡ x)) → pick b 0 (suc (index_of y (l ++ (x ∷ [])))) < suc (length (l ++ (x ∷ [])))
        → (pick b 0 (suc (index_of y l)) < suc (length l)) ⊎ (y ≡ x)
    go true ih k = inl (omega arith)
    go false ih k = ⊎_elim (λ a. inl (omega arith)) (λ e. inr e) (ih (omega arith))

pub among-stays : (y x : ℕ) (l : List ℕ) → Among y l → Among y (l ++ (x ∷ []))
among-stays y x l h = rw (index_of-append y l (x ∷ []) h) (simp length-append (omega arith))

-- Relabelled labels are equal exactly where they were, or were the two that are made one.
abbrev pub Cross : ℕ → ℕ → ℕ → ℕ → Type 0
Cross c d x y = ((x ≡ c) × (y ≡ d)) ⊎ ((x ≡ d) × (y ≡ c))

pub relabelled-same : (from to x y : ℕ) → relabelled from to x ≡ relabelled from to y → (x ≡ y) ⊎ Cross to from x y
relabelled-same from to x y = by (eqb x from) (eqb y from) refl refl
  where
    by : (p q : Bool) → eqb x from ≡ p → eqb y from ≡ q → pick p to x ≡ pick q to y → (x ≡ y) ⊎ Cross to from x y
    by true true p q e = inl (eqb-true x from p ∙ sym (eqb-true y from q))
    by true false p q e = inr (inr (eqb-true x from p, sym e))
    by false true p q e = inr (inl (e, eqb-true y from q))
    by false false p q e = inl e

pub relabelled-one : (from to : ℕ) → relabelled from to to ≡ relabelled from to from
relabelled-one from to = rw (eq-eqb from from refl) (by (eqb to from))
  where
    by : (p : Bool) → pick p to to ≡ to
    by true = refl
    by false = refl

pub relabelled-below : (from to x n : ℕ) → to < n → x < n → relabelled from to x < n
relabelled-below from to x n p q = by (eqb x from)
  where
    by : (b : Bool) → pick b to x < n
    by true = p
    by false = q

pub among_there : (x : ℕ) (l : List ℕ) → length l ≤ index_of x l → (y : ℕ) → y ≡ x → Among y (l ++ (x ∷ []))
among_there x l h y e = rw (e, index_of-added x l h) (simp length-append (omega arith))

-- The list k has what l has, and what `more` has.
abbrev pub Adds : {A : Type 0} → List A → List A → List A → Type 0
Adds {A} l more k = (a : A) → (a ∈ k) ↔ ((a ∈ l) ⊎ (a ∈ more))
