-- The place of a number in a list, lists that are mapped in place, and parts of lists that are copied.
use Prim.Native.Nat.{ℕ, zero, suc, ◌+◌, ◌<◌, ◌≤◌}
use mathlib.Core.Path.{◌≡◌, refl, ap, ◌∙◌, sym}
use mathlib.Core.List.{List, [], ◌∷◌, ◌++◌, map, map-append, append_assoc}
use mathlib.Core.Bool.{Bool, true, false}
use native.Mathlib.Nat.{add_comm}
use native.Mathlib.Numerals.{add-one}
use native.Mathlib.Omega.{arith}
use lib.Dec.{eqb}
use lib.ListN.{length, get_or, drop, take, set, length-take, length-drop, length-map}
use lib.Seq.{drop-cons, take-suc, take_all, length-take-le, set_at, get_or_at, take-suc-set, get_or-drop}
use borrow.Author.Tests.{eq-eqb}
use Rattle.rows.specs.Pick.{pick}
use Rattle.rows.specs.Held.{index_of}

-- The place of a number in a list.
pub index_of-le : (x : ℕ) (l : List ℕ) → index_of x l ≤ length l
unfolding index_of
index_of-le x [] = omega arith
index_of-le x (y ∷ l) = go (eqb y x) (index_of-le x l)
  where
    go : (b : Bool) → index_of x l ≤ length l → pick b 0 (suc (index_of x l)) ≤ suc (length l)
    go true h = omega arith
    go false h = omega arith

-- A number that is in a list has the same place in a longer one.
pub index_of-append : (x : ℕ) (l m : List ℕ) → index_of x l < length l → index_of x (l ++ m) ≡ index_of x l
unfolding index_of
index_of-append x [] m h = absurd (omega arith)
index_of-append x (y ∷ l) m h = go (eqb y x) (index_of-append x l m) h
  where
    go : (b : Bool) → (index_of x l < length l → index_of x (l ++ m) ≡ index_of x l) → pick b 0 (suc (index_of x l)) < suc (length l)
        → pick b 0 (suc (index_of x (l ++ m))) ≡ pick b 0 (suc (index_of x l))
    go true ih k = refl
    go false ih k = ap suc (ih (omega arith))

-- A number that is put behind a list without it is found there.
pub index_of-added : (x : ℕ) (l : List ℕ) → length l ≤ index_of x l → index_of x (l ++ (x ∷ [])) ≡ length l
unfolding index_of
index_of-added x [] h = rw (eq-eqb x x refl)
index_of-added x (y ∷ l) h = go (eqb y x) (index_of-added x l) h
  where
    go : (b : Bool) → (length l ≤ index_of x l → index_of x (l ++ (x ∷ [])) ≡ length l) → suc (length l) ≤ pick b 0 (suc (index_of x l))
        → pick b 0 (suc (index_of x (l ++ (x ∷ [])))) ≡ suc (length l)
    go true ih k = absurd (omega arith)
    go false ih k = ap suc (ih (omega arith))

pub index_below : (x n : ℕ) (l : List ℕ) → index_of x (take n l) ≤ n
index_below x n l = omega (arith, index_of-le x (take n l), length-take n l)

-- an element of a mapped list
pub get_d-mapped : {A B : Type 0} (f : A → B) (l : List A) (k : ℕ) (d : A) (e : B) → k < length l → get_or (map f l) k e ≡ f (get_or l k d)
get_d-mapped f [] k d e h = absurd (omega arith)
get_d-mapped f (x ∷ l) zero d e h = refl
get_d-mapped f (x ∷ l) (suc k) d e h = get_d-mapped f l k d e (omega arith)

-- a list whose first i elements are mapped
abbrev pub mapped : {A : Type 0} → (A → A) → ℕ → List A → List A
mapped f i l = map f (take i l) ++ drop i l

module _ {A : Type 0} (f : A → A) (d : A) (l : List A) (i : ℕ) (h : i < length l) where
  mapped-open : mapped f i l ≡ map f (take i l) ++ (get_or l i d ∷ drop (i + 1) l)
  mapped-open = ap (λ (r : List A). map f (take i l) ++ r) (drop-cons l i d h ∙ rw (add-one i))

  front : length (map f (take i l)) ≡ i
  front = length-map (take i l) f ∙ length-take-le i l (omega arith)

  pub mapped_at : get_or (mapped f i l) i d ≡ get_or l i d
  mapped_at = rw mapped-open (get_or_at (map f (take i l)) (get_or l i d) (drop (i + 1) l) d i front)

  pub mapped_next : mapped f (i + 1) l ≡ set (mapped f i l) i (f (get_or l i d))
  mapped_next =
      rw mapped-open (rw (set_at (map f (take i l)) (get_or l i d) (drop (i + 1) l) (f (get_or l i d)) i front)
      (rw (add-one i) (rw (take-suc l i d h) (rw (map-append f (take i l) (get_or l i d ∷ [])) (append_assoc (map f (take i l)) (f (get_or l i d) ∷ []) (drop (suc i) l))))))

-- one turn of copying a list from its third element on
pub copied_next : (links nums : List ℕ) (k : ℕ) → k < length links → k + 2 < length nums → take k links ≡ take k (drop 2 nums)
    → take (k + 1) (set links k (get_or nums (k + 2) 0)) ≡ take (k + 1) (drop 2 nums)
copied_next links nums k h hn e =
    rw (add-one k) (rw (take-suc-set links k (get_or nums (k + 2) 0) h)
    (rw (take-suc (drop 2 nums) k 0 (simp length-drop (omega arith))) (rw e (ap (λ (n : ℕ). take k (drop 2 nums) ++ (n ∷ [])) (ap (λ (j : ℕ). get_or nums j 0) (add_comm k 2) ∙ sym (get_or-drop 2 nums k 0))))))

pub copied_all : (links nums : List ℕ) (n : ℕ) → length links ≡ n → length nums ≡ 2 + n → take n links ≡ take n (drop 2 nums) → links ≡ drop 2 nums
copied_all links nums n h hn e = sym (take_all n links (omega arith)) ∙ e ∙ take_all n (drop 2 nums) (simp length-drop (omega arith))

-- the numbers of k fields, and one more
pub row-link : (nums : List ℕ) (from k : ℕ) → from + k < length nums → take (k + 1) (drop from nums) ≡ take k (drop from nums) ++ (get_or nums (from + k) 0 ∷ [])
row-link nums from k h =
    rw (add-one k) (rw (take-suc (drop from nums) k 0 (simp length-drop (omega arith))) (rw (get_or-drop from nums k 0)))
