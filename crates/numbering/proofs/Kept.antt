-- A number once given never changes: what the classes numbered later are plays no part in it.
use Prim.Native.Nat.{ℕ, ◌+◌, ◌<◌, ◌≤◌}
use mathlib.Core.Path.{◌≡◌, refl, sym, ap, ◌∙◌}
use mathlib.Core.List.{List, [], ◌∷◌, ◌++◌, map}
use mathlib.Core.Bool.{Bool, true, false}
use native.Mathlib.Omega.{arith}
use borrow.Author.Tests.{eqb-true, eqb-false, ltb-true, ltb-false}
use lib.Dec.{eqb, ltb}
use lib.ListN.{length, get_or, take, drop, set, length-set, get_or-eq_default}
use lib.Seq.{get_or-set_same, get_or-set_other}
use Rattle.rows.specs.Pick.{pick}
use Rattle.rows.specs.Packed.{padded}
use Rattle.rows.proofs.Padding.{get_d-filled, stored_next}
use Rattle.rows.proofs.Lists.{mapped, mapped_at, mapped_next}
use Rattle.numbering.specs.Numbering.{Numbering, number_room, no_numbers, with_class, with_classes, links_by}
use Rattle.numbering.proofs.Turns.{next_class, with-class-count, with-classes-append, classes-next}

-- A class that the table has a place for has a number.
abbrev Given : Numbering → ℕ → Type 0
Given n c = get_or n.numbers c 0 ≡ 0 → length n.numbers ≤ c

-- What one class more does to another's number, and to its own.
module _ (n : Numbering) (x : ℕ) where
  set_given : (c : ℕ) → Given n c → get_or n.numbers x 0 ≡ 0 → (t : Bool) → eqb x c ≡ t → (get_or (set n.numbers x (n.count + 1)) c 0 ≡ get_or n.numbers c 0)
  set_given c g z true e =
      let q : x ≡ c = eqb-true x c e in
      let out : length n.numbers ≤ c = g (rw (← q) z) in
      get_or-eq_default (set n.numbers x (n.count + 1)) 0 {n = c} (simp length-set out) ∙ sym (get_or-eq_default n.numbers 0 {n = c} out)
  set_given c g z false e = get_or-set_other n.numbers x c (n.count + 1) 0 (λ q. eqb-false x c e (sym q))

  class-stays : (c : ℕ) → Given n c → get_or (with_class n x).numbers c 0 ≡ get_or n.numbers c 0
  unfolding with_class
  class-stays c g = go (eqb (get_or n.numbers x 0) 0) refl
    where
      go : (t : Bool) → eqb (get_or n.numbers x 0) 0 ≡ t → get_or (pick t (next_class n x) n).numbers c 0 ≡ get_or n.numbers c 0
      go true e = set_given c g (eqb-true _ _ e) (eqb x c) refl
      go false e = refl

  class-length : length (with_class n x).numbers ≡ length n.numbers
  unfolding with_class
  class-length = go (eqb (get_or n.numbers x 0) 0)
    where
      go : (t : Bool) → length (pick t (next_class n x) n).numbers ≡ length n.numbers
      go true = simp length-set
      go false = refl

  class-given : Given (with_class n x) x
  unfolding with_class
  class-given = go (eqb (get_or n.numbers x 0) 0) refl
    where
      within : (t : Bool) → ltb x (length n.numbers) ≡ t → Given (next_class n x) x
      within true e = λ z. absurd (omega (arith, get_or-set_same n.numbers x (n.count + 1) 0 (ltb-true _ _ e)))
      within false e = λ z. simp length-set (ltb-false _ _ e)

      go : (t : Bool) → eqb (get_or n.numbers x 0) 0 ≡ t → Given (pick t (next_class n x) n) x
      go true e = within (ltb x (length n.numbers)) refl
      go false e = λ z. absurd (eqb-false _ _ e z)

still-given : (n : Numbering) (x c : ℕ) → Given n c → Given (with_class n x) c
still-given n x c g z = let k = g (sym (class-stays n x c g) ∙ z) in omega (arith, class-length n x)

numbers_stay : (n : Numbering) (c : ℕ) → Given n c → (l : List ℕ) → get_or (with_classes n l).numbers c 0 ≡ get_or n.numbers c 0
unfolding with_classes
numbers_stay n c g [] = refl
numbers_stay n c g (x ∷ l) = numbers_stay (with_class n x) c (still-given n x c g) l ∙ class-stays n x c g

-- So a class's number at its turn is its number in the end.
pub number-kept : (n : Numbering) (c : ℕ) (l : List ℕ) → get_or (with_classes (with_class n c) l).numbers c 0 ≡ get_or (with_class n c).numbers c 0
number-kept n c l = numbers_stay (with_class n c) c (class-given n c) l

-- No number is above the count.
abbrev pub Low : Numbering → Type 0
Low n = (c : ℕ) → get_or n.numbers c 0 ≤ n.count

set-low : (l : List ℕ) (x v c : ℕ) → get_or l c 0 ≤ v → get_or (set l x v) c 0 ≤ v
set-low l x v c h = go (eqb x c) refl
  where
    own : (t : Bool) → ltb x (length l) ≡ t → get_or (set l x v) x 0 ≤ v
    own true e = omega (arith, get_or-set_same l x v 0 (ltb-true _ _ e))
    own false e = let out = ltb-false _ _ e in omega (arith, get_or-eq_default (set l x v) 0 {n = x} (simp length-set out))

    go : (t : Bool) → eqb x c ≡ t → get_or (set l x v) c 0 ≤ v
    go true e = rw (← eqb-true x c e) (own (ltb x (length l)) refl)
    go false e = rw (get_or-set_other l x c v 0 (λ q. eqb-false x c e (sym q))) h

pub low-class : (n : Numbering) (x : ℕ) → Low n → Low (with_class n x)
unfolding with_class
low-class n x low c = go (eqb (get_or n.numbers x 0) 0)
  where
    go : (t : Bool) → get_or (pick t (next_class n x) n).numbers c 0 ≤ (pick t (next_class n x) n).count
    go true = set-low n.numbers x (n.count + 1) c (omega (arith, low c))
    go false = low c

low-classes : (n : Numbering) (l : List ℕ) → Low n → Low (with_classes n l)
unfolding with_classes
low-classes n [] low = low
low-classes n (x ∷ l) low = low-classes (with_class n x) l (low-class n x low)

pub low-after : (from n : Numbering) (l : List ℕ) → n ≡ with_classes from l → Low from → Low n
low-after from n l e low = rw e (low-classes from l low)

pub low-none : Low no_numbers
low-none c = omega (arith, get_d-filled {A = ℕ} 0 number_room c)

-- What is numbered after all, with what is left before that.
pub later-all : (n all : Numbering) (rest later : List ℕ) → with_classes n rest ≡ all → with_classes n (rest ++ later) ≡ with_classes all later
later-all n all rest later e = with-classes-append n rest later ∙ ap (λ m. with_classes m later) e

-- One turn of a loop that numbers the classes f of the first `count` of some elements, and stores each number: n' is the
-- numbering after it, and v the number of the class.
module _ (f : ℕ → ℕ) (l : List ℕ) (count k : ℕ) (fits : count ≤ length l) (h : k < count) (n n' all : Numbering) (c v : ℕ) (class : c ≡ f (get_or l k 0)) (next : n' ≡ with_class n c)
    (left : with_classes n (map f (drop k (take count l))) ≡ all) where
  pub pass-count : n'.count ≤ n.count + 1
  pass-count = rw next (with-class-count n c)

  pub pass-left : with_classes n' (map f (drop (k + 1) (take count l))) ≡ all
  pass-left = rw (next, class) (sym (classes-next f l count k n fits h) ∙ left)

  last : (later : List ℕ) → get_or (with_classes all later).numbers c 0 ≡ get_or n'.numbers c 0
  last later =
      let rest = map f (drop (k + 1) (take count l)) in
      rw (← later-all n' all rest later pass-left, next) (number-kept n c (rest ++ later))

  pub pass-stored : (room : ℕ) (later r : List ℕ) → v ≡ get_or n'.numbers c 0 → k < room → r ≡ padded room 0 (map (λ x. get_or (with_classes all later).numbers (f x) 0) (take k l))
      → set r k v ≡ padded room 0 (map (λ x. get_or (with_classes all later).numbers (f x) 0) (take (k + 1) l))
  pass-stored room later r e w q =
      let z : v ≡ get_or (with_classes all later).numbers (f (get_or l k 0)) 0 = rw (← class) (e ∙ sym (last later)) in
      rw z (stored_next room (λ x. get_or (with_classes all later).numbers (f x) 0) l r k q (omega arith) w)

-- One turn of a loop that puts the numbers of its links into an element of `done`: r are these numbers, n' is the numbering
-- after it, and `rest` is left to be numbered of the elements behind it.
module _ {A : Type 0} (none : A) (count : A → ℕ) (links : A → List ℕ) (put : A → List ℕ → A) (f : ℕ → ℕ) (all : Numbering) where
  abbrev by : List ℕ → A → A
  by later a = put a (links_by (with_classes all later).numbers f (count a) (links a))

  module _ (l done : List A) (i : ℕ) (h : i < length l) (made : (later : List ℕ) → done ≡ mapped (by later) i l) where
    pub pass_same : get_or done i none ≡ get_or l i none
    pass_same = ap (λ (v : List A). get_or v i none) (made []) ∙ mapped_at (by []) none l i h

    pub pass-put : (n' : Numbering) (rest r : List ℕ) → with_classes n' rest ≡ all
        → ((later : List ℕ) → r ≡ links_by (with_classes n' later).numbers f (count (get_or done i none)) (links (get_or done i none)))
        → (later : List ℕ) → set done i (put (get_or done i none) r) ≡ mapped (by later) (i + 1) l
    pass-put n' rest r left got later =
        let q : put (get_or done i none) r ≡ by later (get_or l i none) = rw (got (rest ++ later), later-all n' all rest later left, pass_same) in
        rw q (ap (λ (v : List A). set v i (by later (get_or l i none))) (made later) ∙ sym (mapped_next (by later) none l i h))
