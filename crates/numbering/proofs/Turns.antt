-- Classes numbered one after the other: steps of the loops that do so.
use Prim.Native.Nat.{ℕ, ◌+◌, ◌<◌, ◌≤◌}
use mathlib.Core.Path.{◌≡◌, refl, sym, ◌∙◌}
use mathlib.Core.List.{List, [], ◌∷◌, ◌++◌, map}
use mathlib.Core.Bool.{Bool, true, false}
use native.Mathlib.Numerals.{add-one}
use native.Mathlib.Omega.{arith}
use borrow.Author.Tests.{eq-eqb, ne_eqb}
use lib.Dec.{eqb}
use lib.ListN.{length, get_or, drop, take, set, length-map, length-take, drop_of_length-le}
use lib.Seq.{drop-cons, length-take-le, get_or-take}
use Rattle.rows.specs.Pick.{pick}
use Rattle.rows.specs.declared.Atom.{Atom}
use Rattle.rows.specs.declared.Context.{Context}
use Rattle.numbering.specs.Numbering.{Numbering, with_class, with_classes, link_labels, atom_labels, context_labels}

abbrev pub next_class : Numbering → ℕ → Numbering
next_class n c = record { numbers = set n.numbers c (n.count + 1); count = n.count + 1 }

module _ (n : Numbering) (c : ℕ) where
  pub with-class-new : get_or n.numbers c 0 ≡ 0 → next_class n c ≡ with_class n c
  unfolding with_class
  with-class-new e = rw (eq-eqb (get_or n.numbers c 0) 0 e)

  pub with-class-old : (get_or n.numbers c 0 ≡ 0 → ⊥) → n ≡ with_class n c
  unfolding with_class
  with-class-old e = rw (ne_eqb (get_or n.numbers c 0) 0 e)

  pub with-class-count : (with_class n c).count ≤ n.count + 1
  unfolding with_class
  with-class-count = go (eqb (get_or n.numbers c 0) 0)
    where
      go : (t : Bool) → (pick t (next_class n c) n).count ≤ n.count + 1
      go true = omega arith
      go false = omega arith

pub with-classes-count : (n : Numbering) (l : List ℕ) → (with_classes n l).count ≤ n.count + length l
unfolding with_classes
with-classes-count n [] = omega arith
with-classes-count n (c ∷ l) = omega (arith, with-class-count n c, with-classes-count (with_class n c) l)

pub with-links-count : (n : Numbering) (f : ℕ → ℕ) (count : ℕ) (links : List ℕ) → (with_classes n (link_labels f count links)).count ≤ n.count + count
with-links-count n f count links =
    omega (arith, with-classes-count n (link_labels f count links), length-map (take count links) f, length-take count links)

pub with-classes-append : (n : Numbering) (l k : List ℕ) → with_classes n (l ++ k) ≡ with_classes (with_classes n l) k
unfolding with_classes
with-classes-append n [] k = refl
with-classes-append n (c ∷ l) k = with-classes-append (with_class n c) l k

pub with-classes-snoc : (n : Numbering) (l : List ℕ) (c : ℕ) → with_classes n (l ++ (c ∷ [])) ≡ with_class (with_classes n l) c
unfolding with_classes
with-classes-snoc n l c = with-classes-append n l (c ∷ [])

-- An array of structs is as long as the list of what its elements are in memory.
pub unmapped : (A B : Type 0) (f : A → B) (l : List A) (n : ℕ) → length (map f l) ≡ n → length l ≡ n
unmapped A B f l n h = sym (length-map l f) ∙ h

-- One turn of a loop over the first `count` of some elements, and the end of such a loop.
module _ {A : Type 0} (l : List A) (count k : ℕ) where
  pub part-cons : (d : A) → count ≤ length l → k < count → drop k (take count l) ≡ get_or l k d ∷ drop (k + 1) (take count l)
  part-cons d fits h =
      let len : length (take count l) ≡ count = length-take-le count l fits in
      drop-cons (take count l) k d (omega arith) ∙ rw (get_or-take count l k d h) (rw (add-one k))

  pub part_end : count ≤ k → drop k (take count l) ≡ []
  part_end h = let q : length (take count l) ≤ k = omega (arith, length-take count l) in drop_of_length-le (take count l) q

module _ (f : ℕ → ℕ) (l : List ℕ) (count k : ℕ) (n : Numbering) where
  pub classes-next : count ≤ length l → k < count
      → with_classes n (map f (drop k (take count l))) ≡ with_classes (with_class n (f (get_or l k 0))) (map f (drop (k + 1) (take count l)))
  unfolding with_classes
  classes-next fits h = rw (part-cons l count k 0 fits h)

  pub classes-end : count ≤ k → with_classes n (map f (drop k (take count l))) ≡ n
  unfolding with_classes
  classes-end h = rw (part_end l count k h)

module _ (f : ℕ → ℕ) (l : List Atom) (count i : ℕ) (n : Numbering) where
  pub atoms-next : (d : Atom) → count ≤ length l → i < count
      → with_classes n (atom_labels f (drop i (take count l))) ≡ with_classes (with_classes n (link_labels f (get_or l i d).count (get_or l i d).links)) (atom_labels f (drop (i + 1) (take count l)))
  unfolding atom_labels
  atoms-next d fits h = rw (part-cons l count i d fits h) (with-classes-append n (link_labels f (get_or l i d).count (get_or l i d).links) (atom_labels f (drop (i + 1) (take count l))))

  pub atoms-end : count ≤ i → with_classes n (atom_labels f (drop i (take count l))) ≡ n
  unfolding atom_labels with_classes
  atoms-end h = rw (part_end l count i h)

module _ (f : ℕ → ℕ) (l : List Context) (count i : ℕ) (n : Numbering) where
  pub contexts-next : (d : Context) → count ≤ length l → i < count
      → with_classes n (context_labels f (drop i (take count l))) ≡ with_classes (with_classes n (link_labels f (get_or l i d).count (get_or l i d).links)) (context_labels f (drop (i + 1) (take count l)))
  unfolding context_labels
  contexts-next d fits h = rw (part-cons l count i d fits h) (with-classes-append n (link_labels f (get_or l i d).count (get_or l i d).links) (context_labels f (drop (i + 1) (take count l))))

  pub contexts-end : count ≤ i → with_classes n (context_labels f (drop i (take count l))) ≡ n
  unfolding context_labels with_classes
  contexts-end h = rw (part_end l count i h)
