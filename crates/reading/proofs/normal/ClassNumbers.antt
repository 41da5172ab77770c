-- Classes numbered one after the other get the numbers of a list with each label once, in the order in which they first appear.
use Prim.Native.Nat.{ℕ, suc, ◌+◌, ◌<◌}
use mathlib.Core.Path.{◌≡◌, refl, sym, ap, ◌∙◌}
use mathlib.Core.List.Memᴰ
use mathlib.Core.List.{List, [], ◌∷◌, ◌++◌, append-nil, append_assoc}
use mathlib.Core.Bool.{Bool, true, false}
use native.Mathlib.Omega.{arith}
use borrow.Author.Tests.{eqb-true, eqb-false, eq-eqb, ne_eqb}
use lib.Dec.{eqb}
use lib.ListN.{length, get_or, set, length-set, length-append, length-replicate, get_or-replicate}
use lib.Seq.{get_or-set_same, get_or-set_other}
use Rattle.hyperlmntal.specs.Link.{◌∈◌}
use Rattle.rows.specs.Pick.{pick}
use Rattle.rows.specs.Held.{index_of}
use Rattle.rows.proofs.Lists.{index_of-append, index_of-added}
use Rattle.reading.specs.Normal.{others, distinct}
use Rattle.numbering.specs.Numbering.{Numbering, number_room, no_numbers, with_class, with_classes}
use Rattle.reading.proofs.normal.Distinct.{index_below, distinct-in}
use Rattle.numbering.proofs.Turns.{with-class-new, with-class-old}

-- Whether a number is in a list.
abbrev has : ℕ → List ℕ → Bool
has c [] = false
has c (x ∷ l) = pick (eqb x c) true (has c l)

has-place : (c : ℕ) (l : List ℕ) → has c l ≡ true → index_of c l < length l
unfolding index_of
has-place c [] e = absurd (let z : ◌≡◌ {A = ℕ} 0 1 = cc in omega arith)
has-place c (x ∷ l) e = go (eqb x c) (has-place c l) e
  where
    go : (t : Bool) → (has c l ≡ true → index_of c l < length l) → pick t true (has c l) ≡ true → pick t 0 (suc (index_of c l)) < suc (length l)
    go true ih q = omega arith
    go false ih q = let h = ih q in omega arith

has-not : (c : ℕ) (l : List ℕ) → has c l ≡ false → index_of c l ≡ length l
unfolding index_of
has-not c [] e = refl
has-not c (x ∷ l) e = go (eqb x c) (has-not c l) e
  where
    go : (t : Bool) → (has c l ≡ false → index_of c l ≡ length l) → pick t true (has c l) ≡ false → pick t 0 (suc (index_of c l)) ≡ suc (length l)
    go true ih q = absurd (let z : ◌≡◌ {A = ℕ} 0 1 = cc in omega arith)
    go false ih q = ap suc (ih q)

has_in : (c : ℕ) (l : List ℕ) → c ∈ l → has c l ≡ true
has_in c l m = go (has c l) refl
  where
    go : (t : Bool) → has c l ≡ t → t ≡ true
    go true e = refl
    go false e = absurd (omega (arith, has-not c l e, index_below c l m))

has-append : (c x : ℕ) (l : List ℕ) → has c (l ++ (x ∷ [])) ≡ pick (has c l) true (eqb x c)
has-append c x [] = go (eqb x c)
  where
    go : (t : Bool) → pick t true false ≡ t
    go true = refl
    go false = refl
has-append c x (y ∷ l) = go (eqb y c) (has-append c x l)
  where
    go : (t : Bool) → has c (l ++ (x ∷ [])) ≡ pick (has c l) true (eqb x c) → pick t true (has c (l ++ (x ∷ []))) ≡ pick (pick t true (has c l)) true (eqb x c)
    go true ih = refl
    go false ih = ih

has-others : (x y : ℕ) (l : List ℕ) → (y ≡ x → ⊥) → has x (others y l) ≡ has x l
unfolding others
has-others x y [] n = refl
has-others x y (z ∷ l) n = go (eqb z y) refl (has-others x y l n)
  where
    go : (t : Bool) → eqb z y ≡ t → has x (others y l) ≡ has x l → has x (pick t (others y l) (z ∷ others y l)) ≡ pick (eqb z x) true (has x l)
    go true e ih = let d : z ≡ x → ⊥ = λ q. n (sym (eqb-true z y e) ∙ q) in rw (ne_eqb z x d) ih
    go false e ih = rw ih

others-append : (y x : ℕ) (l : List ℕ) → others y (l ++ (x ∷ [])) ≡ others y l ++ pick (eqb x y) [] (x ∷ [])
unfolding others
others-append y x [] = refl
others-append y x (z ∷ l) = go (eqb z y) (others-append y x l)
  where
    go : (t : Bool) → others y (l ++ (x ∷ [])) ≡ others y l ++ pick (eqb x y) [] (x ∷ [])
        → pick t (others y (l ++ (x ∷ []))) (z ∷ others y (l ++ (x ∷ []))) ≡ pick t (others y l) (z ∷ others y l) ++ pick (eqb x y) [] (x ∷ [])
    go true ih = ih
    go false ih = ap (λ r. z ∷ r) ih

-- A list with x behind it, unless x is there.
abbrev added : List ℕ → ℕ → List ℕ
added l x = pick (has x l) l (l ++ (x ∷ []))

others-added : (y x : ℕ) (l : List ℕ) → y ∷ others y (added l x) ≡ added (y ∷ others y l) x
others-added y x l = go (eqb y x) refl
  where
    same : y ≡ x → (t : Bool) → others y (pick t l (l ++ (x ∷ []))) ≡ others y l
    same e true = refl
    same e false = others-append y x l ∙ rw (eq-eqb x y (sym e)) (append-nil (others y l))

    apart : (y ≡ x → ⊥) → (t : Bool) → y ∷ others y (pick t l (l ++ (x ∷ []))) ≡ pick t (y ∷ others y l) ((y ∷ others y l) ++ (x ∷ []))
    apart n true = refl
    apart n false = ap (λ r. y ∷ r) (others-append y x l ∙ rw (ne_eqb x y (λ q. n (sym q))))

    go : (t : Bool) → eqb y x ≡ t → y ∷ others y (added l x) ≡ pick (pick t true (has x (others y l))) (y ∷ others y l) ((y ∷ others y l) ++ (x ∷ []))
    go true e = ap (λ r. y ∷ r) (same (eqb-true y x e) (has x l))
    go false e = rw (has-others x y l (eqb-false y x e)) (apart (eqb-false y x e) (has x l))

-- One more label at the end: it is new, or all stays.
pub distinct_snoc : (l : List ℕ) (x : ℕ) → distinct (l ++ (x ∷ [])) ≡ added (distinct l) x
unfolding distinct others
distinct_snoc [] x = refl
distinct_snoc (y ∷ l) x = ap (λ r. y ∷ others y r) (distinct_snoc l x) ∙ others-added y x (distinct l)

-- The number of a label: its place from 1, or 0.
abbrev number : List ℕ → ℕ → ℕ
number d c = pick (has c d) (suc (index_of c d)) 0

number-new : (d : List ℕ) (c : ℕ) → has c d ≡ false → number (d ++ (c ∷ [])) c ≡ suc (length d)
number-new d c e = rw (has-append c c d) (rw e (rw (eq-eqb c c refl) (ap suc (index_of-added c d (omega (arith, has-not c d e))))))

number-stays : (d : List ℕ) (x c : ℕ) → (x ≡ c → ⊥) → number (d ++ (x ∷ [])) c ≡ number d c
number-stays d x c n = rw (has-append c x d) (rw (ne_eqb x c n) (go (has c d) refl))
  where
    go : (t : Bool) → has c d ≡ t → pick (pick t true false) (suc (index_of c (d ++ (x ∷ [])))) 0 ≡ pick t (suc (index_of c d)) 0
    go true e = ap suc (index_of-append c d (x ∷ []) (has-place c d e))
    go false e = refl

-- The labels d have their numbers, and no other has one.
record Numbers (d : List ℕ) (n : Numbering) : Type 0 where
  width : length n.numbers ≡ number_room
  count : n.count ≡ length d
  at : (c : ℕ) → c < number_room → get_or n.numbers c 0 ≡ number d c

numbers-class : (d : List ℕ) (n : Numbering) (c : ℕ) → Numbers d n → c < number_room → Numbers (added d c) (with_class n c)
numbers-class d n c N low = go (has c d) refl
  where
    old : has c d ≡ true → get_or n.numbers c 0 ≡ 0 → ⊥
    old e z = let q : number d c ≡ suc (index_of c d) = rw e in omega (arith, N.at c low)

    new : has c d ≡ false → get_or n.numbers c 0 ≡ 0
    new e = N.at c low ∙ rw e

    others-at : has c d ≡ false → (x : ℕ) → x < number_room → (t : Bool) → eqb c x ≡ t → get_or (set n.numbers c (n.count + 1)) x 0 ≡ number (d ++ (c ∷ [])) x
    others-at e x h true q =
        let s : c ≡ x = eqb-true c x q in
        rw (← s) (get_or-set_same n.numbers c (n.count + 1) 0 (omega (arith, N.width)) ∙ rw (number-new d c e) (omega (arith, N.count)))
    others-at e x h false q =
        let s : c ≡ x → ⊥ = eqb-false c x q in
        get_or-set_other n.numbers c x (n.count + 1) 0 (λ r. s (sym r)) ∙ N.at x h ∙ sym (number-stays d c x s)

    go : (t : Bool) → has c d ≡ t → Numbers (pick t d (d ++ (c ∷ []))) (with_class n c)
    go true e = rw (← with-class-old n c (old e)) N
    go false e =
        rw (← with-class-new n c (new e))
        (record {
          width = simp length-set N.width;
          count = omega (arith, N.count, length-append d (c ∷ []));
          at = λ x h. others-at e x h (eqb c x) refl;
        })

numbers-classes : (l a : List ℕ) (n : Numbering) → Numbers (distinct a) n → ((c : ℕ) → c ∈ l → c < number_room) → Numbers (distinct (a ++ l)) (with_classes n l)
unfolding with_classes
numbers-classes [] a n N low = rw (append-nil a) N
numbers-classes (c ∷ l) a n N low =
    rw (append_assoc a (c ∷ []) l) at (numbers-classes l (a ++ (c ∷ [])) (with_class n c) (rw (distinct_snoc a c) (numbers-class (distinct a) n c N (low c (Memᴰ.head refl)))) (λ x m. low x (Memᴰ.tail m)))

none-numbered : Numbers (distinct []) no_numbers
unfolding distinct
none-numbered = record { width = length-replicate {A = ℕ} number_room 0; count = refl; at = λ c h. get_or-replicate {A = ℕ} number_room c 0 0 h }

-- The table after all classes of a list.
module _ (l : List ℕ) (low : (c : ℕ) → c ∈ l → c < number_room) where
  all-numbered : Numbers (distinct l) (with_classes no_numbers l)
  all-numbered = numbers-classes l [] no_numbers none-numbered low

  pub classes-count : (with_classes no_numbers l).count ≡ length (distinct l)
  classes-count = all-numbered.count

  pub classes-number : (c : ℕ) → c ∈ l → get_or (with_classes no_numbers l).numbers c 0 ≡ suc (index_of c (distinct l))
  classes-number c m = all-numbered.at c (low c m) ∙ rw (has_in c (distinct l) (distinct-in c l m))
