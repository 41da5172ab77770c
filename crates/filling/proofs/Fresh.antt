-- Places that are not joined yet: where their labels are their own, two labels are made one among the places before them.
use Prim.Native.Nat.{ℕ, zero, suc, ◌<◌, ◌≤◌}
use mathlib.Core.Logic.{◌⊎◌, inl, inr, ⊎_elim}
use mathlib.Core.Path.{◌≡◌, refl, ap, ap₂, sym, ◌∙◌, subst}
use mathlib.Core.Bool.{Bool, true, false}
use mathlib.Core.List.{List, [], ◌∷◌, map}
use native.Mathlib.Decide.{dec_le}
use native.Mathlib.Omega.{arith}
use borrow.Author.Tests.{eq-eqb, ne_eqb}
use lib.Dec.{eqb}
use lib.ListN.{length, get_or, set}
use Rattle.rows.specs.Pick.{pick}
use Rattle.rows.specs.Held.{relabelled}
use Rattle.rows.proofs.Lists.{mapped}
use Rattle.filling.specs.Parts.{part_room, places}
use Rattle.filling.specs.Glued.{Own, FreshFrom, joined_at}
use Rattle.filling.proofs.Join.{joined_length, joined_at_lem}

pub fresh-own : (labels : List ℕ) (n : ℕ) → n ≤ places → Own labels → FreshFrom n labels
fresh-own labels n h o = record { size = o.size; low = λ k l. omega (arith, o.own k (omega arith)); own = λ k a b. o.own k b; rooted = λ k b. inl (o.own k b) }

pub fresh-more : (labels : List ℕ) (n m : ℕ) → n ≤ m → m ≤ places → FreshFrom n labels → FreshFrom m labels
fresh-more labels n m h g f = record { size = f.size; low = λ k l. at k l (dec_le n k); own = λ k a b. f.own k (omega arith) b; rooted = f.rooted }
  where
    at : (k : ℕ) → k < m → Dec (n ≤ k) → get_or labels k 0 < m
    at k l (yes a) = omega (arith, f.own k a (omega arith))
    at k l (no a) = omega (arith, f.low k (omega (arith, a)))

-- A label that is not the one made another stays.
relabel-other : (from to c : ℕ) → (c ≡ from → ⊥) → relabelled from to c ≡ c
relabel-other from to c h = ap (λ (b : Bool). pick b to c) (ne_eqb c from h)

relabel-low : (from to c n : ℕ) → to < n → c < n → relabelled from to c < n
relabel-low from to c n p q = go (eqb c from)
  where
    go : (b : Bool) → pick b to c < n
    go true = p
    go false = q

rest-kept : (from to : ℕ) (l : List ℕ) → ((k : ℕ) → k < length l → get_or l k 0 ≡ from → ⊥) → map (relabelled from to) l ≡ l
rest-kept from to [] h = refl
rest-kept from to (x ∷ l) h = ap₂ ◌∷◌ (relabel-other from to x (h 0 (omega arith))) (rest-kept from to l (λ k q. h (suc k) (omega arith)))

first-mapped : (from to n : ℕ) (l : List ℕ) → ((k : ℕ) → n ≤ k → k < length l → get_or l k 0 ≡ from → ⊥) → mapped (relabelled from to) n l ≡ map (relabelled from to) l
first-mapped from to zero l h = sym (rest-kept from to l (λ k. h k (omega arith)))
first-mapped from to (suc n) [] h = refl
first-mapped from to (suc n) (x ∷ l) h = ap (◌∷◌ (relabelled from to x)) (first-mapped from to n l (λ k a b. h (suc k) (omega arith) (omega arith)))

-- One place is given a label, where it alone has the one that is made another.
one-mapped : (from to b : ℕ) (l : List ℕ) → get_or l b 0 ≡ from → ((k : ℕ) → k < length l → get_or l k 0 ≡ from → k ≡ b) → set l b to ≡ map (relabelled from to) l
one-mapped from to b [] e h = refl
one-mapped from to zero (x ∷ l) e h =
    ap₂ ◌∷◌ (sym (ap (λ (t : Bool). pick t to x) (eq-eqb x from e))) (sym (rest-kept from to l (λ k q d. let z : suc k ≡ 0 = h (suc k) (omega arith) d in absurd (omega arith))))
one-mapped from to (suc b) (x ∷ l) e h =
    ap₂ ◌∷◌ (sym (relabel-other from to x (λ d. let z : 0 ≡ suc b = h 0 (omega arith) d in absurd (omega arith))))
    (one-mapped from to b l e (λ k q d. let z : suc k ≡ suc b = h (suc k) (omega arith) d in omega arith))

module _ (labels : List ℕ) (n a b : ℕ) (p : a < part_room) (q : b < n) (f : FreshFrom n labels) (r : part_room ≤ b) where
  pub merged-one : get_or labels b 0 ≡ b → set labels b (get_or labels a 0) ≡ joined_at labels (a, b)
  merged-one e =
      one-mapped (get_or labels b 0) (get_or labels a 0) b labels refl
      (λ k l d. ⊎_elim (λ o. let z : k ≡ b = omega (arith, o, d, e) in z) (λ h. absurd (omega (arith, h, d, e, r))) (f.rooted k (omega (arith, f.size))))

  pub merged-first : mapped (relabelled (get_or labels b 0) (get_or labels a 0)) n labels ≡ joined_at labels (a, b)
  merged-first = first-mapped (get_or labels b 0) (get_or labels a 0) n labels (λ k h l e. absurd (omega (arith, e, f.low b q, f.own k h (omega (arith, f.size)))))

  pub fresh-joined : n ≤ places → FreshFrom n (joined_at labels (a, b))
  fresh-joined h =
      let s = f.size in
      record {
        size = joined_length labels (a, b) ∙ s;
        low = λ k l. subst (λ (x : ℕ). x < n) (sym (joined_at_lem labels (a, b) k (omega arith))) (relabel-low (get_or labels b 0) (get_or labels a 0) (get_or labels k 0) n (f.low a (omega arith)) (f.low k l));
        own = λ k m l. joined_at_lem labels (a, b) k (omega arith) ∙ relabel-other (get_or labels b 0) (get_or labels a 0) (get_or labels k 0) (λ e. absurd (omega (arith, e, f.low b q, f.own k m l))) ∙ f.own k m l;
        rooted = λ k l. subst (λ (x : ℕ). (x ≡ k) ⊎ (x < part_room)) (sym (joined_at_lem labels (a, b) k (omega arith))) (rooted-label (f.rooted k l) (eqb (get_or labels k 0) (get_or labels b 0)));
      }
    where
      figure-label : get_or labels a 0 < part_room
      figure-label = ⊎_elim (λ o. let z : get_or labels a 0 < part_room = omega (arith, o) in z) (λ l. l) (f.rooted a (omega arith))

      rooted-label : {k : ℕ} → (get_or labels k 0 ≡ k) ⊎ (get_or labels k 0 < part_room) → (t : Bool) → (pick t (get_or labels a 0) (get_or labels k 0) ≡ k) ⊎ (pick t (get_or labels a 0) (get_or labels k 0) < part_room)
      rooted-label o true = inr figure-label
      rooted-label o false = o
