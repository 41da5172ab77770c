-- Steps of loops that look for a number in a list, and that clear or relabel one in place.
use Prim.Native.Nat.{ℕ, zero, suc, ◌+◌, ◌-◌, ◌<◌, ◌≤◌}
use mathlib.Core.Path.{◌≡◌, refl, ap, ◌∙◌, sym}
use mathlib.Core.List.{List, [], ◌∷◌, map}
use mathlib.Core.Bool.{Bool, true, false}
use mathlib.Core.Logic.{⊎_elim}
use native.Mathlib.Nat.{add-zero, zero-add, eq-or-lt_of_le}
use native.Mathlib.Numerals.{add-one}
use native.Mathlib.Omega.{arith}
use lib.Dec.{eqb}
use lib.ListN.{length, get_or, drop, take, set, replicate, length-map, drop_of_length-le, take-append-drop, replicate-append-replicate}
use lib.Seq.{drop-cons, length-take-le, set-get_or, get_or-take}
use borrow.Author.Tests.{eq-eqb, ne_eqb, eqb-true}
use Rattle.rows.specs.Pick.{pick}
use Rattle.rows.specs.Held.{index_of, relabelled}
use Rattle.rows.specs.Packed.{padded}
use Rattle.linking.specs.Steps.{Distinct, cleared}
use Rattle.rows.proofs.Lists.{mapped, mapped_at, mapped_next}
use Rattle.rows.proofs.Padding.{mapped-padded}

pub index-end : (l : List ℕ) (x i : ℕ) → length l ≤ i → index_of x (drop i l) ≡ 0
unfolding index_of
index-end l x i h = rw (drop_of_length-le l h)

module _ (l : List ℕ) (x i : ℕ) (h : i < length l) where
  pub index-hit : get_or l i 0 ≡ x → index_of x (drop i l) ≡ 0
  unfolding index_of
  index-hit e = rw (drop-cons l i 0 h) (rw (eq-eqb _ _ e))

  pub index-miss : (get_or l i 0 ≡ x → ⊥) → index_of x (drop i l) ≡ suc (index_of x (drop (i + 1) l))
  unfolding index_of
  index-miss e = rw (drop-cons l i 0 h) (rw (ne_eqb _ _ e) (rw add-one))

-- a number at a place of a list in which none stands twice is found there
pub index-distinct : (n : ℕ) (l : List ℕ) (x p : ℕ) → n ≤ length l → p < n → get_or l p 0 ≡ x → Distinct (take n l) → p ≡ index_of x (take n l)
index-distinct n l x p fits h e once =
    let here : get_or (take n l) p 0 ≡ x = get_or-take n l p 0 h ∙ e in
    sym (rw here at (once p (rw (length-take-le n l fits) h)))

-- x is not among the m numbers from place i on
abbrev pub Lacks : List ℕ → ℕ → ℕ → ℕ → Type 0
Lacks l i x m = (k : ℕ) → k < m → get_or l (i + k) 0 ≡ x → ⊥

pub lacks-more : (l : List ℕ) (i x m : ℕ) → Lacks l i x m → (get_or l (i + m) 0 ≡ x → ⊥) → Lacks l i x (m + 1)
lacks-more l i x m before here k h = ⊎_elim (λ e. rw e here) (before k) (eq-or-lt_of_le (let q : k ≤ m = omega arith in q))

pub index-lacks : (l : List ℕ) (x i m : ℕ) → i + m ≤ length l → Lacks l i x m → index_of x (drop i l) ≡ m + index_of x (drop (i + m) l)
index-lacks l x i zero h lacks = rw (add-zero i, zero-add (index_of x (drop i l)))
index-lacks l x i (suc m) h lacks =
    let z : i + suc m ≡ i + 1 + m = omega arith in
    let first : get_or l i 0 ≡ x → ⊥ = rw (add-zero i) at (lacks 0 (omega arith)) in
    let rest = index-lacks l x (i + 1) m (omega arith) (λ k q e. lacks (suc k) (omega arith) (ap (λ (n : ℕ). get_or l n 0) (omega arith) ∙ e)) in
    rw z (omega (arith, index-miss l x i (omega arith) first, rest))

-- one turn of clearing in place
pub clear_next : (l s : List ℕ) (i : ℕ) → i < length l → s ≡ cleared i l → set s i 0 ≡ cleared (i + 1) l
clear_next l s i h e = rw e (sym (mapped_next (λ x. 0) 0 l i h))

-- one turn of relabelling in place
module _ (from to : ℕ) (l labels : List ℕ) (i : ℕ) (h : i < length l) (e : labels ≡ mapped (relabelled from to) i l) where
  here : get_or labels i 0 ≡ get_or l i 0
  here = rw e (mapped_at (relabelled from to) 0 l i h)

  pub relabel-hit : get_or labels i 0 ≡ from → set labels i to ≡ mapped (relabelled from to) (i + 1) l
  relabel-hit q = rw (mapped_next (relabelled from to) 0 l i h) (rw (eq-eqb (get_or l i 0) from (sym here ∙ q)) (rw e))

  pub relabel-miss : (get_or labels i 0 ≡ from → ⊥) → labels ≡ mapped (relabelled from to) (i + 1) l
  relabel-miss q =
      rw (mapped_next (relabelled from to) 0 l i h)
      (rw (ne_eqb (get_or l i 0) from (λ k. q (here ∙ k))) (rw (← e) (rw (← here) (sym (set-get_or labels i 0)))))

-- labels of which one is made itself stay as they are
relabelled-same : (from to : ℕ) → from ≡ to → (l : List ℕ) → map (relabelled from to) l ≡ l
relabelled-same from to e [] = refl
relabelled-same from to e (c ∷ l) = rw (relabelled-same from to e l) (go (eqb c from) refl)
  where
    go : (b : Bool) → eqb c from ≡ b → ◌≡◌ {A = List ℕ} (pick b to c ∷ l) (c ∷ l)
    go true q = rw (eqb-true c from q ∙ e)
    go false q = refl

pub relabel-none : (from to n : ℕ) (l : List ℕ) → from ≡ to → l ≡ mapped (relabelled from to) n l
relabel-none from to n l e = rw (relabelled-same from to e (take n l)) (sym (take-append-drop n l))

-- a list that is cleared is nothing but padding
zeros : (l : List ℕ) → map {B = ℕ} (λ x. 0) l ≡ replicate (length l) 0
zeros [] = refl
zeros (x ∷ l) = ap (λ (r : List ℕ). 0 ∷ r) (zeros l)

pub cleared-padded : (n : ℕ) (l : List ℕ) (k : ℕ) → k ≡ length l → length l ≤ n → cleared k (padded n 0 l) ≡ padded n 0 []
unfolding padded
cleared-padded n l k q h =
    let e : length l + (n - length l) ≡ n - 0 = omega arith in
    mapped-padded n 0 l (λ x. 0) k q ∙ rw (length-map {B = ℕ} l (λ x. 0)) (rw (zeros l) (rw (replicate-append-replicate {A = ℕ} (length l) (n - length l) 0) (rw e)))
