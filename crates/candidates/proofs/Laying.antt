-- Rows of an array of atoms as atoms of a net.
use Prim.Native.Nat.{ℕ, zero, suc, ◌+◌, ◌*◌, ◌<◌}
use mathlib.Core.Path.{◌≡◌, refl, sym, ◌∙◌, ap, subst}
use mathlib.Core.Logic.{◌≢◌}
use mathlib.Core.List.{List}
use native.Mathlib.Omega.{arith}
use lib.ListN.{length, get_or}
use lib.Seq.{ext_get_or}
use Rattle.rows.specs.Format.{most_links, field_count}
use Rattle.rows.specs.Limits.{sheet_link_limit}
use Rattle.rows.specs.declared.Atom.{Atom}
use Rattle.rows.specs.declared.Sheet.{Sheet as NormalForm}
use Rattle.network.specs.NetIn.{Used}
use Rattle.candidates.specs.Laid.{laid_at, numbers_from, laid_atom, link_of, Rowed, LaidOut}
use Rattle.candidates.proofs.NetRows.{row-wider}

-- numbers one after the other
numbers-length : (l : List ℕ) (at n : ℕ) → length (numbers_from l at n) ≡ n
unfolding numbers_from
numbers-length l at zero = refl
numbers-length l at (suc n) = ap suc (numbers-length l (suc at) n)

numbers-at : (l : List ℕ) (at n k : ℕ) → k < n → get_or (numbers_from l at n) k 0 ≡ get_or l (at + k) 0
unfolding numbers_from
numbers-at l at zero k h = absurd (omega (arith, h))
numbers-at l at (suc n) zero h = ap (λ (q : ℕ). get_or l q 0) (let e : at ≡ at + 0 = omega arith in e)
numbers-at l at (suc n) (suc k) h = numbers-at l (suc at) n k (omega (arith, h)) ∙ ap (λ (q : ℕ). get_or l q 0) (let e : suc at + k ≡ at + suc k = omega arith in e)

-- what stands in row i
pub width-laid : (l : List ℕ) (i : ℕ) → length (laid_atom l i).links ≡ most_links
unfolding laid_atom
width-laid l i = numbers-length l (i * field_count + 2) most_links

pub link-laid : (l : List ℕ) (i k : ℕ) → k < most_links → link_of (laid_atom l i) k ≡ laid_at l i (2 + k)
unfolding laid_atom
link-laid l i k h = numbers-at l (i * field_count + 2) most_links k h ∙ ap (λ (q : ℕ). get_or l q 0) (let e : i * field_count + 2 + k ≡ i * field_count + (2 + k) = omega arith in e)

name-laid : (l : List ℕ) (i : ℕ) → (laid_atom l i).name ≡ get_or l (i * field_count) 0
unfolding laid_atom
name-laid l i = refl

pub count-laid : (l : List ℕ) (i : ℕ) → (laid_atom l i).count ≡ laid_at l i 1
unfolding laid_atom
count-laid l i = refl

same-atom : (n c : ℕ) (l : List ℕ) (a : Atom) → n ≡ a.name → c ≡ a.count → l ≡ a.links → ◌≡◌ {A = Atom} (record { name = n; count = c; links = l }) a
same-atom n c l a p q r = rw (p, q, r) refl

-- row i holds an atom
module _ (l : List ℕ) (i : ℕ) (a : Atom) where
  pub laid-row : length a.links ≡ most_links → get_or l (i * field_count) 0 ≡ a.name → laid_at l i 1 ≡ a.count → ((k : ℕ) → k < most_links → laid_at l i (2 + k) ≡ get_or a.links k 0) → laid_atom l i ≡ a
  unfolding laid_atom
  laid-row e n c f = same-atom _ _ _ a n c (ext_get_or 0 (laid_atom l i).links a.links (width-laid l i ∙ sym e) (λ k h. let b : k < most_links = omega (arith, h, width-laid l i) in link-laid l i k b ∙ f k b))

-- rows that are the same place by place
pub same_row : (l m : List ℕ) (i j : ℕ) → ((k : ℕ) → k < field_count → laid_at l i k ≡ laid_at m j k) → laid_atom l i ≡ laid_atom m j
same_row l m i j f = laid-row l i (laid_atom m j) (width-laid m j) (named i l ∙ f 0 (omega arith) ∙ sym (named j m) ∙ sym (name-laid m j)) (f 1 (omega arith) ∙ sym (count-laid m j)) (λ k h. f (2 + k) (omega (arith, h)) ∙ sym (link-laid m j k h))
  where
    named : (t : ℕ) (o : List ℕ) → get_or o (t * field_count) 0 ≡ laid_at o t 0
    named t o = ap (λ (q : ℕ). get_or o q 0) (let e : t * field_count ≡ t * field_count + 0 = omega arith in e)

-- other rows stay
pub kept_row : (l m : List ℕ) (i j : ℕ) → j < i → ((q : ℕ) → ((k : ℕ) → k < field_count → q ≢ i * field_count + k) → get_or m q 0 ≡ get_or l q 0) → laid_atom m j ≡ laid_atom l j
kept_row l m i j h f = same_row m l j j (λ k b. f (j * field_count + k) (λ p c e. omega (arith, h, b, c, e)))

-- the rows of a net's atoms
pub laid-rowed : (net : NormalForm) (laid : List ℕ) (n : ℕ) → LaidOut net laid n → Rowed laid n
laid-rowed net laid n o = record {
  few = omega (arith, o.fit.atom-count, o.count);
  atoms = λ i h. subst (λ (a : Atom). Used sheet_link_limit a.count a.links) (sym (o.atoms i h)) (row-wider (o.fit.atoms i (omega (arith, h, o.count))) o.fit.class-count);
}
