-- The rows of atoms that are laid out, as atoms of a net.
use Prim.Native.Nat.{ℕ, suc, ◌+◌, ◌*◌, ◌≤◌, ◌<◌}
use mathlib.Core.Path.{◌≡◌, sym, ◌∙◌, ap, subst}
use native.Mathlib.Omega.{arith}
use mathlib.Core.List.{List}
use lib.ListN.{get_or}
use Rattle.hyperlmntal.specs.Link.{◌∈◌}
use Rattle.rows.specs.Format.{most_links, field_count}
use Rattle.rows.specs.Limits.{sheet_link_limit}
use Rattle.rows.specs.declared.Atom.{Atom}
use Rattle.reading.proofs.normal.Merging.{get_d-in}
use Rattle.placing.specs.Net.{Net, Range, Normal}
use Rattle.placing.specs.Placing.{cell_at}
use Rattle.placing.proofs.Lists.{member-at, get_d_of}
use Rattle.placing.proofs.Standing.{place-link}
use Rattle.candidates.specs.Laid.{laid_at, laid_atom, Rowed}
use Rattle.candidates.proofs.Laying.{link-laid, count-laid}
use Rattle.stepping.specs.Chains.{RowIn}
use Rattle.faults.specs.Parts.{StandsOn}

module _ (S : Net) (j : ℕ) (links : List ℕ) (count : ℕ) (r : RowIn S j links count) where
  pub row_on : (k : ℕ) → k < count → get_or links k 0 ∈ (cell_at S.atoms (suc j)).1
  row_on k h = subst (λ (y : ℕ). y ∈ (cell_at S.atoms (suc j)).1) (r.same k h) (get_d-in (cell_at S.atoms (suc j)).1 k 0 (let w = r.width in omega arith))

  pub row-numbered : Normal S → (k : ℕ) → k < count → Range S.links (get_or links k 0)
  row-numbered n k h = place-link S n (suc j) (get_or links k 0) (let i = r.atom-in in (omega arith, omega arith)) (row_on k h)

  pub row-place : (y : ℕ) → y ∈ (cell_at S.atoms (suc j)).1 → (k : ℕ) × (k < count) × (get_or links k 0 ≡ y)
  row-place y m =
      let t = member-at (cell_at S.atoms (suc j)).1 y m in
      let h : t.0 < count = omega (arith, t.1, r.width) in
      (t.0, h, sym (r.same t.0 h) ∙ get_d_of (cell_at S.atoms (suc j)).1 t.0 0 y t.2)

-- Atom j as it is read.
module _ (laid : List ℕ) (atoms j : ℕ) (h : j < atoms) (a : Atom) (e : a ≡ laid_atom laid j) where
  pub read-stands : (k : ℕ) → k < a.count → StandsOn laid atoms j (get_or a.links k 0)
  read-stands = subst (λ (b : Atom). (k : ℕ) → k < b.count → StandsOn laid atoms j (get_or b.links k 0)) (sym e) (λ k l S rows. row_on S j (laid_atom laid j).links (laid_atom laid j).count (rows j h) k l)

-- What stands in row j of those laid out.
pub laid-count : (laid : List ℕ) (j : ℕ) → laid_at laid j 1 ≡ (laid_atom laid j).count
laid-count laid j = sym (count-laid laid j)

pub laid-link : (laid : List ℕ) (j k : ℕ) → k < most_links → get_or laid (j * field_count + 2 + k) 0 ≡ get_or (laid_atom laid j).links k 0
laid-link laid j k h = ap (λ (q : ℕ). get_or laid q 0) (let e : j * field_count + 2 + k ≡ j * field_count + (2 + k) = omega arith in e) ∙ sym (link-laid laid j k h)

module _ (laid : List ℕ) (atoms j : ℕ) (r : Rowed laid atoms) (h : j < atoms) where
  pub laid-few : laid_at laid j 1 ≤ most_links
  laid-few = subst (λ (n : ℕ). n ≤ most_links) (sym (laid-count laid j)) (r.atoms j h).few

  pub laid-range : (k : ℕ) → k < laid_at laid j 1 → Range sheet_link_limit (get_or laid (j * field_count + 2 + k) 0)
  laid-range k l = subst (Range sheet_link_limit) (sym (laid-link laid j k (let f = laid-few in omega arith))) ((r.atoms j h).numbered k (let e = laid-count laid j in omega arith))
