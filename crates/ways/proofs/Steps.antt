-- Rows of atoms that are laid out, as steps between links.
use Rattle.std.proofs.Common.{◌≡◌, ℕ, suc, ◌+◌, ◌-◌, ◌<◌, ◌≤◌, ◌≢◌, List, get_or, take, sym, refl, ap, ◌∙◌, subst, arith}
use Rattle.hyperlmntal.specs.Link.{◌∈◌}
use Rattle.rows.specs.Format.{most_links}
use Rattle.rows.specs.Limits.{sheet_link_limit}
use Rattle.rows.specs.declared.Atom.{Atom}
use Rattle.rows.specs.declared.Sheet.{Sheet as NormalForm}
use Rattle.placing.specs.Net.{Range}
use Rattle.network.specs.NetIn.{net_in, atom_at, Used}
use Rattle.network.proofs.NetIn.{in_place, used-numbered, used-in}
use Rattle.candidates.specs.Laid.{laid_at, link_of, Rowed, LaidOut}
use Rattle.candidates.proofs.Laying.{link-laid, count-laid}
use Rattle.completing.specs.Known.{Touches}
use Rattle.completing.specs.Ways.{Passes}
use Rattle.stepping.proofs.Reading.{atom-links}
use Rattle.ways.specs.Trails.{LaidStep, Passable}

-- A row whose places were tested.
module _ (laid : List ℕ) (atoms row : ℕ) (rowed : Rowed laid atoms) (h : row < atoms) where
  pub row-few : laid_at laid row 1 ≤ most_links
  row-few = subst (λ (n : ℕ). n ≤ most_links) (count-laid laid row) (rowed.atoms row h).few

  pub place-range : (k : ℕ) → k < laid_at laid row 1 → Range sheet_link_limit (laid_at laid row (2 + k))
  place-range k l = subst (Range sheet_link_limit) (link-laid laid row k (let f = row-few in omega arith)) ((rowed.atoms row h).numbered k (let e = count-laid laid row in omega arith))

  -- r is the link of place `from`.
  module _ (from r : ℕ) (f : from < laid_at laid row 1) (d : r ≡ laid_at laid row (2 + from)) where
    pub from-range : Range sheet_link_limit r
    from-range = subst (Range sheet_link_limit) (sym d) (place-range from f)

    pub step-tested : (taken : List ℕ) (into z : ℕ) → get_or taken row 0 ≢ 1 → into < laid_at laid row 1 → laid_at laid row (2 + into) ≡ z + 1
        → (r - 1 < sheet_link_limit) × LaidStep laid taken atoms (suc (r - 1)) (suc row) (suc z)
    step-tested taken into z n i e = (
      omega (arith, from-range.0, from-range.1),
      record {
        row = row;
        atom = refl;
        atom-in = h;
        may-pass = n;
        from = from;
        into = into;
        from_in = f;
        into-in = i;
        from-link = let u : r ≡ suc (r - 1) = omega (arith, from-range.0) in sym d ∙ u;
        into-link = let u : z + 1 ≡ suc z = omega arith in e ∙ u;
      },
    )

module _ (net : NormalForm) (laid : List ℕ) (atoms : ℕ) (out : LaidOut net laid atoms) (row : ℕ) (h : row < atoms) where
  inside : row < net.atom_count
  inside = let e = out.count in omega arith

  used : Used net.class_count (atom_at net row).count (atom_at net row).links
  used = out.fit.atoms row inside

  width : laid_at laid row 1 ≡ (atom_at net row).count
  width = sym (count-laid laid row) ∙ ap (λ (a : Atom). a.count) (out.atoms row h)

  link : (k : ℕ) → k < (atom_at net row).count → link_of (atom_at net row) k ≡ laid_at laid row (2 + k)
  link k l = subst (λ (a : Atom). link_of a k ≡ laid_at laid row (2 + k)) (out.atoms row h) (link-laid laid row k (let f = used.few in omega arith))

  -- A row touches the links at its places, and no others.
  pub row-touches : (k : ℕ) → k < laid_at laid row 1 → Touches (net_in net) (suc row) (laid_at laid row (2 + k))
  row-touches k l = let few : k < (atom_at net row).count = subst (λ (n : ℕ). k < n) width l in
      subst (λ (m : List ℕ). laid_at laid row (2 + k) ∈ m) (sym (atom-links net out.fit row inside)) (subst (λ (y : ℕ). y ∈ take (atom_at net row).count (atom_at net row).links) (link k few) (used-in _ _ _ used k few))

  pub touches-row : (y : ℕ) → Touches (net_in net) (suc row) y → (k : ℕ) × (k < laid_at laid row 1) × (laid_at laid row (2 + k) ≡ y)
  touches-row y m =
      let t = in_place _ _ (used-numbered _ _ _ used).there y (subst (λ (l : List ℕ). y ∈ l) (atom-links net out.fit row inside) m) in
      (t.0, subst (λ (n : ℕ). t.0 < n) (sym width) t.1, sym (link t.0 t.1) ∙ t.2)

-- A step through a row that may be passed.
pub laid-passes : (sheet : NormalForm) (laid taken : List ℕ) (atoms : ℕ) → LaidOut sheet laid atoms → (y j z : ℕ) → LaidStep laid taken atoms y j z → Passes (net_in sheet) (Passable taken atoms) y j z
laid-passes sheet laid taken atoms out y j z s = subst (λ (i : ℕ). Passes (net_in sheet) (Passable taken atoms) y i z) (sym s.atom) (
  (s.row, refl, s.atom-in, s.may-pass),
  subst (Touches (net_in sheet) (suc s.row)) s.from-link (row-touches sheet laid atoms out s.row s.atom-in s.from s.from_in),
  subst (Touches (net_in sheet) (suc s.row)) s.into-link (row-touches sheet laid atoms out s.row s.atom-in s.into s.into-in),
)
