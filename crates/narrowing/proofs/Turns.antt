-- Turns of narrowing, by laid out atoms, keep the good placings of the nets whose atoms they are.
use Prim.Native.Nat.{ℕ, suc, ◌+◌, ◌-◌, ◌<◌}
use mathlib.Core.Path.{◌≡◌, sym, ◌∙◌, ap, subst}
use mathlib.Core.List.{List}
use native.Mathlib.Omega.{arith}
use lib.ListN.{get_or}
use Rattle.rows.specs.declared.Atom.{Atom}
use Rattle.rows.specs.declared.Sheet.{Sheet as NormalForm}
use Rattle.network.specs.NetIn.{atom_at}
use Rattle.candidates.specs.Laid.{laid_atom, LaidOut, link_of}
use Rattle.candidates.specs.Tables.{AtomsStay, LinksStay}
use Rattle.candidates.proofs.Staying.{atoms-more, links-more}
use Rattle.candidates.proofs.Sending.{row-range, row-place, link-decided}
use Rattle.narrowing.specs.Steps.{Fitting, GivenRow, Given, Alone, AloneLink, NarrowedBy}
use Rattle.narrowing.proofs.Obeying.{atoms-obeyed, links-obeyed, alone-obeyed, kin-obeyed}

-- what is said of the atoms of two nets holds of them as laid out
module _ (S F : NormalForm) (sheet : List ℕ) (n : ℕ) (figure : List ℕ) (m : ℕ) (os : LaidOut S sheet n) (of : LaidOut F figure m) where
  fitting : (l : List ℕ) (i t : ℕ) → i < m → t < n → Fitting (atom_at F i) (atom_at S t) l → Fitting (laid_atom figure i) (laid_atom sheet t) l
  fitting l i t h u f = subst (λ (w : Atom). Fitting w (laid_atom sheet t) l) (sym (of.atoms i h)) (subst (λ (w : Atom). Fitting (atom_at F i) w l) (sym (os.atoms t u)) f)

  given : (row k y : ℕ) → Given (atom_at S) S.atom_count row k y → Given (laid_atom sheet) n row k y
  given row k y g =
      let d = g.1 in
      let u : g.0 < n = omega (arith, d.sheet-atom, os.count) in
      let e = sym (os.atoms g.0 u) in
      (g.0, record { sheet-atom = u; may = d.may; place = subst (λ (w : Atom). k < w.count) e d.place; there = subst (λ (w : Atom). link_of w k ≡ y + 1) e d.there })

  given-row : (i : ℕ) (here : Atom) → i < m → here ≡ laid_atom figure i → (row z y : ℕ) → GivenRow (atom_at S) S.atom_count (atom_at F i) row z y → GivenRow (laid_atom sheet) n here row z y
  given-row i here h e row z y f k u q =
      let w = e ∙ of.atoms i h in
      given row k y (f k (subst (λ (b : Atom). k < b.count) w u) (subst (λ (b : Atom). link_of b k ≡ z + 1) w q))

module _ (kin sheet : List ℕ) (n : ℕ) (figure : List ℕ) (m : ℕ) where
  -- atoms by their links
  pub link-narrows : (a l b : List ℕ) → AtomsStay a b (λ i t. (i < m) × (t < n) × Fitting (laid_atom figure i) (laid_atom sheet t) l) → NarrowedBy kin sheet n figure m a l b l
  link-narrows a l b s S F os of rows p g o =
      atoms-obeyed S F os.fit of.fit os.normal of.normal p g a l o b
      (atoms-more a b _ _ s (λ i t q f. let h : i < m = omega (arith, f.0, of.count) in let u : t < n = omega (arith, f.1, os.count) in (h, u, fitting S F sheet n figure m os of l i t h u f.2)))

  -- links by one that a figure atom has
  pub kin-narrows : (a l k : List ℕ) (x i j : ℕ) → i < m → j < (laid_atom figure i).count → link_of (laid_atom figure i) j ≡ x + 1 → LinksStay l k (AloneLink kin l x) → NarrowedBy kin sheet n figure m a l a k
  kin-narrows a l k x i j h c e s S F os of rows p g o =
      let b : laid_atom figure i ≡ atom_at F (suc i - 1) = of.atoms i h ∙ ap (atom_at F) (sym (row-place S F os.fit of.fit os.normal of.normal p g i)) in
      let y = link_of (atom_at F (suc i - 1)) j in
      let q : x ≡ y - 1 = omega (arith, e, ap (λ (t : Atom). link_of t j) b) in
      let r = row-range S F os.fit of.fit os.normal of.normal p g i (omega (arith, h, of.count)) in
      kin-obeyed S F os.fit of.fit os.normal of.normal p g a l o kin rows k y
      (link-decided S F os.fit of.fit os.normal of.normal p g (suc i) j r (subst (λ (t : Atom). j < t.count) b c))
      (subst (λ (w : ℕ). LinksStay l k (AloneLink kin l w)) q s)

  module _ (i : ℕ) (h : i < m) where
    -- the links of one atom by where it may go
    pub atom-narrows : (here : Atom) → here ≡ laid_atom figure i → (a l k : List ℕ) → LinksStay l k (GivenRow (laid_atom sheet) n here (get_or a i 0)) → NarrowedBy kin sheet n figure m a l a k
    atom-narrows here e a l k s S F os of rows p g o =
        links-obeyed S F os.fit of.fit os.normal of.normal p g a l o k i (omega (arith, h, of.count))
        (links-more l k _ _ s (λ z y q f. given-row S F sheet n figure m os of i here h e (get_or a i 0) z y f))

    -- the other atoms by one that has one place to go
    pub alone-narrows : (a l b : List ℕ) → AtomsStay a b (Alone a i) → NarrowedBy kin sheet n figure m a l b l
    alone-narrows a l b s S F os of rows p g o = alone-obeyed S F os.fit of.fit os.normal of.normal p g a l o b i (omega (arith, h, of.count)) s

  pub narrows_then : (a l b k c j : List ℕ) → NarrowedBy kin sheet n figure m a l b k → NarrowedBy kin sheet n figure m b k c j → NarrowedBy kin sheet n figure m a l c j
  narrows_then a l b k c j r s S F os of rows p g o = s S F os of rows p g (r S F os of rows p g o)
