-- Steps on the arrays keep good placings in the sets.
use Prim.Native.Nat.{ℕ, suc, ◌-◌, ◌<◌}
use mathlib.Core.Path.{◌≡◌, sym, ap, subst}
use mathlib.Core.List.{List}
use native.Mathlib.Omega.{arith}
use lib.ListN.{length, get_or}
use Rattle.rows.specs.Limits.{sheet_atom_limit, sheet_link_limit}
use Rattle.rows.specs.declared.Sheet.{Sheet as NormalForm}
use Rattle.placing.specs.Net.{Net, Range, Normal}
use Rattle.placing.specs.Placing.{Placing, atom_target, link_target, Good}
use Rattle.network.specs.NetIn.{net_in, atom_at, Fit}
use Rattle.candidates.specs.Sets.{Decided, Obeys}
use Rattle.candidates.specs.Kin.{RowLabels}
use Rattle.candidates.specs.Laid.{link_of}
use Rattle.candidates.specs.Tables.{AtomIn, AtomsStay, LinksStay, MayAtom, MayLink}
use Rattle.candidates.proofs.GoodPlaces.{decided-real, decided-link}
use Rattle.candidates.proofs.Kinship.{labels-obeyed}
use Rattle.candidates.proofs.Sending.{here, there-index, row-range, row-place, same_count, link-sent, link-decided, link-place}
use Rattle.narrowing.specs.Steps.{Fitting, GivenRow, Alone, AloneLink}

module _ (sheet figure : NormalForm) (fs : Fit sheet) (ff : Fit figure) (NS : Normal (net_in sheet)) (NF : Normal (net_in figure)) (p : Placing) (g : Good (net_in sheet) (net_in figure) p) where
  abbrev S : Net
  S = net_in sheet

  abbrev F : Net
  F = net_in figure

  module _ (a l : List ℕ) (o : Obeys S F (MayAtom a) (MayLink l) p) where
    -- a figure atom, counted from 1, goes to a sheet atom
    there : (i : ℕ) → Range (length F.atoms) i → atom_target p i - 1 < sheet_atom_limit
    there i r = omega (arith, there-index sheet figure fs ff NS NF p g i r, fs.atom-count)

    fitting : (i : ℕ) → Range (length F.atoms) i → Fitting (atom_at figure (i - 1)) (atom_at sheet (atom_target p i - 1)) l
    fitting i r = record {
      counts = same_count sheet figure fs ff NS NF p g i r;
      links = λ k h. subst (MayLink l (link_of (atom_at figure (i - 1)) k)) (sym (link-sent sheet figure fs ff NS NF p g i k r h)) (o.links (link_of (atom_at figure (i - 1)) k) (link-decided sheet figure fs ff NS NF p g i k r h));
    }

    given-at : (x : ℕ) → Decided F x → (i : ℕ) → Range (length F.atoms) i → GivenRow (atom_at sheet) sheet.atom_count (atom_at figure (i - 1)) (get_or a (i - 1) 0) (x - 1) (link_target p x - 1)
    given-at x d i r k h e =
        let w = decided-link S F NS NF p g x d in
        let u = decided-real S F NS NF p g x d in
        let q : link_of (atom_at figure (i - 1)) k ≡ x = omega (arith, e, w.0) in
        (atom_target p i - 1, record { sheet-atom = there-index sheet figure fs ff NS NF p g i r; may = o.atoms i r; place = omega (arith, h, same_count sheet figure fs ff NS NF p g i r); there = omega (arith, link-sent sheet figure fs ff NS NF p g i k r h, ap (link_target p) q, u.0) })

    given : (x : ℕ) → Decided F x → (i : ℕ) → i < figure.atom_count → GivenRow (atom_at sheet) sheet.atom_count (atom_at figure i) (get_or a i 0) (x - 1) (link_target p x - 1)
    given x d i h = subst (λ (j : ℕ). GivenRow (atom_at sheet) sheet.atom_count (atom_at figure j) (get_or a j 0) (x - 1) (link_target p x - 1)) (row-place sheet figure fs ff NS NF p g i) (given-at x d (suc i) (row-range sheet figure fs ff NS NF p g i h))

    -- atoms by their links
    pub atoms-obeyed : (b : List ℕ) → AtomsStay a b (λ i t. (i < figure.atom_count) × (t < sheet.atom_count) × Fitting (atom_at figure i) (atom_at sheet t) l) → Obeys S F (MayAtom b) (MayLink l) p
    atoms-obeyed b s = record { atoms = λ i r. s (i - 1) (atom_target p i - 1) (there i r) (o.atoms i r) (let q = here sheet figure fs ff NS NF p g i r in omega (arith, q.0, q.1), there-index sheet figure fs ff NS NF p g i r, fitting i r); links = o.links }

    -- links by one atom
    pub links-obeyed : (k : List ℕ) (i : ℕ) → i < figure.atom_count → LinksStay l k (GivenRow (atom_at sheet) sheet.atom_count (atom_at figure i) (get_or a i 0)) → Obeys S F (MayAtom a) (MayLink k) p
    links-obeyed k i h s = record { atoms = o.atoms; links = λ x d. s (x - 1) (link_target p x - 1) (omega (arith, link-place sheet figure fs ff NS NF p g x d, fs.class-count)) (o.links x d) (given x d i h) }

    -- atoms by one that has one place to go, since no two go to one
    pub alone-obeyed : (b : List ℕ) (i : ℕ) → i < figure.atom_count → AtomsStay a b (Alone a i) → Obeys S F (MayAtom b) (MayLink l) p
    alone-obeyed b i h s = record { atoms = λ j r. s (j - 1) (atom_target p j - 1) (there j r) (o.atoms j r) (only j r); links = o.links }
      where
        mine : Range (length F.atoms) (suc i)
        mine = row-range sheet figure fs ff NS NF p g i h

        only : (j : ℕ) → Range (length F.atoms) j → Alone a i (j - 1) (atom_target p j - 1)
        only j r f =
            let e = f (atom_target p (suc i) - 1) (subst (λ (q : ℕ). AtomIn a q (atom_target p (suc i) - 1)) (row-place sheet figure fs ff NS NF p g i) (o.atoms (suc i) mine)) in
            let x = g.sending.to-atoms j r in
            let y = g.sending.to-atoms (suc i) mine in
            omega (arith, g.sending.different j (suc i) r mine (omega (arith, e, x.0, y.0)))

    -- links by one that has one place to go, since only its kin go there
    pub kin-obeyed : (kin : List ℕ) → RowLabels F (λ x. get_or kin (x - 1) 0) → (k : List ℕ) (x : ℕ) → Decided F x → LinksStay l k (AloneLink kin l (x - 1)) → Obeys S F (MayAtom a) (MayLink k) p
    kin-obeyed kin rows k x d s = record { atoms = o.atoms; links = λ z e. s (z - 1) (link_target p z - 1) (there-link z e) (o.links z e) (only z e) }
      where
        there-link : (z : ℕ) → Decided F z → link_target p z - 1 < sheet_link_limit
        there-link z e = omega (arith, link-place sheet figure fs ff NS NF p g z e, fs.class-count)

        only : (z : ℕ) → Decided F z → AloneLink kin l (x - 1) (z - 1) (link_target p z - 1)
        only z e f = ((labels-obeyed S F NS NF p g (MayAtom a) (MayLink l) x d (λ y. get_or kin (y - 1) 0) rows o).links z e).1
            (λ v r m. let q = f (v - 1) (omega (arith, r.0, r.1, fs.class-count)) m in let u = decided-real S F NS NF p g z e in omega (arith, q, r.0, u.0))
