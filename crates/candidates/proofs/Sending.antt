-- What a good placing does, in the arrays of two normal forms.
use Prim.Native.Nat.{ℕ, suc, ◌-◌, ◌<◌}
use mathlib.Core.Path.{◌≡◌, sym, ◌∙◌, ap, subst}
use native.Mathlib.Omega.{arith}
use lib.ListN.{length}
use Rattle.hyperlmntal.specs.Link.{◌∈◌}
use Rattle.rows.specs.declared.Sheet.{Sheet as NormalForm}
use Rattle.placing.specs.Net.{Net, Range, Normal}
use Rattle.placing.specs.Placing.{Placing, cell_at, atom_target, link_target, Good}
use Rattle.network.specs.NetIn.{net_in, atom_at, Fit}
use Rattle.network.proofs.NetIn.{atoms-length}
use Rattle.candidates.specs.Sets.{Decided, by-atom}
use Rattle.candidates.specs.Laid.{link_of}
use Rattle.candidates.proofs.GoodPlaces.{place-count, place-sent, place-member, decided-real}
use Rattle.candidates.proofs.NetRows.{atom-count, atom-link}

module _ (sheet figure : NormalForm) (fs : Fit sheet) (ff : Fit figure) (NS : Normal (net_in sheet)) (NF : Normal (net_in figure)) (p : Placing) (g : Good (net_in sheet) (net_in figure) p) where
  abbrev S : Net
  S = net_in sheet

  abbrev F : Net
  F = net_in figure

  -- figure atom i, and the sheet atom that it goes to, in the arrays
  pub here : (i : ℕ) → Range (length F.atoms) i → Range figure.atom_count i
  here i r = (r.0, omega (arith, r.1, atoms-length figure ff))

  pub there : (i : ℕ) → Range (length F.atoms) i → Range sheet.atom_count (atom_target p i)
  there i r = let s = g.sending.to-atoms i r in (s.0, omega (arith, s.1, atoms-length sheet fs))

  pub there-index : (i : ℕ) → Range (length F.atoms) i → atom_target p i - 1 < sheet.atom_count
  there-index i r = let s = there i r in omega (arith, s.0, s.1)

  pub row-range : (i : ℕ) → i < figure.atom_count → Range (length F.atoms) (suc i)
  row-range i h = (omega arith, omega (arith, atoms-length figure ff))

  pub row-place : (i : ℕ) → suc i - 1 ≡ i
  row-place i = omega arith

  pub same_count : (i : ℕ) → Range (length F.atoms) i → (atom_at figure (i - 1)).count ≡ (atom_at sheet (atom_target p i - 1)).count
  same_count i r = sym (atom-count figure ff i (here i r)) ∙ sym (place-count S F NS NF p g i r) ∙ atom-count sheet fs (atom_target p i) (there i r)

  module _ (i k : ℕ) (r : Range (length F.atoms) i) (h : k < (atom_at figure (i - 1)).count) where
    place : k < length (cell_at F.atoms i).1
    place = omega (arith, h, atom-count figure ff i (here i r))

    pub link-sent : link_of (atom_at sheet (atom_target p i - 1)) k ≡ link_target p (link_of (atom_at figure (i - 1)) k)
    link-sent =
        sym (atom-link sheet fs (atom_target p i) (there i r) k (omega (arith, h, same_count i r)))
        ∙ place-sent S F NS NF p g i k r place ∙ ap (link_target p) (atom-link figure ff i (here i r) k h)

    pub link-decided : Decided F (link_of (atom_at figure (i - 1)) k)
    link-decided = by-atom i r (subst (λ (x : ℕ). x ∈ (cell_at F.atoms i).1) (atom-link figure ff i (here i r) k h) (place-member S F NS NF p g i k place))

  -- a decided link's place
  pub link-place : (x : ℕ) → Decided F x → link_target p x - 1 < sheet.class_count
  link-place x d = let r = decided-real S F NS NF p g x d in omega (arith, r.0, r.1)
