-- A good placing of a figure without contexts keeps colours, in the first round and in each that follows, and so their sum.
use Rattle.std.proofs.Common.{◌≡◌, ℕ, ◌+◌, List, map, length, sym, ap, ◌∙◌, ap₂}
use Rattle.hyperlmntal.specs.Link.{◌∈◌}
use Rattle.placing.specs.Net.{Net, Range, NormalSheet}
use Rattle.placing.specs.Placing.{Placing, cell_at, atom_target, link_target, Good}
use Rattle.placing.proofs.Standing.{place-link}
use Rattle.network.proofs.Sums.{sum-across}
use Rattle.colours.specs.Colours.{Mixing, Colours, pattern, places_at, first, around, next, total, KeepsColours, Agree}
use Rattle.colours.specs.Pieces.{Sizes}
use Rattle.colours.proofs.Bijection.{atoms-across, links-across, link-one, marks-across}
use Rattle.colours.proofs.Sent.{Alone, places-sent, pattern-sent, colours-sent, marks-sent}
use Rattle.colours.proofs.PieceLaws.{sizes-kept}

module _ (S F : Net) (NS : NormalSheet S) (NF : NormalSheet F) (p : Placing) (g : Good S F p) where
  abbrev here : ℕ → List ℕ
  here i = (cell_at F.atoms i).1

  abbrev there : ℕ → List ℕ
  there i = (cell_at S.atoms (atom_target p i)).1

  link-of : (i x : ℕ) → Range (length F.atoms) i → x ∈ here i → Range F.links x
  link-of i x h m = place-link F NF.normal i x h m

  alone : (i x : ℕ) → Range (length F.atoms) i → Range F.links x → Alone (link_target p) x (here i)
  alone i x h r z m e = link-one S F NS NF p g x z r (link-of i z h m) e

  module _ (M : Mixing) where
    pub first-kept : (a b : ℕ → ℕ) → Sizes F a → Sizes S b → KeepsColours F p (first M F a) (first M S b)
    first-kept a b u v = record { atoms = atom; links = λ x r. ap M.link_first (marks-sent x (link_target p x) F.marks S.marks (marks-across S F NS NF p g x r)) }
      where
        shape : (i : ℕ) → Range (length F.atoms) i → pattern (here i) ≡ pattern (there i)
        shape i r = pattern-sent (link_target p) (here i) (λ x m. alone i x r (link-of i x r m)) ∙ ap (λ (l : List ℕ). pattern l) (g.across i r).places

        atom : (i : ℕ) → Range (length F.atoms) i → (first M F a).of_atom i ≡ (first M S b).of_atom (atom_target p i)
        atom i r = ap₂ (λ (n : ℕ) (l : List ℕ). M.atom_first n (a i) l) (g.across i r).name (shape i r)
            ∙ ap (λ (s : ℕ). M.atom_first (cell_at S.atoms (atom_target p i)).0 s (pattern (there i))) (sizes-kept S F NS NF p g a b u v i r)

    module _ (c d : Colours) (k : KeepsColours F p c d) where
      around-kept : (x : ℕ) → Range F.links x → around M F c x ≡ around M S d (link_target p x)
      around-kept x r = sum-across (length F.atoms) (length S.atoms) (atom_target p) (atoms-across S F NS NF p g)
          (λ i. places_at (M.at_place (c.of_atom i)) x 0 (here i)) (λ j. places_at (M.at_place (d.of_atom j)) (link_target p x) 0 (cell_at S.atoms j).1) term
        where
          term : (i : ℕ) → Range (length F.atoms) i → places_at (M.at_place (c.of_atom i)) x 0 (here i) ≡ places_at (M.at_place (d.of_atom (atom_target p i))) (link_target p x) 0 (there i)
          term i h = places-sent (link_target p) (M.at_place (c.of_atom i)) x 0 (here i) (alone i x h r)
              ∙ ap₂ (λ (n : ℕ) (l : List ℕ). places_at (M.at_place n) (link_target p x) 0 l) (k.atoms i h) (g.across i h).places

      pub next-kept : KeepsColours F p (next M F c) (next M S d)
      next-kept = record { atoms = λ i r. ap₂ M.atom_next (k.atoms i r) (row i r); links = λ x r. ap₂ M.link_next (k.links x r) (around-kept x r) }
        where
          row : (i : ℕ) → Range (length F.atoms) i → map c.of_link (here i) ≡ map d.of_link (there i)
          row i r = colours-sent (link_target p) c.of_link d.of_link (here i) (λ x m. k.links x (link-of i x r m)) ∙ ap (λ (l : List ℕ). map d.of_link l) (g.across i r).places

  module _ (c d : Colours) (k : KeepsColours F p c d) where
    pub total_kept : total F c ≡ total S d
    total_kept = ap₂ ◌+◌
        (sum-across (length F.atoms) (length S.atoms) (atom_target p) (atoms-across S F NS NF p g) c.of_atom d.of_atom k.atoms)
        (sum-across F.links S.links (link_target p) (links-across S F NS NF p g) c.of_link d.of_link k.links)

    -- What agrees with colours that are kept is kept.
    pub agree-kept : (c' d' : Colours) → Agree F c c' → Agree S d d' → KeepsColours F p c' d'
    agree-kept c' d' u v = record {
      atoms = λ i r. sym (u.atoms i r) ∙ k.atoms i r ∙ v.atoms (atom_target p i) ((atoms-across S F NS NF p g).within i r);
      links = λ x r. sym (u.links x r) ∙ k.links x r ∙ v.links (link_target p x) ((links-across S F NS NF p g).within x r);
    }
