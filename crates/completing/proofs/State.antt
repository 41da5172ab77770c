-- What atoms say of the links: a figure link on an atom or on a mark goes to one sheet link in every good placing with these atoms.
use Prim.Native.Nat.{ℕ, suc, ◌<◌}
use mathlib.Core.Path.{◌≡◌, refl, sym, ◌∙◌, ap, subst}
use mathlib.Core.List.Memᴰ
use mathlib.Core.List.{List}
use native.Mathlib.Decide.{ℕ_discrete}
use native.Mathlib.Omega.{arith}
use lib.ListN.{length, get_or}
use Rattle.hyperlmntal.specs.Link.{◌∈◌}
use Rattle.hyperlmntal.proofs.TellApart.{some-dec}
use Rattle.placing.specs.Net.{Net, Range, Normal}
use Rattle.placing.specs.Placing.{Placing, number_at, cell_at, atom_target, link_target, Across, SameMarks, Good}
use Rattle.placing.proofs.Standing.{mark-link, place-link}
use Rattle.completing.specs.Completion.{Partial, Completion}
use Rattle.completing.specs.Leaf.{OpenLinks, StateOf}
use Rattle.rows.proofs.Lists.{get_d-mapped}
use Rattle.completing.proofs.Decide.{member-dec, dec-some-to}

module _ (S F : Net) (l : List ℕ) (p : Placing) (g : Good S F p) (e : p.atoms_to ≡ l) where
  same-atom : (i : ℕ) → atom_target p i ≡ number_at l i
  same-atom i = ap (λ (k : List ℕ). number_at k i) e

  -- place k of figure atom i goes to place k of the sheet atom
  pub by-atom : (i k : ℕ) → Range (length F.atoms) i → k < length (cell_at F.atoms i).1
      → link_target p (get_or (cell_at F.atoms i).1 k 0) ≡ get_or (cell_at S.atoms (number_at l i)).1 k 0
  by-atom i k r h = sym (get_d-mapped (link_target p) (cell_at F.atoms i).1 k 0 0 h)
      ∙ (ap (λ (z : List ℕ). get_or z k 0) (g.across i r).places ∙ ap (λ (j : ℕ). get_or (cell_at S.atoms j).1 k 0) (same-atom i))

  -- the figure link of a mark goes to the sheet link of that mark
  pub by-mark : Normal S → (x y m : ℕ) → (x, m) ∈ F.marks → (y, m) ∈ S.marks → link_target p x ≡ y
  by-mark NS x y m h k = NS.one_link (link_target p x) y m (g.same-marks.onward x m h) k

  module _ (NF : Normal F) (q : Placing) (un : List ℕ) (s : StateOf S F l q) (o : OpenLinks F un) where
    -- A good placing with these atoms completes the state.
    pub good-completion : Completion S F q un p
    good-completion = record { good = g; same-atoms = e ∙ sym s.atoms; settled = λ x r n. s.decided x r (λ w. n (o.all-open x w)) p g e }

-- A state is partial where its atoms are different and go across with the marks.
module _ (S F : Net) (NS : Normal S) (NF : Normal F) (l : List ℕ) (q : Placing) (un : List ℕ) (s : StateOf S F l q) (o : OpenLinks F un) where
  OnAtom : ℕ → Type 0
  OnAtom x = (i : ℕ) × Range (length F.atoms) i × (x ∈ (cell_at F.atoms i).1)

  OnMark : ℕ → Type 0
  OnMark x = (e : ℕ × ℕ) × (e ∈ F.marks) × (e.0 ≡ x)

  pub state-partial : length l ≡ length F.atoms → ((i : ℕ) → Range (length F.atoms) i → Range (length S.atoms) (number_at l i))
      → ((i j : ℕ) → Range (length F.atoms) i → Range (length F.atoms) j → number_at l i ≡ number_at l j → i ≡ j)
      → ((i : ℕ) → Range (length F.atoms) i → Across S F q i) → SameMarks S F q → Partial S F q un
  unfolding OnAtom OnMark
  state-partial size in-sheet different across marks = record {
    atoms-sent = ap length s.atoms ∙ size;
    to-atoms = to-atoms;
    different = λ i j r r' e. different i j r r' (sym (at i) ∙ (e ∙ at j));
    links-sent = s.links-sent;
    to-links = λ x r. real x r (member-dec x un);
    across = across;
    same-marks = marks;
    are-open = o.are-open;
    read_none = λ x m. s.open_none x (o.are-open x m);
  }
    where
      at : (i : ℕ) → atom_target q i ≡ number_at l i
      at i = ap (λ (k : List ℕ). number_at k i) s.atoms

      to-atoms : (i : ℕ) → Range (length F.atoms) i → Range (length S.atoms) (atom_target q i)
      to-atoms i r = subst (Range (length S.atoms)) (sym (at i)) (in-sheet i r)

      wide : (y : ℕ) → Range S.links y → Range (suc S.links) y
      wide y r = (r.0, omega (arith, r.1))

      placed : (x : ℕ) → Range F.links x → ¬ (x ∈ un) → Dec (OnAtom x) → Dec (OnMark x) → Range (suc S.links) (link_target q x)
      placed x r n (yes (i, k, m)) d = wide (link_target q x) (place-link S NS (atom_target q i) (link_target q x) (to-atoms i k)
          (subst (λ (z : List ℕ). link_target q x ∈ z) (across i k).places (Memᴰ.map (link_target q) m)))
      placed x r n (no a) (yes (e, m, f)) = subst (λ (z : ℕ). Range (suc S.links) (link_target q z)) f
          (wide (link_target q e.0) (mark-link S NS (link_target q e.0) e.1 (marks.onward e.0 e.1 m)))
      placed x r n (no a) (no b) = absurd (n (o.all-open x
          (record { is-link = r; no-atom = λ i k m. a (i, k, m); no-mark = λ m h. b ((x, m), h, refl) })))

      real : (x : ℕ) → Range F.links x → Dec (x ∈ un) → Range (suc S.links) (link_target q x)
      real x r (yes m) = subst (Range (suc S.links)) (sym (s.open_none x (o.are-open x m))) (omega arith, omega arith)
      real x r (no n) = placed x r n (dec-some-to (λ i. x ∈ (cell_at F.atoms i).1) (λ i. member-dec x (cell_at F.atoms i).1) (length F.atoms))
          (some-dec (λ (e : ℕ × ℕ). e.0 ≡ x) (λ e. ℕ_discrete e.0 x) F.marks)
