-- Figure links that go to one sheet link are kin.
use Prim.Native.Nat.{ℕ}
use mathlib.Core.Path.{◌≡◌, refl, ◌∙◌}
use Rattle.placing.specs.Net.{Net, Range, Normal}
use Rattle.placing.specs.Placing.{Placing, link_target, At, Linked, here, step, Good}
use Rattle.network.specs.Reach.{stay, move}
use Rattle.candidates.specs.Kin.{Kin, RowLabels}
use Rattle.candidates.specs.Sets.{Decided, Obeys}
use Rattle.candidates.proofs.GoodPlaces.{decided-real, decided-link}

module _ (S F : Net) (p : Placing) where
  -- the steps of a good placing, wherever their links go
  linked-kin : {y x x' : ℕ} → Linked S F p y x x' → Kin F x x'
  linked-kin here = stay
  linked-kin (step s l) = move (record { row = s.row; of-figure = s.of-figure; first = s.first; second = s.second }) (linked-kin l)

  pub together-kin : Good S F p → (x x' y : ℕ) → At S F p x y → At S F p x' y → Kin F x x'
  together-kin g x x' y a b = linked-kin (g.linked x x' y a b)

-- kin have one label, so links of different labels are not kin
pub kin-labels : (F : Net) (label : ℕ → ℕ) → RowLabels F label → {x x' : ℕ} → Kin F x x' → label x ≡ label x'
kin-labels F label h stay = refl
kin-labels F label h (move {x} {y} s k) = h s.row s.of-figure x y s.first s.second ∙ kin-labels F label h k

-- Where y is all that x may go to, only links with the label of x may go to y.
module _ (S F : Net) (NS : Normal S) (NF : Normal F) (p : Placing) (g : Good S F p) (A L : ℕ → ℕ → Type 0) (x : ℕ) (d : Decided F x) (label : ℕ → ℕ) (rows : RowLabels F label) where
  pub labels-obeyed : Obeys S F A L p → Obeys S F A (λ z y. L z y × (((v : ℕ) → Range S.links v → L x v → v ≡ y) → label z ≡ label x)) p
  labels-obeyed o = record {
    atoms = o.atoms;
    links = λ z e. (
      o.links z e,
      λ only. kin-labels F label rows (together-kin S F p g z x (link_target p z) (at z e e refl) (at x d e (only (link_target p x) (decided-real S F NS NF p g x d) (o.links x d)))),
    );
  }
    where
      at : (w : ℕ) → Decided F w → {z : ℕ} → Decided F z → link_target p w ≡ link_target p z → At S F p w (link_target p z)
      at w c {z} e q = record { figure-link = decided-link S F NS NF p g w c; sheet-link = decided-real S F NS NF p g z e; there = q }
