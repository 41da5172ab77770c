-- With all figure atoms placed, where can the figure links go that stand on contexts alone?
use Rattle.std.specs.Prelude.{ℕ, suc, ◌-◌, ◌≡◌, List, [], ◌∷◌, eqb, length, set}
use Rattle.hyperlmntal.specs.Link.{◌∈◌}
use Rattle.rows.specs.Pick.{pick}
use Rattle.placing.specs.Net.{NetCell, Net, Range}
use Rattle.placing.specs.Placing.{Placing, cell_at, atom_target, link_target, Across, SameMarks, Good}

-- a figure link on no atom and on no mark
pub record Open (F : Net) (x : ℕ) : Type 0 where
  pub is-link : Range F.links x
  pub no-atom : (i : ℕ) → Range (length F.atoms) i → ¬ (x ∈ (cell_at F.atoms i).1)
  pub no-mark : (m : ℕ) → ¬ ((x, m) ∈ F.marks)

-- The atoms are placed, and the links but for those of `un`, which are open and read as none. What q gives to contexts is not
-- looked at.
pub record Partial (S F : Net) (q : Placing) (un : List ℕ) : Type 0 where
  pub atoms-sent : length q.atoms_to ≡ length F.atoms
  pub to-atoms : (i : ℕ) → Range (length F.atoms) i → Range (length S.atoms) (atom_target q i)
  pub different : (i j : ℕ) → Range (length F.atoms) i → Range (length F.atoms) j → atom_target q i ≡ atom_target q j → i ≡ j
  pub links-sent : length q.links_to ≡ F.links
  pub to-links : (x : ℕ) → Range F.links x → Range (suc S.links) (link_target q x)
  pub across : (i : ℕ) → Range (length F.atoms) i → Across S F q i
  pub same-marks : SameMarks S F q
  pub are-open : (x : ℕ) → x ∈ un → Open F x
  pub read_none : (x : ℕ) → x ∈ un → link_target q x ≡ suc S.links

-- p is good, and agrees with q on the atoms and on the links that are not in `un`
pub record Completion (S F : Net) (q : Placing) (un : List ℕ) (p : Placing) : Type 0 where
  pub good : Good S F p
  pub same-atoms : p.atoms_to ≡ q.atoms_to
  pub settled : (x : ℕ) → Range F.links x → ¬ (x ∈ un) → link_target p x ≡ link_target q x

abbrev pub Completable : Net → Net → Placing → List ℕ → Type 0
Completable S F q un = (p : Placing) × Completion S F q un p

-- figure link x settled at sheet link y
abbrev pub put : Placing → ℕ → ℕ → Placing
put q x y = record { atoms_to = q.atoms_to; links_to = set q.links_to (x - 1) y; given = q.given }

-- a list without x
unfoldable pub remove : ℕ → List ℕ → List ℕ
remove x [] = []
remove x (y ∷ l) = pick (eqb y x) (remove x l) (y ∷ remove x l)

-- two figure links are on the same contexts
abbrev pub SameContexts : Net → ℕ → ℕ → Type 0
SameContexts F x z = (row : NetCell) → row ∈ F.contexts → (x ∈ row.1 → z ∈ row.1) × (z ∈ row.1 → x ∈ row.1)
