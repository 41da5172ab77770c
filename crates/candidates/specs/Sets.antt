-- Sets of places: A i t says that figure atom i may go to sheet atom t, L x y that figure link x may go to sheet link y.
-- What the search keeps: no good placing that begins as chosen leaves the sets.
use Rattle.std.specs.Prelude.{ℕ, List, length, get_or}
use Rattle.hyperlmntal.specs.Link.{◌∈◌}
use Rattle.placing.specs.Net.{Net, Range}
use Rattle.placing.specs.Placing.{Placing, cell_at, atom_target, link_target, Good}
use Rattle.network.specs.Begun.{Begins}

-- a link that an atom or a mark decides
pub data Decided (F : Net) (x : ℕ) : Type 0 where
  by-atom : (i : ℕ) → Range (length F.atoms) i → x ∈ (cell_at F.atoms i).1 → Decided F x
  by-mark : (m : ℕ) → (x, m) ∈ F.marks → Decided F x

-- the placing stays in the sets; S, the sheet, is named as in Good
pub record Obeys (S F : Net) (A L : ℕ → ℕ → Type 0) (p : Placing) : Type 0 where
  pub atoms : (i : ℕ) → Range (length F.atoms) i → A i (atom_target p i)
  pub links : (x : ℕ) → Decided F x → L x (link_target p x)

-- every good placing that begins so stays in the sets
abbrev pub Keeps : (S F : Net) → List ℕ → (A L : ℕ → ℕ → Type 0) → Type 0
Keeps S F pre A L = (p : Placing) → Good S F p → Begins pre p → Obeys S F A L p

-- link k, counted from 0, of atom i
abbrev pub link_at : Net → ℕ → ℕ → ℕ
link_at N i k = get_or (cell_at N.atoms i).1 k 0

abbrev pub link_total : Net → ℕ → ℕ
link_total N i = length (cell_at N.atoms i).1
