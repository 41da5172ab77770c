-- A component of the other atoms as a loop grows it: its atoms so far, and the links that were looked at.
use Rattle.std.specs.Prelude.{ℕ, List, length}
use Rattle.hyperlmntal.specs.Link.{◌∈◌}
use Rattle.placing.specs.Net.{Net, Range}
use Rattle.placing.specs.Placing.{Placing, cell_at, PortAt}
use Rattle.network.specs.Reach.{Reach}
use Rattle.completing.specs.Fault.{Used, Other, Through}

module _ (S F : Net) (q : Placing) where
  -- a connected part of the component of an atom
  pub record Part (root : ℕ) (set seen : List ℕ) : Type 0 where
    pub root-other : Other S F q root
    pub root-member : root ∈ set
    pub connected : (j : ℕ) → j ∈ set → Reach (Through S F q set seen) root j
    pub touched : (y : ℕ) → y ∈ seen → (j : ℕ) × (j ∈ set) × (y ∈ (cell_at S.atoms j).1)

  -- context k has a port at every link looked at to which a figure link goes: what the loop keeps for each context
  abbrev pub Serves : List ℕ → ℕ → Type 0
  Serves seen k = (y : ℕ) → y ∈ seen → Used S F q y → PortAt S F q k y

  -- all links of all members were looked at, and all atoms on those to which no figure link goes are members
  pub record Grown (set seen : List ℕ) : Type 0 where
    pub all-links : (j y : ℕ) → j ∈ set → y ∈ (cell_at S.atoms j).1 → y ∈ seen
    pub all-atoms : (y j : ℕ) → y ∈ seen → ¬ Used S F q y → Range (length S.atoms) j → y ∈ (cell_at S.atoms j).1 → j ∈ set
