-- A part of a component that no context serves.
use Rattle.std.specs.Prelude.{ℕ, suc, ◌+◌, ◌*◌, ◌<◌, ◌≡◌, ◌↔◌, ◌≢◌, List, length, get_or}
use Rattle.hyperlmntal.specs.Link.{◌∈◌}
use Rattle.rows.specs.Limits.{sheet_atom_limit, sheet_link_limit}
use Rattle.placing.specs.Net.{NetCell, Net, Range}
use Rattle.placing.specs.Placing.{Placing, cell_at}
use Rattle.network.specs.Ready.{Flag}
use Rattle.completing.specs.Fault.{Used, Other, CutOff}
use Rattle.faults.specs.Grows.{Kept, Around, Tables, Holds, RowsIn}

-- some atoms and links are a connected part, and the marks and 1s are theirs
abbrev pub HoldsSome : Net → Net → Placing → ℕ → List ℕ → List ℕ → Type 0
HoldsSome S F q root members flags = (part : List ℕ) × (seen : List ℕ) × Holds S F q root part members flags seen

-- 1s say where figure links go
abbrev pub UsedFlags : Net → Net → Placing → List ℕ → Type 0
UsedFlags S F q used = (y : ℕ) → y < S.links → (get_or used y 0 ≡ 1) ↔ Used S F q (suc y)

-- link z, from 1, is one of the links of atom j, from 0
abbrev pub StandsOn : List ℕ → ℕ → ℕ → ℕ → Type 0
StandsOn laid atoms j z = (S : Net) → RowsIn S laid atoms → z ∈ (cell_at S.atoms (suc j)).1

-- and the atom has a 1
pub record MemberOn (members laid : List ℕ) (atoms links a z : ℕ) : Type 0 where
  pub member : get_or members a 0 ≡ 1
  pub link-in : Range links z
  pub atom-in : a < atoms
  pub stands : StandsOn laid atoms a z

-- atoms joined a connected part, and links were looked at
pub record Stepped (laid : List ℕ) (atoms links : ℕ) (used members flags members_now flags_now : List ℕ) : Type 0 where
  pub members-room : length members_now ≡ sheet_atom_limit
  pub flags-room : length flags_now ≡ sheet_link_limit
  pub kept : Kept flags flags_now
  pub holds : (S F : Net) (q : Placing) (root : ℕ) → S.links ≡ links → RowsIn S laid atoms → Around S F q atoms → UsedFlags S F q used
      → HoldsSome S F q root members flags → HoldsSome S F q root members_now flags_now

-- the context of row c has no port at some link looked at where a figure link goes
abbrev pub Cut : List ℕ → List ℕ → List ℕ → ℕ → ℕ → Type 0
Cut seen used ports links c = (y : ℕ) × (y < links) × (get_or seen y 0 ≡ 1) × (get_or used y 0 ≡ 1) × (get_or ports (c * sheet_link_limit + y) 0 ≢ 1)

-- a set that is cut off, with its links flagged
abbrev pub CutLinks : Net → Net → Placing → List ℕ → Type 0
CutLinks S F q links = (set : List ℕ) × (seen : List ℕ) × CutOff S F q set seen × ((y : ℕ) → y ∈ seen → Flag links y)

-- the rows of contexts by their places
abbrev pub Rows : Net → ℕ → Type 0
Rows F contexts = (row : NetCell) → row ∈ F.contexts → (c : ℕ) × (c < contexts) × ((cell_at F.contexts (suc c)).0 ≡ row.0)

-- where all links of the component are those of a cut, so are these
abbrev pub Cuts : List ℕ → ℕ → ℕ → List ℕ → List ℕ → List ℕ → ℕ → ℕ → List ℕ → List ℕ → Type 0
Cuts laid atoms links chains used ports root contexts all cut =
    (S F : Net) (q : Placing) → S.links ≡ links → RowsIn S laid atoms → Tables S F q chains used ports atoms contexts → Other S F q (suc root) → Rows F contexts
    → CutLinks S F q all → CutLinks S F q cut
