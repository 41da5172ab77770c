-- A component as it is grown, over the tables.
use Rattle.std.specs.Prelude.{ℕ, suc, ◌+◌, ◌*◌, ◌-◌, ◌≤◌, ◌<◌, ◌≡◌, ◌↔◌, ◌≢◌, List, [], ◌∷◌, map, eqb, length, take, get_or, set}
use Rattle.hyperlmntal.specs.Link.{◌∈◌}
use Rattle.rows.specs.Pick.{pick}
use Rattle.rows.specs.Format.{most_links}
use Rattle.rows.specs.Limits.{sheet_atom_limit, sheet_link_limit, context_room}
use Rattle.placing.specs.Net.{Net, Range, Normal}
use Rattle.placing.specs.Placing.{Placing, number_at, cell_at, Across, PortAt}
use Rattle.candidates.specs.Laid.{laid_atom}
use Rattle.completing.specs.Fault.{Used, Other}
use Rattle.completing.specs.Growing.{Part, Serves, Grown}
use Rattle.stepping.specs.Chains.{node_of, NodeOn, Chained, RowIn}

-- how many entries are not 0
unfoldable pub marks : List ℕ → ℕ
marks [] = 0
marks (x ∷ l) = pick (eqb x 0) (marks l) (suc (marks l))

-- Atoms in the order in which they were reached, how many, and for each of them a mark, which is not 0.
pub record Growth : Type 0 where
  pub order : List ℕ
  pub count : ℕ
  pub members : List ℕ

abbrev pub growth : List ℕ → ℕ → List ℕ → Growth
growth order count members = record { order = order; count = count; members = members }

-- There are as many atoms as marks, and they are numbers of sheet atoms, from 0.
pub record Sized (atoms : ℕ) (g : Growth) : Type 0 where
  pub order-room : length g.order ≡ sheet_atom_limit
  pub members-room : length g.members ≡ sheet_atom_limit
  pub counted : g.count ≡ marks g.members
  pub most : g.count ≤ sheet_atom_limit
  pub listed : (h : ℕ) → h < g.count → get_or g.order h 0 < atoms

-- one more atom, with its mark
abbrev pub added : Growth → ℕ → ℕ → Growth
added g i v = record { order = set g.order g.count i; count = g.count + 1; members = set g.members i v }

-- the atoms, counted from 1
abbrev pub atoms_of : Growth → List ℕ
atoms_of g = map suc (take g.count g.order)

pub record Longer (g r : Growth) : Type 0 where
  pub count_kept : g.count ≤ r.count
  pub order-kept : (h : ℕ) → h < g.count → get_or r.order h 0 ≡ get_or g.order h 0

-- what is flagged stays so
abbrev pub Kept : List ℕ → List ℕ → Type 0
Kept flags next = (y : ℕ) → get_or flags y 0 ≡ 1 → get_or next y 0 ≡ 1

-- The figure's atoms are placed across, and no sheet atom has more links than a row.
pub record Around (S F : Net) (q : Placing) (atoms : ℕ) : Type 0 where
  pub sheet-normal : Normal S
  pub normal : Normal F
  pub across : (i : ℕ) → Range (length F.atoms) i → Across S F q i
  pub atom-count : length S.atoms ≡ atoms
  pub narrow : (j : ℕ) → j < atoms → length (cell_at S.atoms (suc j)).1 ≤ most_links

-- Chains lead to the atoms on each link, and 1s say where figure links go, and where contexts have ports.
pub record Tables (S F : Net) (q : Placing) (chains used ports : List ℕ) (atoms contexts : ℕ) : Type 0 where
  pub around : Around S F q atoms
  pub chained : Chained S (node_of atoms 0) chains
  pub used-flag : (y : ℕ) → y < S.links → (get_or used y 0 ≡ 1) ↔ Used S F q (suc y)
  pub port-flag : (c y : ℕ) → c < contexts → y < S.links → (get_or ports (c * sheet_link_limit + y) 0 ≡ 1) ↔ PortAt S F q (cell_at F.contexts (suc c)).0 (suc y)

module _ (S F : Net) (q : Placing) (root : ℕ) where
  -- a connected part, and the links looked at; marks say which atoms are in it, and 1s which links are among these
  pub record Holds (part members flags seen : List ℕ) : Type 0 where
    pub connected : Part S F q root part seen
    pub flagged : (j : ℕ) → get_or members j 0 ≢ 0 → suc j ∈ part
    pub looked : (y : ℕ) → y ∈ seen → number_at flags y ≡ 1
    pub flagged-seen : (y : ℕ) → get_or flags y 0 ≡ 1 → suc y ∈ seen

  -- with the contexts that serve it, those with a 0, and all atoms on the links looked at to which no figure link goes
  pub record Grows (contexts : ℕ) (g : Growth) (flags cuts : List ℕ) : Type 0 where
    pub seen : List ℕ
    pub holds : Holds (atoms_of g) g.members flags seen
    pub serves : (c : ℕ) → c < contexts → (get_or cuts c 0 ≡ 0) ↔ Serves S F q seen (cell_at F.contexts (suc c)).0
    pub all-atoms : (y j : ℕ) → y ∈ seen → ¬ Used S F q y → Range (length S.atoms) j → y ∈ (cell_at S.atoms j).1 → j ∈ atoms_of g

-- the atoms joined of all nodes on link y after v, which is one of them, or 0 after the last
abbrev pub WithAtoms : List ℕ → ℕ → ℕ → ℕ → Growth → Growth → Type 0
WithAtoms chains y atoms v g r =
    (S F : Net) (q : Placing) (root : ℕ) (flags seen : List ℕ) → Around S F q atoms → Chained S (node_of atoms 0) chains → suc y ∈ seen → ¬ Used S F q (suc y)
    → Holds S F q root (atoms_of g) g.members flags seen
    → Holds S F q root (atoms_of r) r.members flags seen × (v ≢ 0 → NodeOn S y v) × ((w : ℕ) → v < w → (o : NodeOn S y w) → suc o.atom ∈ atoms_of r)

-- link y of a member was looked at
abbrev pub WithLink : List ℕ → List ℕ → List ℕ → ℕ → ℕ → ℕ → Growth → List ℕ → List ℕ → Growth → List ℕ → List ℕ → Type 0
WithLink chains used ports y atoms contexts g flags cuts r flags_now cuts_now =
    (S F : Net) (q : Placing) (root j : ℕ) → Tables S F q chains used ports atoms contexts → y < S.links → j ∈ atoms_of g → suc y ∈ (cell_at S.atoms j).1
    → Grows S F q root contexts g flags cuts → Grows S F q root contexts r flags_now cuts_now

-- the links of a member were looked at
pub record WithLinks (chains used ports links : List ℕ) (count atoms contexts : ℕ) (g : Growth) (flags cuts : List ℕ) (r : Growth) (flags_now cuts_now : List ℕ) : Type 0 where
  pub looked : (k : ℕ) → k < count → get_or flags_now (get_or links k 0 - 1) 0 ≡ 1
  pub grows : (S F : Net) (q : Placing) (root j : ℕ) → Tables S F q chains used ports atoms contexts → j ∈ atoms_of g
      → ((k : ℕ) → k < count → Range S.links (get_or links k 0) × (get_or links k 0 ∈ (cell_at S.atoms j).1))
      → Grows S F q root contexts g flags cuts → Grows S F q root contexts r flags_now cuts_now

-- Rooms, and nothing lost.
pub record Enlarged (atoms : ℕ) (g : Growth) (flags : List ℕ) (r : Growth) (flags_now cuts_now : List ℕ) : Type 0 where
  pub sized : Sized atoms r
  pub longer : Longer g r
  pub flags-room : length flags_now ≡ sheet_link_limit
  pub flags-kept : Kept flags flags_now
  pub cuts-room : length cuts_now ≡ context_room

-- grown out
pub record WholeAt (S F : Net) (q : Placing) (root contexts : ℕ) (g : Growth) (flags cuts : List ℕ) : Type 0 where
  pub grows : Grows S F q root contexts g flags cuts
  pub grown : Grown S F q (atoms_of g) grows.seen

-- the rows laid out are the atoms of the net
abbrev pub RowsIn : Net → List ℕ → ℕ → Type 0
RowsIn S laid atoms = (j : ℕ) → j < atoms → RowIn S j (laid_atom laid j).links (laid_atom laid j).count

abbrev pub Whole : List ℕ → ℕ → List ℕ → List ℕ → List ℕ → ℕ → ℕ → Growth → List ℕ → List ℕ → Type 0
Whole laid atoms chains used ports root contexts g flags cuts =
    (S F : Net) (q : Placing) → RowsIn S laid atoms → Tables S F q chains used ports atoms contexts → Other S F q (suc root)
    → WholeAt S F q (suc root) contexts g flags cuts
