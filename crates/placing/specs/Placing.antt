-- Document 01, 'A placing': a placing of a figure in a sheet, and when it is good.
use Rattle.std.specs.Prelude.{ℕ, suc, ◌-◌, ◌≡◌, ◌⊎◌, ◌≢◌, List, [], map, length, get_or}
use Rattle.hyperlmntal.specs.Link.{◌∈◌}
use Rattle.placing.specs.Net.{NetCell, Net, Range}

-- A placing (a match of the figure in the sheet). Between placings, document 01's order is that of the three lists one after
-- the other, number by number.
pub record Placing : Type 0 where
  -- for each figure atom in order, the number of the sheet atom that it goes to, counted from 1
  pub atoms_to : List ℕ
  -- for each figure link in order, the sheet link that it goes to; one more than the sheet has links stands for none, so none is last
  pub links_to : List ℕ
  -- for each sheet atom in order, the number of the context that it is given to, and 0 where a figure atom goes.
  -- Document 01 lists the other atoms alone; between placings whose atoms go alike the zeros stand at the same places,
  -- so the order is the same.
  pub given : List ℕ

-- what stands at a place counted from 1
abbrev pub number_at : List ℕ → ℕ → ℕ
number_at l i = get_or l (i - 1) 0

abbrev pub cell_at : List NetCell → ℕ → NetCell
cell_at l i = get_or l (i - 1) (0, [])

-- the sheet atom that figure atom i goes to
abbrev pub atom_target : Placing → ℕ → ℕ
atom_target p i = number_at p.atoms_to i

-- where figure link x goes
abbrev pub link_target : Placing → ℕ → ℕ
link_target p x = number_at p.links_to x

-- the context that sheet atom j is given to
abbrev pub given_to : Placing → ℕ → ℕ
given_to p j = number_at p.given j

module _ (S F : Net) (p : Placing) where
  -- a figure atom goes to sheet atom j
  pub record Taken (j : ℕ) : Type 0 where
    pub by : ℕ
    pub of-figure : Range (length F.atoms) by
    pub there : atom_target p by ≡ j

  -- figure link x goes to sheet link y, and not to none
  pub record At (x y : ℕ) : Type 0 where
    pub figure-link : Range F.links x
    pub sheet-link : Range S.links y
    pub there : link_target p x ≡ y

  -- one step: between two links of one B row, both going to y
  pub record Step (y x x' : ℕ) : Type 0 where
    pub row : NetCell
    pub of-figure : row ∈ F.contexts
    pub first : x ∈ row.1
    pub second : x' ∈ row.1
    pub first-at : At x y
    pub second_at : At x' y

  -- linked by steps
  pub data Linked (y : ℕ) : ℕ → ℕ → Type 0 where
    here : {x : ℕ} → Linked y x x
    step : {x x' x'' : ℕ} → Step y x x' → Linked y x' x'' → Linked y x x''

  -- 'a placing sends each figure symbol to a different sheet symbol, each figure joint to a sheet joint or to none, and each
  -- other sheet symbol to a blank of the figure'
  pub record Sending : Type 0 where
    pub atoms-sent : length p.atoms_to ≡ length F.atoms
    pub to-atoms : (i : ℕ) → Range (length F.atoms) i → Range (length S.atoms) (atom_target p i)
    pub different : (i j : ℕ) → Range (length F.atoms) i → Range (length F.atoms) j → atom_target p i ≡ atom_target p j → i ≡ j
    pub links-sent : length p.links_to ≡ F.links
    pub to-links : (x : ℕ) → Range F.links x → Range (suc S.links) (link_target p x)
    pub atoms-given : length p.given ≡ length S.atoms
    pub not-given : (j : ℕ) → Range (length S.atoms) j → Taken j → given_to p j ≡ 0
    pub to-contexts : (j : ℕ) → Range (length S.atoms) j → ¬ Taken j → (row : NetCell) × (row ∈ F.contexts) × (row.0 ≡ given_to p j)

  -- figure atom i and the sheet atom that it goes to
  pub record Across (i : ℕ) : Type 0 where
    pub name : (cell_at F.atoms i).0 ≡ (cell_at S.atoms (atom_target p i)).0
    pub places : map (link_target p) (cell_at F.atoms i).1 ≡ (cell_at S.atoms (atom_target p i)).1

  pub record SameMarks : Type 0 where
    pub onward : (x m : ℕ) → (x, m) ∈ F.marks → (link_target p x, m) ∈ S.marks
    pub backward : (y m : ℕ) → (y, m) ∈ S.marks → (x : ℕ) × ((x, m) ∈ F.marks)

  -- y is where one of the links of context k goes
  pub record PortAt (k y : ℕ) : Type 0 where
    pub row : NetCell
    pub of-figure : row ∈ F.contexts
    pub number : row.0 ≡ k
    pub link : ℕ
    pub port : link ∈ row.1
    pub there : link_target p link ≡ y

  -- no figure link goes to y, it has no mark, and it touches only atoms of context k
  pub record Inside (k y : ℕ) : Type 0 where
    pub no-figure-link : (x : ℕ) → Range F.links x → link_target p x ≢ y
    pub no-mark : (m : ℕ) → ¬ ((y, m) ∈ S.marks)
    pub only-there : (j : ℕ) → Range (length S.atoms) j → y ∈ (cell_at S.atoms j).1 → (¬ Taken j) × (given_to p j ≡ k)

  -- a good placing
  pub record Good : Type 0 where
    pub sending : Sending
    -- 'names and joint counts agree, and the joints go across place by place'
    pub across : (i : ℕ) → Range (length F.atoms) i → Across i
    -- 'both carry the same marks, and a marked joint goes to the sheet joint with that mark'
    pub same-marks : SameMarks
    -- 'two figure joints that go to one sheet joint are linked by steps, each between two joints of one B row, all going there'
    pub linked : (x x' y : ℕ) → At x y → At x' y → Linked y x x'
    -- 'a joint of a symbol given to a blank either is where one of that blank's joints goes, or no figure joint goes there,
    -- it has no mark, and it touches only symbols of that blank'
    pub own-links : (j : ℕ) → Range (length S.atoms) j → ¬ Taken j
        → (y : ℕ) → y ∈ (cell_at S.atoms j).1 → PortAt (given_to p j) y ⊎ Inside (given_to p j) y
