-- What keeps a placing from being good once its atoms are placed across, and which context each other atom can be given to.
use Rattle.std.specs.Prelude.{ℕ, ◌≤◌, ◌≡◌, List, [], ◌∷◌, length}
use Rattle.hyperlmntal.specs.Link.{◌∈◌}
use Rattle.placing.specs.Net.{NetCell, Net, Range}
use Rattle.placing.specs.Placing.{Placing, number_at, cell_at, link_target, Taken, At, Linked, PortAt}
use Rattle.network.specs.Reach.{Reach}

module _ (S F : Net) (q : Placing) where
  -- some figure link goes to y
  abbrev pub Used : ℕ → Type 0
  Used y = (x : ℕ) × Range F.links x × (link_target q x ≡ y)

  -- j is a sheet atom to which no figure atom goes
  abbrev pub Other : ℕ → Type 0
  Other j = Range (length S.atoms) j × (¬ Taken S F q j)

  -- two other atoms on one sheet link to which no figure link goes
  pub record Beside (j j' : ℕ) : Type 0 where
    pub first-other : Other j
    pub second-other : Other j'
    pub link : ℕ
    pub first : link ∈ (cell_at S.atoms j).1
    pub second : link ∈ (cell_at S.atoms j').1
    pub unused : ¬ Used link

  -- in one component of the other atoms
  abbrev pub Joined : ℕ → ℕ → Type 0
  Joined = Reach Beside

  -- two figure links go to y and are not linked there
  pub record TwoApart (y : ℕ) : Type 0 where
    pub one : ℕ
    pub two : ℕ
    pub one_at : At S F q one y
    pub two_at : At S F q two y
    pub not-linked : ¬ Linked S F q y one two

  -- a step to an atom of a set, over a link that was looked at
  pub record Through (set seen : List ℕ) (j j' : ℕ) : Type 0 where
    pub beside : Beside j j'
    pub into : j' ∈ set
    pub over : beside.link ∈ seen

  -- A set of other atoms, connected over links that were looked at and to which no figure link goes; no context has a port at
  -- every link looked at to which a figure link goes.
  pub record CutOff (set seen : List ℕ) : Type 0 where
    pub root : ℕ
    pub root-other : Other root
    pub root-member : root ∈ set
    pub connected : (j : ℕ) → j ∈ set → Reach (Through set seen) root j
    pub touched : (y : ℕ) → y ∈ seen → (j : ℕ) × (j ∈ set) × (y ∈ (cell_at S.atoms j).1)
    pub no-context : (row : NetCell) → row ∈ F.contexts → ¬ ((y : ℕ) → y ∈ seen → Used y → PortAt S F q row.0 y)

  -- a fault, with the sheet links to one of which some unsettled link must go
  pub data Fault : List ℕ → Type 0 where
    apart : (y : ℕ) → TwoApart y → Fault (y ∷ [])
    cut_off : (set seen : List ℕ) → CutOff set seen → Fault seen

  -- k is the number of a context
  abbrev pub Number : ℕ → Type 0
  Number k = (row : NetCell) × (row ∈ F.contexts) × (row.0 ≡ k)

  -- context k has a port at every link of the component of j to which a figure link goes
  abbrev pub Allowed : ℕ → ℕ → Type 0
  Allowed k j = (j' : ℕ) → Range (length S.atoms) j' → Joined j j' → (y : ℕ) → y ∈ (cell_at S.atoms j').1 → Used y → PortAt S F q k y

  -- figure links that go to one sheet link are linked there
  abbrev pub AllLinked : Type 0
  AllLinked = (x x' y : ℕ) → At S F q x y → At S F q x' y → Linked S F q y x x'

  pub record NoFault : Type 0 where
    pub linked : AllLinked
    pub served : (j : ℕ) → Other j → (k : ℕ) × Number k × Allowed k j

  -- k is the least number of a context that is allowed to the component of j
  pub record LeastContext (j k : ℕ) : Type 0 where
    pub number : Number k
    pub allowed : Allowed k j
    pub least : (d : ℕ) → Number d → Allowed d j → k ≤ d

  -- for each sheet atom 0 where a figure atom goes, else the least context allowed to its component
  pub record LeastGiven (g : List ℕ) : Type 0 where
    pub atoms-given : length g ≡ length S.atoms
    pub not-given : (j : ℕ) → Range (length S.atoms) j → Taken S F q j → number_at g j ≡ 0
    pub least-given : (j : ℕ) → Other j → LeastContext j (number_at g j)

-- atoms and links as q has them, unsettled links at none, the other atoms to the contexts g
abbrev pub completed : Placing → List ℕ → Placing
completed q g = record { atoms_to = q.atoms_to; links_to = q.links_to; given = g }
