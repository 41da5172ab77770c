-- The contexts given to components.
use Rattle.std.specs.Prelude.{ℕ, suc, ◌<◌, ◌≡◌, ◌↔◌, ◌⊎◌, ◌≢◌, List, Result, MatchResult, length, get_or}
use Rattle.rows.specs.Limits.{sheet_atom_limit}
use Rattle.placing.specs.Net.{Net, Range}
use Rattle.placing.specs.Placing.{Placing, number_at, cell_at, Taken}
use Rattle.candidates.specs.declared.ports.PortSet.{PortSet}
use Rattle.completing.specs.Fault.{Other, LeastContext}
use Rattle.stepping.specs.Contexts.{number_of}
use Rattle.faults.specs.Grows.{Growth, Tables, RowsIn}
use Rattle.faults.specs.Parts.{CutLinks}

-- The contexts given so far, and 1 for the atoms that have one.
pub record Given : Type 0 where
  pub contexts : List ℕ
  pub done : List ℕ

abbrev pub given : List ℕ → List ℕ → Given
given contexts done = record { contexts = contexts; done = done }

-- The first n atoms of a component have the context `number`, the others what they had.
pub record Gave (before : Given) (g : Growth) (number n : ℕ) (r : Given) : Type 0 where
  pub contexts-room : length r.contexts ≡ sheet_atom_limit
  pub done-room : length r.done ≡ sheet_atom_limit
  pub all_done : (h : ℕ) → h < n → get_or r.done (get_or g.order h 0) 0 ≡ 1
  pub each : (j : ℕ) → ((h : ℕ) × (h < n) × (get_or g.order h 0 ≡ j) × (get_or r.contexts j 0 ≡ number))
      ⊎ ((get_or r.contexts j 0 ≡ get_or before.contexts j 0) × (get_or r.done j 0 ≡ get_or before.done j 0))

-- what is known of the contexts given so far
pub record GivenAt (S F : Net) (q : Placing) (r : Given) : Type 0 where
  pub least : (j : ℕ) → get_or r.done j 0 ≡ 1 → Other S F q (suc j) × LeastContext S F q (suc j) (get_or r.contexts j 0)
  pub not_yet : (j : ℕ) → get_or r.done j 0 ≢ 1 → get_or r.contexts j 0 ≡ 0

-- the atoms of one more component have their least context
pub record GivenMore (S F : Net) (q : Placing) (root : ℕ) (before after : Given) : Type 0 where
  pub least : GivenAt S F q before → GivenAt S F q after
  pub done : (j : ℕ) → (get_or before.done j 0 ≡ 1) ⊎ (j ≡ root) → get_or after.done j 0 ≡ 1

-- the same, or it has none and is cut off at links with a flag
abbrev pub OneMoreAt : Net → Net → Placing → ℕ → Given → Given → Result (Unit {0}) (List ℕ) → Type 0
OneMoreAt S F q root before after r = MatchResult r (λ u. GivenMore S F q root before after) (CutLinks S F q)

-- each other atom has its least context, and the taken ones 0
pub record GivenAll (S F : Net) (q : Placing) (contexts : List ℕ) : Type 0 where
  pub room : length contexts ≡ sheet_atom_limit
  pub least : (j : ℕ) → Other S F q j → LeastContext S F q j (number_at contexts j)
  pub not-given : (j : ℕ) → Range (length S.atoms) j → Taken S F q j → number_at contexts j ≡ 0

-- the same, or a component has none and is cut off at links with a flag
abbrev pub GivesAt : Net → Net → Placing → Result (List ℕ) (List ℕ) → Type 0
GivesAt S F q r = MatchResult r (GivenAll S F q) (CutLinks S F q)

-- 1 for each sheet atom, from 0, that figure atoms go to
abbrev pub TakenFlags : Net → Net → Placing → ℕ → List ℕ → Type 0
TakenFlags S F q atoms taken = (j : ℕ) → j < atoms → (get_or taken j 0 ≡ 1) ↔ Taken S F q (suc j)

-- The sheet's links and atoms and the numbers of the figure's contexts are those that the arrays hold.
pub record HeldIn (S F : Net) (laid : List ℕ) (atoms links : ℕ) (number : ℕ → ℕ) (rows : ℕ) : Type 0 where
  pub link-count : S.links ≡ links
  pub atom-rows : RowsIn S laid atoms
  pub choice-count : length F.contexts ≡ rows
  pub choice-number : (c : ℕ) → c < rows → (cell_at F.contexts (suc c)).0 ≡ number c

abbrev pub Gives : List ℕ → ℕ → ℕ → List PortSet → ℕ → List ℕ → List ℕ → List ℕ → List ℕ → Result (List ℕ) (List ℕ) → Type 0
Gives laid atoms links choices rows chains used ports taken r =
    (S F : Net) (q : Placing) → HeldIn S F laid atoms links (number_of choices) rows → Tables S F q chains used ports atoms rows → TakenFlags S F q atoms taken
    → GivesAt S F q r

pub record OneMore (laid : List ℕ) (atoms links : ℕ) (numbers : List ℕ) (rows : ℕ) (chains used ports : List ℕ) (root : ℕ) (before after : Given) (r : Result (Unit {0}) (List ℕ)) : Type 0 where
  pub contexts-room : length after.contexts ≡ sheet_atom_limit
  pub done-room : length after.done ≡ sheet_atom_limit
  pub at : (S F : Net) (q : Placing) → HeldIn S F laid atoms links (λ c. get_or numbers c 0) rows → Tables S F q chains used ports atoms rows
      → Other S F q (suc root) → OneMoreAt S F q root before after r
