-- The recursive search: what it gives.
use Rattle.std.specs.Prelude.{ℕ, suc, ◌+◌, ◌-◌, ◌≤◌, ◌≡◌, List, ◌++◌, Bool, true, get_or, take, set}
use Rattle.std.proofs.Math.Option.{Option, none, some}
use Rattle.rows.specs.Pick.{pick}
use Rattle.rows.specs.declared.Sheet as form
use Rattle.placing.specs.Net.{Net}
use Rattle.placing.specs.Placing.{Placing, atom_target, Good}
use Rattle.network.specs.NetIn.{net_in}
use Rattle.network.specs.Begun.{Begun, least_after}
use Rattle.network.specs.Ready.{Ready, AtomsIn}
use Rattle.candidates.specs.Sets.{Obeys, Keeps}
use Rattle.candidates.specs.Kin.{RowLabels}
use Rattle.candidates.specs.Tables.{MayAtom, MayLink}
use Rattle.candidates.specs.Laid.{LaidOut}
use Rattle.candidates.specs.Frames.{whole}
use Rattle.candidates.specs.declared.frame.Frame.{Frame}
use Rattle.narrowing.specs.Steps.{Narrowed}
use Rattle.narrowing.specs.Users.{UsersIn}
use Rattle.ways.specs.Nodes.{NoneStays}
use Rattle.matching.specs.declared.search.Found.{Found}
use Rattle.matching.specs.declared.state.State.{State}

-- what was found behind the beginning of a list
abbrev pub behind : List ℕ → Option (List ℕ) → Option (List ℕ)
behind pre none = none
behind pre (some l) = some (pre ++ l)

-- the smallest good placing that begins so, as one list
abbrev pub search_from : Net → Net → List ℕ → Option (List ℕ)
search_from S F pre = behind pre (least_after S F pre)

-- what a search found, as one list
abbrev pub found_list : form.Sheet → form.Sheet → Found → List ℕ
found_list sheet figure r = take figure.atom_count r.atoms_to ++ (take figure.class_count r.links_to ++ take sheet.atom_count r.given)

abbrev pub found_in : form.Sheet → form.Sheet → Found → Option (List ℕ)
found_in sheet figure r = pick r.ok (some (found_list sheet figure r)) none

-- what a search found, as a placing
abbrev pub placed_in : form.Sheet → form.Sheet → Found → Option Placing
placed_in sheet figure r =
    pick r.ok (some (record { atoms_to = take figure.atom_count r.atoms_to; links_to = take figure.class_count r.links_to; given = take sheet.atom_count r.given })) none

-- every good placing that begins so stays in the sets
abbrev pub KeepsIn : form.Sheet → form.Sheet → (pre atoms links : List ℕ) → Type 0
KeepsIn sheet figure pre atoms links = Keeps (net_in sheet) (net_in figure) pre (MayAtom atoms) (MayLink links)

-- and there is none where that is known
pub record Kept (sheet figure : form.Sheet) (pre atoms links : List ℕ) (lost : Bool) : Type 0 where
  pub keeps : KeepsIn sheet figure pre atoms links
  pub none : lost ≡ true → ¬ Begun (net_in sheet) (net_in figure) pre

-- a good placing in the sets that sends figure atom k to sheet atom t, both counted from 0
pub record GoesTo (sheet figure : form.Sheet) (atoms links : List ℕ) (k t : ℕ) (p : Placing) : Type 0 where
  pub good : Good (net_in sheet) (net_in figure) p
  pub obeys : Obeys (net_in sheet) (net_in figure) (MayAtom atoms) (MayLink links) p
  pub there : atom_target p (suc k) - 1 ≡ t

-- Figure atom k is sent to sheet atom t: what goes there stays in the next sets, and nothing does where that is known.
pub record Sent (sheet figure : form.Sheet) (k t : ℕ) (atoms links left rows : List ℕ) (lost : Bool) : Type 0 where
  pub stays : (p : Placing) → GoesTo sheet figure atoms links k t p → Obeys (net_in sheet) (net_in figure) (MayAtom left) (MayLink rows) p
  pub none : lost ≡ true → (p : Placing) → ¬ GoesTo sheet figure atoms links k t p

-- What is good and in the sets stays in the next ones, and nothing is where that is known.
pub record Pruned (sheet figure : form.Sheet) (atoms links left rows : List ℕ) (lost : Bool) : Type 0 where
  pub stays : Narrowed sheet figure atoms links left rows
  pub none : NoneStays sheet figure atoms links lost

-- the sheet and the figure of a search on its way, with their atoms as they are laid out
abbrev pub sheet_of : State → List ℕ → form.Sheet
sheet_of s laid = whole s.sheet laid

abbrev pub figure_of : State → List ℕ → form.Sheet
figure_of s parts = whole s.figure parts

-- figure atom k goes to sheet atom t
abbrev pub with_atom : Frame → Frame → (placed : List ℕ) → (k t : ℕ) → (lost asks : Bool) → State
with_atom sheet figure placed k t lost asks = record { sheet = sheet; figure = figure; chosen = set placed k (t + 1); placed = k + 1; hopeless = lost; asks = asks }

-- what is lent is that of the sheet and the figure
pub record Lends (sheet figure : Frame) (users owners kin laid parts : List ℕ) : Type 0 where
  pub ready : Ready (whole sheet laid) (whole figure parts)
  pub sheet-laid : LaidOut (whole sheet laid) laid sheet.atom_count
  pub figure-laid : LaidOut (whole figure parts) parts figure.atom_count
  pub users-in : UsersIn laid sheet.atom_count users
  pub owners-in : UsersIn parts figure.atom_count owners
  pub labels : RowLabels (net_in (whole figure parts)) (λ x. get_or kin (x - 1) 0)

-- and the sets keep every good placing that begins so
pub record Stands (s : State) (users owners kin atoms links laid parts : List ℕ) : Type 0 where
  pub lends : Lends s.sheet s.figure users owners kin laid parts
  pub within : s.placed ≤ s.figure.atom_count
  pub atoms-in : AtomsIn (sheet_of s laid) s.placed s.chosen
  pub kept : Kept (sheet_of s laid) (figure_of s parts) (take s.placed s.chosen) atoms links s.hopeless

-- what was found is the smallest good placing that begins so
abbrev pub FoundFrom : State → (laid parts : List ℕ) → Found → Type 0
FoundFrom s laid parts r = found_in (sheet_of s laid) (figure_of s parts) r ≡ search_from (net_in (sheet_of s laid)) (net_in (figure_of s parts)) (take s.placed s.chosen)

-- The first r figure atoms are placed, where k were: the sets are kept, and the smallest good placing is the same.
pub record Onward (sheet figure : form.Sheet) (atoms links : List ℕ) (k : ℕ) (chosen : List ℕ) (r : ℕ) (placed : List ℕ) : Type 0 where
  pub atoms-in : AtomsIn sheet r placed
  pub keeps : KeepsIn sheet figure (take r placed) atoms links
  pub same : search_from (net_in sheet) (net_in figure) (take r placed) ≡ search_from (net_in sheet) (net_in figure) (take k chosen)

-- so for every sheet of n atoms and figure of m whose sets these are
pub record Forward (atoms : List ℕ) (n m k : ℕ) (chosen : List ℕ) (r : ℕ) (placed : List ℕ) : Type 0 where
  pub after : k ≤ r
  pub within : r ≤ m
  pub onward : (sheet figure : form.Sheet) (links : List ℕ) → Ready sheet figure → sheet.atom_count ≡ n → figure.atom_count ≡ m → AtomsIn sheet k chosen → KeepsIn sheet figure (take k chosen) atoms links
      → Onward sheet figure atoms links k chosen r placed
