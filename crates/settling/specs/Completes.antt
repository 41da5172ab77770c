-- Whether a state can be completed, and its least completion.
use Rattle.std.specs.Prelude.{ℕ, suc, ◌≤◌, ◌<◌, ◌≡◌, ◌⊎◌, List, [], Bool, Option, MatchOption, true, false, take, get_or}
use Rattle.hyperlmntal.specs.Link.{◌∈◌}
use Rattle.rows.specs.declared.Sheet as form
use Rattle.placing.specs.Net.{Range}
use Rattle.network.specs.NetIn.{net_in}
use Rattle.network.specs.Ready.{LinksIn, state_in, TakenIn}
use Rattle.candidates.specs.Tables.{MayLink}
use Rattle.completing.specs.Completion.{Partial, Completable, put, remove}
use Rattle.completing.specs.Fault.{completed}
use Rattle.completing.specs.Known.{Bars}
use Rattle.completing.specs.Leaf.{LeastCompletion, Settling}
use Rattle.completing.specs.OneRow.{OneRow}
use Rattle.stepping.specs.Standing.{Standing}
use Rattle.faults.specs.declared.nets.Nets.{Nets}
use Rattle.faults.specs.Finds.{Over}
use Rattle.deciding.specs.Flags.{flagged}
use Rattle.deciding.specs.Kinds.{KindsIn}
use Rattle.settling.specs.declared.complete.Completed.{Completed}

-- what every function of the search over open links reads of this sheet and this figure
pub record Tables (sheet figure : form.Sheet) (nets : Nets) (laid chains kinds standing to : List ℕ) : Type 0 where
  pub over : Over sheet figure nets laid chains to
  pub kinds-in : KindsIn figure kinds
  pub standing-in : Standing figure standing

-- the links that have a flag
abbrev pub unsettled : form.Sheet → List ℕ → List ℕ
unsettled figure flags = flagged figure.class_count flags

-- the atoms are placed and taken, and the links but for those of `un`
pub record Placed (sheet figure : form.Sheet) (taken to atoms un : List ℕ) : Type 0 where
  pub taken_in : TakenIn sheet figure (state_in figure atoms to) taken
  pub partial : Partial (net_in sheet) (net_in figure) (state_in figure atoms to) un

-- the links with a flag are unsettled, and each other unsettled link stands on one context row
pub record Several (figure : form.Sheet) (flags un : List ℕ) : Type 0 where
  pub flag-in : (x : ℕ) → x < figure.class_count → get_or flags x 0 ≡ 1 → suc x ∈ un
  pub others : (x : ℕ) → suc x ∈ un → (get_or flags x 0 ≡ 1) ⊎ OneRow (net_in figure) (suc x)

pub record Working (sheet figure : form.Sheet) (taken to flags atoms un : List ℕ) : Type 0 where
  pub placed : Placed sheet figure taken to atoms un
  pub several : Several figure flags un

abbrev pub CompletableIn : form.Sheet → form.Sheet → List ℕ → List ℕ → List ℕ → Type 0
CompletableIn sheet figure to un atoms = Completable (net_in sheet) (net_in figure) (state_in figure atoms to) un

-- link x, from 0, settled at y
abbrev pub CompletableAt : form.Sheet → form.Sheet → List ℕ → List ℕ → ℕ → ℕ → List ℕ → Type 0
CompletableAt sheet figure to un x y atoms = Completable (net_in sheet) (net_in figure) (put (state_in figure atoms to) (suc x) y) (remove (suc x) un)

-- what the table says is barred: sheet link y to figure link x, both from 1
abbrev pub BarredBy : form.Sheet → List ℕ → ℕ → ℕ → Type 0
BarredBy sheet bars x y = Range sheet.class_count y × MayLink bars x y

abbrev pub BarsIn : form.Sheet → form.Sheet → List ℕ → List ℕ → List ℕ → List ℕ → Type 0
BarsIn sheet figure to un atoms bars = Bars (net_in sheet) (net_in figure) (state_in figure atoms to) un (BarredBy sheet bars)

-- a link with a flag can be settled at one of the links that are flagged in `links`, both from 0
pub record WayOut (sheet figure : form.Sheet) (to flags un links atoms : List ℕ) : Type 0 where
  pub link : ℕ
  pub link-in : link < figure.class_count
  pub flag : get_or flags link 0 ≡ 1
  pub at : ℕ
  pub at_in : at < sheet.class_count
  pub at_flag : get_or links at 0 ≡ 1
  pub completes : CompletableAt sheet figure to un link (suc at) atoms

module _ (sheet figure : form.Sheet) (taken to flags : List ℕ) where
  -- nothing stands in the way
  abbrev pub Unhindered : Type 0
  Unhindered = (atoms un : List ℕ) → Working sheet figure taken to flags atoms un → CompletableIn sheet figure to un atoms

  -- something does, and only the links that are flagged in `links` can mend it
  abbrev pub HinderedAt : List ℕ → Type 0
  HinderedAt links = (atoms un : List ℕ) → Working sheet figure taken to flags atoms un → CompletableIn sheet figure to un atoms → WayOut sheet figure to flags un links atoms

  -- r says which of the two it is
  abbrev pub Hinders : Option (List ℕ) → Type 0
  Hinders r = MatchOption r Unhindered HinderedAt

  module _ (bars : List ℕ) where
    pub record Completes (r : Bool) : Type 0 where
      pub can : (atoms un : List ℕ) → Working sheet figure taken to flags atoms un → r ≡ true → CompletableIn sheet figure to un atoms
      pub cannot : (atoms un : List ℕ) → Working sheet figure taken to flags atoms un → BarsIn sheet figure to un atoms bars → r ≡ false → ¬ CompletableIn sheet figure to un atoms

    -- what is barred once link x, from 0, was tried
    abbrev pub KeepsBars : ℕ → List ℕ → Type 0
    KeepsBars x after = (atoms un : List ℕ) → Working sheet figure taken to flags atoms un → suc x ∈ un → BarsIn sheet figure to un atoms bars → BarsIn sheet figure to un atoms after

    -- link x, from 0, at y, from 0
    pub record CompletesAt (x y : ℕ) (r : Bool) : Type 0 where
      pub can : (atoms un : List ℕ) → Working sheet figure taken to flags atoms un → suc x ∈ un → r ≡ true → CompletableAt sheet figure to un x (suc y) atoms
      pub cannot : (atoms un : List ℕ) → Working sheet figure taken to flags atoms un → BarsIn sheet figure to un atoms bars → suc x ∈ un → r ≡ false → ¬ CompletableAt sheet figure to un x (suc y) atoms

    -- link x, from 0, at one of the links that are flagged in `links`
    pub record Mends (links : List ℕ) (x : ℕ) (r : Bool) : Type 0 where
      pub can : (atoms un : List ℕ) → Working sheet figure taken to flags atoms un → suc x ∈ un → r ≡ true → CompletableIn sheet figure to un atoms
      pub cannot : (atoms un : List ℕ) → Working sheet figure taken to flags atoms un → BarsIn sheet figure to un atoms bars → suc x ∈ un → r ≡ false
          → (y : ℕ) → y < sheet.class_count → get_or links y 0 ≡ 1 → ¬ CompletableAt sheet figure to un x (suc y) atoms

    -- r is the first link for x, from 0, that can be completed, or none
    pub record FirstFor (x r : ℕ) : Type 0 where
      pub within : Range (suc sheet.class_count) r
      pub refused : (atoms un : List ℕ) → Working sheet figure taken to flags atoms un → BarsIn sheet figure to un atoms bars → suc x ∈ un → (y : ℕ) → suc y < r → ¬ CompletableAt sheet figure to un x (suc y) atoms
      pub found : (atoms un : List ℕ) → Working sheet figure taken to flags atoms un → suc x ∈ un → r ≤ sheet.class_count → CompletableAt sheet figure to un x r atoms

-- all links are settled; `opened` has a flag for each that was not, `flags` for those on several rows
pub record Settles (sheet figure : form.Sheet) (taken to opened flags r : List ℕ) : Type 0 where
  pub links-in : LinksIn sheet figure r
  pub settling : (atoms : List ℕ) → Working sheet figure taken to flags atoms (unsettled figure opened) → CompletableIn sheet figure to (unsettled figure opened) atoms
      → Settling (net_in sheet) (net_in figure) (state_in figure atoms to) (unsettled figure opened) (state_in figure atoms r) []

-- r is the least completion, or none where there is no completion
abbrev pub LeastIn : form.Sheet → form.Sheet → List ℕ → List ℕ → List ℕ → Option Completed → Type 0
LeastIn sheet figure taken to flags r = (atoms : List ℕ) → Placed sheet figure taken to atoms (unsettled figure flags)
    → MatchOption r (¬ CompletableIn sheet figure to (unsettled figure flags) atoms)
    (λ d. LeastCompletion (net_in sheet) (net_in figure) (state_in figure atoms to) (unsettled figure flags) (completed (state_in figure atoms d.links_to) (take sheet.atom_count d.given)))
