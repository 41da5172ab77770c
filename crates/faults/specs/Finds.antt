-- What the fault finder says of a state.
use Rattle.std.specs.Prelude.{ℕ, ◌≡◌, List, Result, MatchResult, take}
use Rattle.hyperlmntal.specs.Link.{◌∈◌}
use Rattle.rows.specs.declared.Sheet as form
use Rattle.placing.specs.Placing.{Placing}
use Rattle.network.specs.NetIn.{net_in}
use Rattle.network.specs.Ready.{Ready, LinksIn, TakenIn, state_in, Flag}
use Rattle.candidates.specs.Laid.{LaidOut}
use Rattle.candidates.specs.PortSets.{ContextsIn}
use Rattle.completing.specs.Completion.{Partial}
use Rattle.completing.specs.Fault as faults
use Rattle.stepping.specs.Chains.{ChainsIn}
use Rattle.faults.specs.declared.nets.Nets.{Nets}

-- The counts and contexts are those of this sheet and this figure, and the atoms the sheet's.
pub record NetsIn (sheet figure : form.Sheet) (nets : Nets) (laid : List ℕ) : Type 0 where
  pub ready : Ready sheet figure
  pub laid_out : LaidOut sheet laid nets.atoms
  pub sheet-links : sheet.class_count ≡ nets.links
  pub contexts-in : ContextsIn figure nets.contexts nets.rows nets.count

-- the same, with the chains of the sheet's places on each link, and where the figure links go
pub record Over (sheet figure : form.Sheet) (nets : Nets) (laid chains to : List ℕ) : Type 0 where
  pub nets-in : NetsIn sheet figure nets laid
  pub chains-in : ChainsIn sheet chains
  pub links-in : LinksIn sheet figure to

-- nothing stands in the way, and these are the least contexts
abbrev pub FindsNone : form.Sheet → form.Sheet → Placing → List ℕ → Type 0
FindsNone sheet figure q contexts = faults.NoFault (net_in sheet) (net_in figure) q × faults.LeastGiven (net_in sheet) (net_in figure) q (take sheet.atom_count contexts)

-- there is a fault, and its links are flagged
abbrev pub FindsSome : form.Sheet → form.Sheet → Placing → List ℕ → Type 0
FindsSome sheet figure q links = (v : List ℕ) × faults.Fault (net_in sheet) (net_in figure) q v × ((y : ℕ) → y ∈ v → Flag links y)

abbrev pub Finds : form.Sheet → form.Sheet → Placing → Result (List ℕ) (List ℕ) → Type 0
Finds sheet figure q r = MatchResult r (FindsNone sheet figure q) (FindsSome sheet figure q)

-- that of every state with these arrays
abbrev pub FindsAll : form.Sheet → form.Sheet → List ℕ → List ℕ → Result (List ℕ) (List ℕ) → Type 0
FindsAll sheet figure taken to r =
    (atoms un : List ℕ) → TakenIn sheet figure (state_in figure atoms to) taken → Partial (net_in sheet) (net_in figure) (state_in figure atoms to) un → Finds sheet figure (state_in figure atoms to) r
