-- What is read where a failure is carried along plain ways.
use Rattle.std.specs.Prelude.{ℕ, List}
use Rattle.rows.specs.declared.Sheet as form
use Rattle.network.specs.NetIn.{net_in}
use Rattle.network.specs.Ready.{state_in}
use Rattle.completing.specs.Neighbours.{OneEach}
use Rattle.stepping.specs.Chains.{ChainsIn}
use Rattle.stepping.specs.Plain.{UsedBy}
use Rattle.faults.specs.declared.nets.Nets.{Nets}
use Rattle.faults.specs.Finds.{NetsIn}
use Rattle.deciding.specs.Kinds.{KindsIn}

-- no two contexts have one number, and 1s say where `to` sends the figure links
pub record Along (sheet figure : form.Sheet) (nets : Nets) (laid chains kinds used to : List ℕ) : Type 0 where
  pub nets-in : NetsIn sheet figure nets laid
  pub chains-in : ChainsIn sheet chains
  pub kinds-in : KindsIn figure kinds
  pub one_each : OneEach (net_in figure)
  pub used-by : (atoms : List ℕ) → UsedBy sheet figure (state_in figure atoms to) used
