-- Invariant: the places of the atoms so far are chained.
use mathlib.Core.Path.{◌≡◌}
use lib.ListN.{length}
use Rattle.rows.specs.declared.Sheet.{Sheet as NormalForm}
use Rattle.network.specs.NetIn.{net_in}
use Rattle.candidates.specs.Laid.{LaidOut}
use Rattle.stepping.specs.Chains.{node_of, Chained, node_count}
use Rattle.stepping.proofs.chains.chains.Given as goal

abbrev pub invariant-loop-j : goal.invariant-loop-j
invariant-loop-j l = (length l.table ≡ node_count) × ((sheet : NormalForm) → LaidOut sheet l.laid l.atoms → Chained (net_in sheet) (node_of l.j 0) l.table)
