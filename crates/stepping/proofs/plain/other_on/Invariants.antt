-- `plain::other_on` meets its contract. The loop's invariant: the atoms of the nodes so far are t. Assumes nothing.
use Prim.Native.Nat.{◌≤◌, ◌<◌}
use mathlib.Core.Path.{◌≡◌}
use mathlib.Core.Logic.{◌≢◌}
use Rattle.rows.specs.Limits.{sheet_link_limit}
use Rattle.rows.specs.declared.Sheet as form
use Rattle.network.specs.NetIn.{net_in, Fit}
use Rattle.stepping.specs.Chains.{node_count, ChainsIn}
use Rattle.stepping.proofs.Walking.{Walk}
use Rattle.stepping.proofs.plain.other_on.Given as goal

abbrev pub invariant-loop-v : goal.invariant-loop-v
invariant-loop-v l = (l.v < node_count) × (l.v ≢ 0 → sheet_link_limit ≤ l.v) × ((sheet : form.Sheet) → Fit sheet → ChainsIn sheet l.chains → Walk (net_in sheet) (λ j. j ≡ l.t) l.y l.v)

abbrev pub decreases-loop-v : goal.decreases-loop-v
decreases-loop-v l = l.v
