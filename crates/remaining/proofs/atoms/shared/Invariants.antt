-- `atoms::shared` meets its contract. The loop's invariant: what is shared by the nodes so far, which are those on the link. Assumes nothing.
use Prim.Native.Nat.{ℕ, ◌≤◌, ◌<◌}
use mathlib.Core.Logic.{◌≢◌}
use Rattle.rows.specs.Limits.{sheet_link_limit}
use Rattle.placing.specs.Net.{Net}
use Rattle.stepping.specs.Chains.{node_count, NodeOn, Chained}
use Rattle.remaining.specs.Allowing.{SharedAt}
use Rattle.remaining.proofs.atoms.shared.Given as goal

abbrev pub invariant-loop-v : goal.invariant-loop-v
invariant-loop-v l = (l.v < node_count) × (l.v ≢ 0 → sheet_link_limit ≤ l.v) × ((S : Net) (n : ℕ) → Chained S n l.chains → ((l.v ≢ 0 → (l.v < n) × NodeOn S l.y l.v) × SharedAt S l.taken l.words l.table l.y l.word))

abbrev pub decreases-loop-v : goal.decreases-loop-v
decreases-loop-v l = l.v
