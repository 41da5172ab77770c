-- `atoms::cut` meets its contract. The loop's invariant: the words of the nodes so far, which are those on the link, are cut. Assumes nothing.
use Prim.Native.Nat.{ℕ, ◌≤◌, ◌<◌}
use mathlib.Core.Path.{◌≡◌}
use mathlib.Core.Logic.{◌≢◌}
use mathlib.Core.List.{List}
use lib.ListN.{length}
use Rattle.rows.specs.Limits.{sheet_atom_limit, sheet_link_limit}
use Rattle.placing.specs.Net.{Net}
use Rattle.stepping.specs.Chains.{node_count, NodeOn, Chained}
use Rattle.remaining.specs.Allowing.{Allows, AllIn}
use Rattle.remaining.proofs.atoms.cut.Given as goal

abbrev pub invariant-loop-v : goal.invariant-loop-v
invariant-loop-v l = (l.v < node_count) × (l.v ≢ 0 → sheet_link_limit ≤ l.v) × (length l.words ≡ sheet_atom_limit) × ((S : Net) (n : ℕ) → Chained S n l.chains → ((l.v ≢ 0 → (l.v < n) × NodeOn S l.y l.v) × ((taken : List ℕ) (digits : ℕ → ℕ) → AllIn S taken digits l.y l.word → Allows S taken digits l.initial.words → Allows S taken digits l.words)))

abbrev pub decreases-loop-v : goal.decreases-loop-v
decreases-loop-v l = l.v
