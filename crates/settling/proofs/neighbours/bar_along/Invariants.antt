-- The loop's invariant: what is barred so far is so in every completion.
use Prim.Native.Nat.{ℕ, ◌≤◌, ◌<◌}
use mathlib.Core.Path.{◌≡◌}
use mathlib.Core.Logic.{◌≢◌}
use mathlib.Core.List.{List}
use lib.ListN.{length}
use Rattle.rows.specs.Limits.{sheet_link_limit}
use Rattle.rows.specs.declared.Sheet as form
use Rattle.stepping.specs.Chains.{node_of}
use Rattle.settling.specs.Completes.{Tables, KeepsBars}
use Rattle.settling.proofs.neighbours.bar_along.Given as goal

abbrev pub invariant-loop-v : goal.invariant-loop-v
invariant-loop-v l = (l.v < node_of l.nets.atoms 0) × (l.v ≢ 0 → sheet_link_limit ≤ l.v) × ((sheet figure : form.Sheet) (flags : List ℕ) → Tables sheet figure l.nets l.laid l.chains l.kinds l.standing l.to → length flags ≡ sheet_link_limit → KeepsBars sheet figure l.taken l.to flags l.initial.bars l.x l.bars)

abbrev pub decreases-loop-v : goal.decreases-loop-v
decreases-loop-v l = l.v
