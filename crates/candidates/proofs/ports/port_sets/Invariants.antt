-- Invariant: the sets of the contexts so far, and none behind them.
use Prim.Native.Nat.{ℕ, ◌≤◌, ◌<◌}
use mathlib.Core.Path.{◌≡◌}
use lib.ListN.{length}
use Rattle.rows.specs.Limits.{context_room}
use Rattle.network.specs.NetIn.{row_at}
use Rattle.candidates.specs.PortSets.{set_at, no_ports, SetOf}
use Rattle.candidates.proofs.ports.port_sets.Given as goal

abbrev pub invariant-loop-c : goal.invariant-loop-c
invariant-loop-c l = (l.c ≤ l.count) × (length l.sets ≡ context_room) × ((i : ℕ) → i < l.c → SetOf (row_at l.contexts i) (set_at l.sets i)) × ((i : ℕ) → l.c ≤ i → i < context_room → set_at l.sets i ≡ no_ports)
