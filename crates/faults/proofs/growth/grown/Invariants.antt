-- Invariant: a connected part; the links of its atoms so far were looked at.
use Prim.Native.Nat.{suc, ◌-◌, ◌≤◌}
use mathlib.Core.Path.{◌≡◌}
use lib.ListN.{length}
use Rattle.rows.specs.Limits.{sheet_atom_limit, sheet_link_limit, context_room}
use Rattle.placing.specs.Net.{Net}
use Rattle.placing.specs.Placing.{Placing}
use Rattle.completing.specs.Fault.{Other}
use Rattle.faults.specs.Grows.{growth, Sized, Tables, Grows, RowsIn}
use Rattle.faults.proofs.Whole.{LinksSeen}
use Rattle.faults.proofs.growth.grown.Given as goal

abbrev pub invariant-loop-head : goal.invariant-loop-head
invariant-loop-head l = (l.head ≤ l.count) × Sized l.atoms (growth l.order l.count l.way) × (length l.seen ≡ sheet_link_limit) × (length l.cuts ≡ context_room) × LinksSeen l.laid (growth l.order l.count l.way) l.seen l.head × ((S F : Net) (q : Placing) → RowsIn S l.laid l.atoms → Tables S F q l.chains l.used l.ports l.atoms l.contexts → Other S F q (suc l.root) → Grows S F q (suc l.root) l.contexts (growth l.order l.count l.way) l.seen l.cuts)

abbrev pub decreases-loop-head : goal.decreases-loop-head
decreases-loop-head l = sheet_atom_limit - l.head
