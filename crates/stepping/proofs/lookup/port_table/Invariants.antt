-- Invariant: the rows so far are flagged.
use Prim.Native.Nat.{◌*◌}
use mathlib.Core.Path.{◌≡◌}
use lib.ListN.{length}
use Rattle.rows.specs.Limits.{sheet_link_limit, context_room}
use Rattle.candidates.specs.PortSets.{set_at}
use Rattle.stepping.specs.Flags.{PortOfRow}
use Rattle.stepping.proofs.Tables.{Marked}
use Rattle.stepping.proofs.lookup.port_table.Given as goal

abbrev pub invariant-loop-d : goal.invariant-loop-d
invariant-loop-d l = (length l.table ≡ context_room * sheet_link_limit) × Marked (λ p. ⊥) (λ i. PortOfRow l.numbers l.count (set_at l.contexts i) l.to l.none) l.d l.table
