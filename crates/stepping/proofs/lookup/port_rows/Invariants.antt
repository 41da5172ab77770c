-- Invariant: the contexts so far are flagged.
use Prim.Native.Nat.{◌*◌}
use mathlib.Core.Path.{◌≡◌}
use lib.ListN.{length, get_or}
use Rattle.rows.specs.Limits.{sheet_link_limit, context_room}
use Rattle.stepping.specs.Flags.{PortFrom}
use Rattle.stepping.proofs.Tables.{Marked}
use Rattle.stepping.proofs.lookup.port_rows.Given as goal

abbrev pub invariant-loop-c : goal.invariant-loop-c
invariant-loop-c l = (length l.table ≡ context_room * sheet_link_limit) × Marked (λ p. get_or l.initial.table p 0 ≡ 1) (PortFrom l.numbers l.row l.to l.none) l.c l.table
