-- Invariant: the links that are not left are flagged.
use Prim.Native.Nat.{◌*◌}
use mathlib.Core.Path.{◌≡◌}
use lib.ListN.{length}
use Rattle.rows.specs.Limits.{sheet_link_limit, context_room}
use Rattle.candidates.specs.Words.{pair_size}
use Rattle.stepping.proofs.Ports.{Noted}
use Rattle.stepping.proofs.lookup.port_row.Given as goal

abbrev pub invariant-loop-rest : goal.invariant-loop-rest
invariant-loop-rest l = (length l.table ≡ context_room * sheet_link_limit) × Noted l.to l.none l.initial.rest l.c l.initial.table l.rest l.table

abbrev pub decreases-loop-rest : goal.decreases-loop-rest
decreases-loop-rest l = pair_size l.rest
