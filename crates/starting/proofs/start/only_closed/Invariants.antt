-- Invariant: what is not taken out stays.
use Prim.Native.Nat.{◌+◌, ◌-◌}
use mathlib.Core.Path.{◌≡◌}
use lib.ListN.{get_or}
use Rattle.candidates.specs.Tables.{LinksStay}
use Rattle.starting.proofs.start.only_closed.Given as goal

abbrev pub invariant-loop-z : goal.invariant-loop-z
invariant-loop-z l = LinksStay l.initial.links l.links (λ w v. v ≡ l.y - 1 → get_or l.closed w 0 ≡ 1 → w + 1 ≡ l.x)
