-- The loops' invariants: the links tried so far will not do, on any sheet and figure of which this is read, and what is barred
-- is so in every completion. The measures are by three times the number of flagged links, without the one that is tried in
-- `tried_at`.
use Prim.Native.Nat.{suc, ◌+◌}
use mathlib.Core.Path.{◌≡◌}
use lib.ListN.{length, get_or, set}
use Rattle.rows.specs.declared.Sheet as form
use Rattle.deciding.specs.Flags.{flagged}
use Rattle.settling.specs.Completes.{Tables, KeepsBars}
use Rattle.settling.proofs.Trying.{Keeps, TriedTo, TriedAt}
use Rattle.settling.proofs.completable.+completable_mendable_tried_at.Given as goal

abbrev pub decreases-completable : goal.decreases-completable
decreases-completable l = let n = length (flagged l.nets.count l.flags.now) in suc (suc (n + n + n))

abbrev pub decreases-mendable : goal.decreases-mendable
decreases-mendable l = let n = length (flagged l.nets.count l.flags.now) in suc (n + n + n)

abbrev pub decreases-tried_at : goal.decreases-tried_at
decreases-tried_at l = let n = length (flagged l.nets.count (set l.flags.now l.x 0)) in suc (suc (suc (n + n + n)))

abbrev pub invariant-completable-loop-x : goal.invariant-completable-loop-x
invariant-completable-loop-x l =
    (sheet figure : form.Sheet) → Tables sheet figure l.nets l.laid l.chains l.kinds l.standing l.to → Keeps sheet figure l.taken l.to l.flags l.bars l.known × TriedTo sheet figure l.taken l.to l.flags l.bars l.links l.x

abbrev pub invariant-mendable-loop-y : goal.invariant-mendable-loop-y
invariant-mendable-loop-y l =
    (sheet figure : form.Sheet) → Tables sheet figure l.nets l.laid l.chains l.kinds l.standing l.to → KeepsBars sheet figure l.taken l.to l.flags l.initial.bars l.x l.bars × TriedAt sheet figure l.taken l.to l.flags l.initial.bars l.x (λ z. get_or l.links z 0 ≡ 1) l.y
