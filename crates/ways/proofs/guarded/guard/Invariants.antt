-- Invariant: the places that the walk has passed are guarded.
use Rattle.std.proofs.Common.{◌≡◌, ◌-◌, ◌<◌, IfSome, length}
use Rattle.rows.specs.Limits.{sheet_atom_limit}
use Rattle.candidates.proofs.Walking.{reached}
use Rattle.ways.specs.Nodes.{StaysGuarded, GuardedTo}
use Rattle.ways.proofs.guarded.guard.Given as goal

abbrev pub invariant-loop-next : goal.invariant-loop-next
invariant-loop-next l =
    record { below : IfSome l.next (λ t. t < l.n); room : length l.taken ≡ sheet_atom_limit; stays : StaysGuarded l.initial.taken l.taken; guarded : GuardedTo l.atoms l.row l.taken (reached l.n l.next) }

abbrev pub decreases-loop-next : goal.decreases-loop-next
decreases-loop-next l = l.n - reached l.n l.next
