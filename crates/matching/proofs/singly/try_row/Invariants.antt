-- What is good and in the sets stays in them at each turn.
use Rattle.std.proofs.Common.{◌-◌, ◌<◌, IfSome}
use Rattle.candidates.proofs.Walking.{reached}
use Rattle.narrowing.specs.Steps.{Narrowed}
use Rattle.matching.specs.Search.{sheet_of, figure_of}
use Rattle.matching.proofs.singly.try_row.Given as goal

abbrev pub invariant-loop-next : goal.invariant-loop-next
invariant-loop-next l =
    IfSome l.next (λ t. t < l.n) × Narrowed (sheet_of l.state l.laid) (figure_of l.state l.parts) l.initial.atoms l.initial.links l.atoms l.links

abbrev pub decreases-loop-next : goal.decreases-loop-next
decreases-loop-next l = l.n - reached l.n l.next
