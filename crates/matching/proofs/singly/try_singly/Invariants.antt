-- What is good and in the sets stays in them at each turn.
use Rattle.narrowing.specs.Steps.{Narrowed}
use Rattle.matching.specs.Search.{sheet_of, figure_of}
use Rattle.matching.proofs.singly.try_singly.Given as goal

abbrev pub invariant-loop-k : goal.invariant-loop-k
invariant-loop-k l =
    Narrowed (sheet_of l.state l.laid) (figure_of l.state l.parts) l.initial.atoms l.initial.links l.atoms l.links
