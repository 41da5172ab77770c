-- Invariant: the links before x are done, the others as they were.
use Rattle.deciding.proofs.FlagLaws.{Opening}
use Rattle.deciding.proofs.opening.open_links.Given as goal

abbrev pub invariant-loop-x : goal.invariant-loop-x
invariant-loop-x l = Opening l.initial.next l.none l.x l.next l.flags
