-- Invariant: the links that are not left have a flag.
use Rattle.candidates.specs.Words.{pair_size}
use Rattle.deciding.proofs.FlagLaws.{Flagging}
use Rattle.deciding.proofs.kinds.flag_links.Given as goal

abbrev pub invariant-loop-rest : goal.invariant-loop-rest
invariant-loop-rest l = Flagging l.initial.rest l.rest l.flags

abbrev pub decreases-loop-rest : goal.decreases-loop-rest
decreases-loop-rest l = pair_size l.rest
