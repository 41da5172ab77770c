-- `standing::mark_links` meets its contract. The loop's invariant: the links that are not left have the word. Assumes nothing.
use Rattle.candidates.specs.Words.{pair_size}
use Rattle.stepping.proofs.StandingWords.{Marking}
use Rattle.stepping.proofs.standing.mark_links.Given as goal

abbrev pub invariant-loop-rest : goal.invariant-loop-rest
invariant-loop-rest l = Marking l.initial.words l.initial.rest l.word l.rest l.words

abbrev pub decreases-loop-rest : goal.decreases-loop-rest
decreases-loop-rest l = pair_size l.rest
