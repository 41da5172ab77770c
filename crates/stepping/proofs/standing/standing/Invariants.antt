-- `standing::standing` meets its contract. The loop's invariant: the words have the first c contexts. Assumes nothing.
use Rattle.stepping.specs.Standing.{StandingTo}
use Rattle.stepping.proofs.standing.standing.Given as goal

abbrev pub invariant-loop-c : goal.invariant-loop-c
invariant-loop-c l = StandingTo l.contexts l.c l.words
