-- Invariant: `all` has the words that the set names, but for those of the rest.
use Rattle.narrowing.proofs.Barring.{Joined}
use Rattle.narrowing.proofs.barred.union.Given as goal

abbrev pub invariant-loop-rest : goal.invariant-loop-rest
invariant-loop-rest l = Joined l.users l.at l.n l.s l.all l.rest

abbrev pub decreases-loop-rest : goal.decreases-loop-rest
decreases-loop-rest l = l.rest
