-- Invariant: what was placed so far leads to the same smallest placing.
use Rattle.matching.specs.Search.{Forward}
use Rattle.matching.proofs.forced.advance.Given as goal

abbrev pub invariant-loop-i : goal.invariant-loop-i
invariant-loop-i l = Forward l.atoms l.n l.m l.k l.initial.chosen l.i l.chosen
