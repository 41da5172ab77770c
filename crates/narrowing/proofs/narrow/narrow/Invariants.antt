-- Invariant: a good placing in the first sets is in those left.
use Rattle.narrowing.specs.Steps.{NarrowedBy}
use Rattle.narrowing.proofs.narrow.narrow.Given as goal

abbrev pub invariant-loop : goal.invariant-loop
invariant-loop l = NarrowedBy l.kin l.laid l.n l.parts l.m l.initial.atoms l.initial.links l.atoms l.links
