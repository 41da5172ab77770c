-- Invariant: steps so far.
use Rattle.faults.specs.Parts.{Stepped}
use Rattle.faults.proofs.part.with_way.Given as goal

abbrev pub invariant-loop-i : goal.invariant-loop-i
invariant-loop-i l = Stepped l.laid l.atoms l.links l.used l.initial.members l.initial.seen l.members l.seen
