-- Invariant: a good placing in the first sets is in those left.
use Rattle.narrowing.specs.Steps.{KinNarrowed}
use Rattle.narrowing.proofs.kin.kin_turns.Given as goal

abbrev pub invariant-loop-x : goal.invariant-loop-x
invariant-loop-x l = KinNarrowed l.owners l.kin l.initial.links l.links
