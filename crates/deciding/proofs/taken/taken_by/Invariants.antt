-- Invariant: the first i atoms are different, and flagged.
use Rattle.deciding.specs.Flags.{Different}
use Rattle.deciding.proofs.taken.taken_by.Given as goal

abbrev pub invariant-loop-i : goal.invariant-loop-i
invariant-loop-i l = Different l.atoms_to l.i l.flags
