-- Invariant: the first i marks agree, and what stands is told.
use Rattle.deciding.proofs.MarkLaws.{MarksSaid}
use Rattle.deciding.proofs.marks.put_marks.Given as goal

abbrev pub invariant-loop-i : goal.invariant-loop-i
invariant-loop-i l = MarksSaid l.marks l.marked l.n l.figure_marks l.figure_marked l.m l.initial.to l.to l.i
