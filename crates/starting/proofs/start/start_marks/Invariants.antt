-- Invariant: what has a link's marks stays.
use Rattle.rows.specs.declared.Sheet.{Sheet as NormalForm}
use Rattle.candidates.specs.Marks.{MarksIn}
use Rattle.candidates.specs.Tables.{LinksStay}
use Rattle.starting.specs.Steps.{MarksOn}
use Rattle.starting.proofs.start.start_marks.Given as goal

abbrev pub invariant-loop-p : goal.invariant-loop-p
invariant-loop-p l = (sheet figure : NormalForm) → MarksIn sheet l.marks l.marked l.n → MarksIn figure l.figure_marks l.figure_marked l.m → LinksStay l.initial.links l.links (MarksOn sheet figure)
