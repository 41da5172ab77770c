-- Invariant: what has no other marks stays.
use mathlib.Core.Path.{◌≡◌}
use lib.ListN.{get_or}
use Rattle.rows.specs.declared.Sheet.{Sheet as NormalForm}
use Rattle.candidates.specs.Marks.{MarksIn}
use Rattle.candidates.specs.Tables.{LinksStay}
use Rattle.starting.specs.Steps.{MarksBack}
use Rattle.starting.proofs.start.start_closed.Given as goal

abbrev pub invariant-loop-q : goal.invariant-loop-q
invariant-loop-q l = (sheet figure : NormalForm) → MarksIn sheet l.marks l.marked l.n → MarksIn figure l.figure_marks l.figure_marked l.m → LinksStay l.initial.links l.links (λ x y. get_or l.closed x 0 ≡ 1 → MarksBack sheet figure x y)
