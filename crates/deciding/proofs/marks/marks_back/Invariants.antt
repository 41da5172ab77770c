-- Invariant: the first i marks of the sheet are in the figure.
use Prim.Native.Nat.{ℕ, ◌<◌}
use lib.ListN.{get_or}
use Rattle.deciding.specs.Flags.{Among}
use Rattle.deciding.proofs.marks.marks_back.Given as goal

abbrev pub invariant-loop-i : goal.invariant-loop-i
invariant-loop-i l = (k : ℕ) → k < l.i → Among l.figure_marks l.m (get_or l.marks k 0)
