-- Invariant: none of the first p marks is on a link that may go nowhere.
use Prim.Native.Nat.{◌≤◌}
use Rattle.candidates.specs.Marks.{MarkLost}
use Rattle.candidates.proofs.empty.mark_lost.Given as goal

abbrev pub invariant-loop-p : goal.invariant-loop-p
invariant-loop-p l = (l.p ≤ l.m) × ¬ MarkLost l.marked l.p l.links
