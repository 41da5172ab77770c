-- Invariant: what was told stays told.
use Rattle.std.proofs.Common.{◌≡◌, ℕ, suc, List, length}
use Rattle.rows.specs.Limits.{sheet_link_limit}
use Rattle.ways.specs.Nodes.{Tells}
use Rattle.ways.proofs.told.tell_marks.Given as goal

abbrev pub invariant-loop-p : goal.invariant-loop-p
invariant-loop-p l =
    (length l.to ≡ sheet_link_limit) × (length l.flags ≡ sheet_link_limit) × (length l.opens ≡ sheet_link_limit) × ((parts : List ℕ) (m : ℕ) → Tells parts m l.marked l.n l.sets (suc l.links) l.initial.to l.initial.flags l.initial.opens → Tells parts m l.marked l.n l.sets (suc l.links) l.to l.flags l.opens)
