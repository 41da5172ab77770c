-- Invariant: the links so far are flagged.
use Rattle.std.proofs.Common.{◌≡◌, ◌*◌, length}
use Rattle.rows.specs.Limits.{sheet_link_limit}
use Rattle.stepping.proofs.Tables.{Marked}
use Rattle.ways.specs.Halves.{SortedTo}
use Rattle.ways.proofs.halves.sorted.Given as goal

abbrev pub invariant-loop-x : goal.invariant-loop-x
invariant-loop-x l = (length l.flags ≡ 4 * sheet_link_limit) × Marked (λ p. ⊥) (SortedTo l.standing l.to l.none l.side) l.x l.flags
