-- Invariant: what was told stays told.
use Rattle.std.proofs.Common.{◌≡◌, ℕ, suc, List, length}
use Rattle.rows.specs.Limits.{sheet_link_limit}
use Rattle.ways.specs.Nodes.{Tells}
use Rattle.ways.proofs.told.tell_row.Given as goal

abbrev pub invariant-loop-k : goal.invariant-loop-k
invariant-loop-k l =
    (length l.to ≡ sheet_link_limit) × (length l.flags ≡ sheet_link_limit) × (length l.opens ≡ sheet_link_limit) × ((marked : List ℕ) (m : ℕ) → Tells l.parts l.n marked m l.sets (suc l.links) l.initial.to l.initial.flags l.initial.opens → Tells l.parts l.n marked m l.sets (suc l.links) l.to l.flags l.opens)
