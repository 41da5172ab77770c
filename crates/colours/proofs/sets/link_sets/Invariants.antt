-- Invariant: the sets of the first x figure links have what is of their colours.
use Rattle.std.proofs.Common.{◌≡◌, ℕ, ◌*◌, ◌<◌, length, get_or}
use Rattle.rows.specs.Limits.{sheet_link_limit}
use Rattle.candidates.specs.Tables.{LinkIn}
use Rattle.colours.proofs.sets.link_sets.Given as goal

abbrev pub invariant-loop-x : goal.invariant-loop-x
invariant-loop-x l = (length l.links ≡ sheet_link_limit * 2) × ((z y : ℕ) → z < l.x → y < l.n → get_or l.figure z 0 ≡ get_or l.sheet y 0 → LinkIn l.links z y)
