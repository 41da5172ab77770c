-- Invariant: the first x links have their next colours, the others those of before.
use Rattle.std.proofs.Common.{◌≡◌, length, get_or}
use Rattle.rows.specs.Limits.{sheet_link_limit}
use Rattle.colours.specs.Mixed.{mixed}
use Rattle.colours.proofs.RoundCode.{Stored}
use Rattle.colours.proofs.round.next_links.Given as goal

abbrev pub invariant-loop-x : goal.invariant-loop-x
invariant-loop-x l = (length l.links ≡ sheet_link_limit) × Stored (λ z. mixed (get_or l.initial.links z 0) (get_or l.around z 0)) l.initial.links l.links l.x
