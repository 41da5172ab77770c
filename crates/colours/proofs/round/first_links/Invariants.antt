-- Invariant: the first p marks are joined.
use Rattle.std.proofs.Common.{◌≡◌, ℕ, suc, ◌<◌, length, get_or, take}
use Rattle.rows.specs.Limits.{sheet_link_limit}
use Rattle.rows.specs.declared.Sheet.{Sheet as NormalForm}
use Rattle.network.specs.NetIn.{net_in}
use Rattle.candidates.specs.Marks.{MarksIn}
use Rattle.colours.specs.Colours.{marks_at}
use Rattle.colours.specs.Mixed.{joined_marks}
use Rattle.colours.proofs.round.first_links.Given as goal

abbrev pub invariant-loop-p : goal.invariant-loop-p
invariant-loop-p l = (length l.links ≡ sheet_link_limit)
    × ((net : NormalForm) → MarksIn net l.marks l.marked l.n → (x : ℕ) → x < sheet_link_limit → get_or l.links x 0 ≡ joined_marks (marks_at (suc x) (take l.p (net_in net).marks)))
