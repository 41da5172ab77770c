-- Invariant: what the first t atoms add is added.
use Rattle.std.proofs.Common.{◌≡◌, ℕ, ◌%◌, ◌<◌, length, get_or}
use Rattle.rows.specs.Limits.{sheet_link_limit}
use Rattle.rows.specs.declared.Sheet.{Sheet as NormalForm}
use Rattle.network.specs.NetIn.{net_in}
use Rattle.network.specs.Sums.{sum_to}
use Rattle.candidates.specs.Laid.{LaidOut}
use Rattle.colours.specs.Mixed.{word_size}
use Rattle.colours.proofs.RoundCode.{added}
use Rattle.colours.proofs.round.add_all.Given as goal

abbrev pub invariant-loop-t : goal.invariant-loop-t
invariant-loop-t l = (length l.around ≡ sheet_link_limit)
    × ((net : NormalForm) → LaidOut net l.laid l.n → (x : ℕ) → x < sheet_link_limit → get_or l.around x 0 ≡ sum_to (added (net_in net) l.atoms x) l.t % word_size)
