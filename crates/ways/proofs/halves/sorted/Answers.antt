-- No flag is set.
use Rattle.std.proofs.Common.{◌*◌, replicate, refl}
use Rattle.rows.specs.Limits.{sheet_link_limit}
use Rattle.stepping.proofs.Tables.{marked_start, zeros-not}
use Rattle.ways.specs.Halves.{SortedTo}
use Rattle.ways.proofs.halves.sorted.Goals as goal

pub loop-x-init : goal.loop-x-init
loop-x-init c = let a = c.args in (refl, marked_start (λ p. ⊥) (SortedTo a.standing.now a.to.now a.none a.side) (replicate (4 * sheet_link_limit) 0) (λ p. ((λ q. zeros-not (4 * sheet_link_limit) p q), (λ b. absurd b))))
