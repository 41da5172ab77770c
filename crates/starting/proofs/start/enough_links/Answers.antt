-- One more link has places enough, or has not.
use Rattle.std.proofs.Common.{ℕ, ◌<◌, List, get_or, arith, below_more}
use Rattle.placing.proofs.FirstLaws.{both_ways}
use Rattle.rows.specs.Limits.{sheet_link_limit}
use Rattle.candidates.specs.Words.{InPair}
use Rattle.candidates.proofs.Halves.{with-kept, with-there}
use Rattle.starting.specs.Steps.{Enough}
use Rattle.starting.proofs.start.enough_links.Goals as goal
use Rattle.starting.proofs.start.enough_links.Goals.{then-enough, else-enough}

pub loop-y-preserved : goal.loop-y-preserved
loop-y-preserved c = let l = c.loop-y in
    let a = c.args in
    let small : l.y < sheet_link_limit = omega (arith, c.loop-y-test.true, c.requires) in
    let P : List ℕ → ℕ → Type 0 = λ r v. Enough a.closed a.wanted (get_or a.counts.now v 0) → InPair r v in
    elim c.if-enough.branch [
      | then-enough w ↦ rw w.pair-is (below_more (P w.with-more.result) l.y (λ v h e. with-kept _ _ small _ w.with-more.ensures v (omega (arith, h, small)) (l.invariant v h e)) (λ e. with-there _ _ small _ w.with-more.ensures))
      | else-enough w ↦ rw w.pair-is (below_more (P l.pair) l.y l.invariant (λ e. absurd (both_ways (c.enough.ensures e) w.if-enough.false)))
    ]
