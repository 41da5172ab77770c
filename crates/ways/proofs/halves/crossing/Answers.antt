-- A link is listed, or not on both halves, or has no flag.
use Rattle.std.proofs.Common.{◌∙◌, arith}
use Rattle.ways.proofs.Sorting.{crossing-more, crossing-skip}
use Rattle.ways.proofs.halves.crossing.Goals as goal
use Rattle.ways.proofs.halves.crossing.Goals.{then-flags-x-eq1+then-half_of-eq3, then-flags-x-eq1+else-half_of-eq3, else-flags-x-eq1}

pub loop-x-preserved : goal.loop-x-preserved
loop-x-preserved c = let l = c.loop-x in
    let a = c.args in
    let skip = crossing-skip a.standing.now a.flags.now a.side l.x l.n l.invariant.1 in
    elim c.if-flags-x-eq1.branch [
      | then-flags-x-eq1+then-half_of-eq3 w ↦ rw w.n-is (omega arith, crossing-more a.standing.now a.flags.now a.side l.x l.n l.invariant.1)
      | then-flags-x-eq1+else-half_of-eq3 w ↦ rw w.n-is (omega arith, skip (λ f e. w.if-half_of-eq3.false (w.half_of.ensures.0 ∙ e)))
      | else-flags-x-eq1 w ↦ rw w.n-is (omega arith, skip (λ f e. w.if-flags-x-eq1.false f))
    ]
