-- A mark is on one link only.
use Rattle.std.proofs.Common.{arith}
use Rattle.starting.proofs.Marking.{mark-found, mark-nowhere}
use Rattle.starting.proofs.profile.link_of.Goals as goal

pub returns-then-marks-p-clause-found : goal.returns-then-marks-p-clause-found
returns-then-marks-p-clause-found c = let a = c.args in λ net o. mark-found net a.marks.now a.marked.now a.n o a.m c.loop-p.p c.loop-p-test.true c.if-marks-p.true

pub returns-clause-found : goal.returns-clause-found
returns-clause-found c = let a = c.args in
    λ net o x i. absurd (mark-nowhere net a.marks.now a.marked.now a.n o a.m (λ p h. c.loop-p.invariant p (omega arith)) x i)
