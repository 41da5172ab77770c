-- One more mark: a closed link with other marks does not go to its link.
use Rattle.std.proofs.Common.{◌≡◌, ◌+◌, ◌-◌, get_or}
use Rattle.candidates.proofs.Staying.{links-then}
use Rattle.starting.specs.Steps.{MarksBack}
use Rattle.starting.proofs.Marking.{mark-back}
use Rattle.starting.proofs.start.start_closed.Goals as goal

pub loop-q-preserved : goal.loop-q-preserved
loop-q-preserved c = let a = c.args in
    let l = c.loop-q in
    let t = c.link_of-x in
    λ sheet figure os of. links-then a.links.now l.links c.only_closed.new.links (λ x y. get_or a.closed.now x 0 ≡ 1 → MarksBack sheet figure x y) (λ z v. v ≡ get_or a.marked.now l.q 0 - 1 → get_or a.closed.now z 0 ≡ 1 → z + 1 ≡ t.result) (l.invariant sheet figure os of) c.only_closed.ensures
    (λ z v h f e k. mark-back sheet figure a.marks.now a.marked.now a.n os l.q t.result c.loop-q-test.true (t.ensures.found figure of) z v (f k) e)
