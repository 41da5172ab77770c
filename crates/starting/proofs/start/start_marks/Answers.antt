-- One more mark: its link goes where the sheet has it.
use Rattle.std.proofs.Common.{◌≡◌, ◌+◌, ◌-◌, get_or}
use Rattle.candidates.proofs.Staying.{links-then}
use Rattle.starting.specs.Steps.{MarksOn}
use Rattle.starting.proofs.Marking.{mark_on}
use Rattle.starting.proofs.start.start_marks.Goals as goal

pub loop-p-preserved : goal.loop-p-preserved
loop-p-preserved c = let a = c.args in
    let l = c.loop-p in
    let t = c.link_of-y in
    λ sheet figure os of. links-then a.links.now l.links c.only_link.new.links (MarksOn sheet figure) (λ z v. z ≡ get_or a.figure_marked.now l.p 0 - 1 → v + 1 ≡ t.result) (l.invariant sheet figure os of) c.only_link.ensures
    (λ z v h. mark_on sheet figure a.figure_marks.now a.figure_marked.now a.m of l.p t.result c.loop-p-test.true (t.ensures.found sheet os) z v)
