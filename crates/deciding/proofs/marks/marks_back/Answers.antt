use borrow.Author.Count.{below_more}
use Rattle.deciding.proofs.Sets.{below_or}
use Rattle.deciding.proofs.marks.marks_back.Goals as goal

pub loop-i-preserved : goal.loop-i-preserved
loop-i-preserved c =
    let p = c.place_of-j in
    let h = below_or _ _ p.ensures.within c.if-j-m.false in
    below_more _ _ c.loop-i.invariant (p.result, h, p.ensures.found h)
