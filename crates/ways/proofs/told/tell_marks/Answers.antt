-- Each marked link is one of the sheet's.
use Rattle.std.proofs.Common.{inr, arith}
use Rattle.ways.proofs.told.tell_marks.Goals as goal

pub loop-p-preserved : goal.loop-p-preserved
loop-p-preserved c = let r = c.requires.0.numbered c.loop-p.p c.loop-p-test.true in
    let e = c.tell.ensures in (
      e.0,
      e.1,
      e.2,
      λ parts m t. e.3 parts m c.args.marked.now c.args.n (inr (c.loop-p.p, c.loop-p-test.true, omega (arith, r.0))) (c.loop-p.invariant.3 parts m t),
    )
