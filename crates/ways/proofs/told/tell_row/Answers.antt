-- One more link of the row is told.
use Rattle.std.proofs.Common.{inl, arith}
use Rattle.ways.proofs.told.tell_row.Goals as goal

pub loop-k-preserved : goal.loop-k-preserved
loop-k-preserved c = let a = c.args in
    let t = c.tell.ensures in
    (t.0, t.1, t.2, λ marked m u. t.3 a.parts.now a.n marked m (inl (a.row, c.loop-k.k, c.requires.1, omega (arith, c.loop-k-test.true, c.width-most.ensures.0), c.link-x.ensures.0)) (c.loop-k.invariant.3 marked m u))
