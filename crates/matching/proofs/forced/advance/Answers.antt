use native.Mathlib.Omega.{arith}
use Rattle.matching.proofs.Forcing.{forward-next}
use Rattle.matching.proofs.forced.advance.Goals as goal

pub overflow_add-chosen : goal.overflow_add-chosen
overflow_add-chosen c = let only = (c.forced.ensures c.in-Some.t).0 c.in-Some.is in omega (arith, only.0, c.requires.2)

pub overflow_cast-chosen : goal.overflow_cast-chosen
overflow_cast-chosen c = let only = (c.forced.ensures c.in-Some.t).0 c.in-Some.is in omega (arith, only.0, c.requires.2)

pub loop-i-preserved : goal.loop-i-preserved
loop-i-preserved c =
    let a = c.args in
    let l = c.loop-i in
    forward-next a.atoms.now a.n a.m a.k a.chosen.now l.i l.chosen l.invariant c.loop-i-test.true c.in-Some.t ((c.forced.ensures c.in-Some.t).0 c.in-Some.is)
