use native.Mathlib.Omega.{arith}
use Rattle.rowwise.proofs.SameNets.{all_same, counts-differ, number-differs}
use Rattle.rowwise.proofs.identical.same_marks.Goals as goal

pub returns-then-m-n : goal.returns-then-m-n
returns-then-m-n c =
    let a = c.args in
    counts-differ a.a.now a.b.now a.m a.n (omega arith) (omega arith) c.if-m-n.true

pub returns-then-a-k : goal.returns-then-a-k
returns-then-a-k c =
    let a = c.args in
    number-differs a.a.now a.b.now a.m a.n (omega arith) (omega arith) c.if-m-n.false c.loop-k.k c.loop-k-test.true c.if-a-k.true

pub returns : goal.returns
returns c =
    let a = c.args in
    all_same a.a.now a.b.now a.m a.n (omega arith) (omega arith) c.if-m-n.false
    (λ k h. c.loop-k.invariant k (omega (arith, h, c.loop-k-test.false)))
