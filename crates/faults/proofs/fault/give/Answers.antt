use mathlib.Core.Path.{◌≡◌, subst}
use native.Mathlib.Omega.{arith}
use Rattle.faults.specs.Grows.{growth}
use Rattle.faults.specs.Gives.{given, Gave}
use Rattle.faults.proofs.Serving.{gave-next}
use Rattle.faults.proofs.fault.give.Goals as goal

pub loop-h-preserved : goal.loop-h-preserved
loop-h-preserved c = let l = c.loop-h in
    let a = c.args in
    λ members. gave-next (given a.contexts.now a.done.now) (given l.contexts l.done) (growth a.order.now a.count members) a.number l.h (c.requires.3 l.h (omega arith)) (l.invariant members)

pub returns : goal.returns
returns c = let l = c.loop-h in let a = c.args in let e : l.h ≡ a.count = omega arith in λ members. subst (λ n. Gave (given a.contexts.now a.done.now) (growth a.order.now a.count members) a.number n (given l.contexts l.done)) e (l.invariant members)
