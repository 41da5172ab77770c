use mathlib.Core.Path.{◌≡◌, subst}
use native.Mathlib.Omega.{arith}
use Rattle.stepping.proofs.PlainSteps.{Differ, differ-each}
use Rattle.stepping.proofs.plain.one_each.Goals as goal

pub returns : goal.returns
returns c = let l = c.loop-c in
    let e : l.c ≡ c.args.rows = omega arith in
    λ r. differ-each c.numbers-list.result c.args.contexts c.args.rows c.numbers-list.ensures (subst (Differ c.numbers-list.result) e l.invariant)
