use mathlib.Core.Path.{◌≡◌}
use mathlib.Core.Logic.{inr}
use Rattle.network.specs.NetIn.{net_in}
use Rattle.stepping.proofs.Walking.{walk_start, walk-next, atom-few, node-touches}
use Rattle.stepping.proofs.plain.other_on.Goals as goal

pub loop-v-init : goal.loop-v-init
loop-v-init c = let a = c.args in
    (c.requires.2.within a.y, c.requires.2.above a.y, λ sheet f k. walk_start sheet f a.chains.now k (λ j. j ≡ a.t) a.y c.requires.0)

pub returns-then-j-t : goal.returns-then-j-t
returns-then-j-t c = let a = c.args in
    let l = c.loop-v in
    let t = c.loop-v-test.true in
    (atom-few l.v (l.invariant.1 t) l.invariant.0, λ sheet f k. inr (node-touches (net_in sheet) a.y l.v ((l.invariant.2 sheet f k).here t)))

pub loop-v-preserved : goal.loop-v-preserved
loop-v-preserved c = let a = c.args in
    let l = c.loop-v in
    (c.requires.2.within l.v, c.requires.2.above l.v, λ sheet f k. walk-next sheet f a.chains.now k (λ j. j ≡ a.t) a.y l.v c.loop-v-test.true (l.invariant.2 sheet f k) c.if-j-t.false)
