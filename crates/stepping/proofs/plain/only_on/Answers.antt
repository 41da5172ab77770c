use mathlib.Core.Path.{◌≡◌}
use mathlib.Core.Logic.{◌⊎◌, inl, inr}
use native.Mathlib.Omega.{arith}
use Rattle.stepping.proofs.Walking.{walk_start, walk-next, walk_end, atom_of}
use Rattle.stepping.proofs.plain.only_on.Goals as goal
use Rattle.stepping.proofs.plain.only_on.Goals.{then-j-t+else-j-u, else-j-t}

pub loop-v-init : goal.loop-v-init
loop-v-init c = let a = c.args in
    (c.requires.1.within a.y, c.requires.1.above a.y, λ sheet f k. walk_start sheet f a.chains.now k (λ j. (j ≡ a.t) ⊎ (j ≡ a.u)) a.y c.requires.0)

pub loop-v-preserved : goal.loop-v-preserved
loop-v-preserved c = let a = c.args in
    let l = c.loop-v in
    let t = c.loop-v-test.true in
    let w : (atom_of l.v ≡ a.t) ⊎ (atom_of l.v ≡ a.u) = elim c.if-j-t.branch [ then-j-t+else-j-u w ↦ inr w.if-j-u.false | else-j-t w ↦ inl w.if-j-t.false ] in
    (c.requires.1.within l.v, c.requires.1.above l.v, λ sheet f k. walk-next sheet f a.chains.now k (λ j. (j ≡ a.t) ⊎ (j ≡ a.u)) a.y l.v t (l.invariant.2 sheet f k) w)

pub returns : goal.returns
returns c = let a = c.args in
    let l = c.loop-v in
    λ e sheet f k. walk_end sheet f a.chains.now k (λ j. (j ≡ a.t) ⊎ (j ≡ a.u)) a.y l.v (omega arith) (l.invariant.2 sheet f k)
