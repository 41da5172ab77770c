use mathlib.Core.Path.{subst}
use Rattle.candidates.proofs.Digits.{alone-in, alone-only, fewer-in, in-fewer, fewer-smaller}
use Rattle.narrowing.proofs.Barring.{Joined, joined-none, joined-all, joined-skip, joined-more}
use Rattle.narrowing.proofs.barred.union.Goals as goal

pub loop-rest-init : goal.loop-rest-init
loop-rest-init c = let s = c.args in joined-none s.users.now s.at s.n s.s

pub loop-rest-smaller-then-y-n : goal.loop-rest-smaller-then-y-n
loop-rest-smaller-then-y-n c = fewer-smaller _ _ _ c.minus-rest.ensures c.first-y.result c.first-y.ensures.1 (alone-in _ _ c.one.ensures)

pub loop-rest-preserved-then-y-n : goal.loop-rest-preserved-then-y-n
loop-rest-preserved-then-y-n c =
    let s = c.args in
    let f = c.first-y in
    joined-more s.users.now s.at s.n s.s c.loop-rest.all c.loop-rest.rest c.loop-rest.invariant f.result c.one.result c.minus-rest.result f.ensures.1 (alone-only _ _ c.one.ensures) (fewer-in _ _ _ c.minus-rest.ensures) (in-fewer _ _ _ c.minus-rest.ensures) c.if-y-n.true

pub loop-rest-smaller : goal.loop-rest-smaller
loop-rest-smaller c = fewer-smaller _ _ _ c.minus-rest.ensures c.first-y.result c.first-y.ensures.1 (alone-in _ _ c.one.ensures)

pub loop-rest-preserved : goal.loop-rest-preserved
loop-rest-preserved c =
    let s = c.args in
    let f = c.first-y in
    joined-skip s.users.now s.at s.n s.s c.loop-rest.all c.loop-rest.rest c.loop-rest.invariant f.result c.one.result c.minus-rest.result f.ensures.1 (alone-only _ _ c.one.ensures) (fewer-in _ _ _ c.minus-rest.ensures) (in-fewer _ _ _ c.minus-rest.ensures) c.if-y-n.false

pub returns : goal.returns
returns c =
    let s = c.args in
    joined-all s.users.now s.at s.n s.s c.loop-rest.all (subst (Joined s.users.now s.at s.n s.s c.loop-rest.all) c.loop-rest-test.false c.loop-rest.invariant)
