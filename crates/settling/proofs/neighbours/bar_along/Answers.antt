use native.Mathlib.Omega.{arith}
use Rattle.candidates.proofs.PortRows.{ports-of}
use Rattle.settling.proofs.Trying.{tried_then}
use Rattle.settling.proofs.Beyond.{along-of}
use Rattle.faults.proofs.Finding.{falls}
use Rattle.settling.proofs.neighbours.bar_along.Goals as goal

pub one_each-requires : goal.one_each-requires
one_each-requires c = (c.args.nets.count, ports-of c.requires.0.2.over.nets-in.contexts-in)

pub follow-requires : goal.follow-requires
follow-requires c =
    let a = c.args in
    let l = c.loop-v in
    ((c.requires.0.0, c.requires.0.1, a.to.now, (along-of c.requires.0.2 (c.one_each.ensures c.if-not-one_each.false c.requires.0.1 a.nets.count c.requires.0.2.over.nets-in.contexts-in) c.used_links-used.result c.used_links-used.ensures)), c.requires.1, c.requires.2, omega (arith, l.invariant.0, l.invariant.1 c.loop-v-test.true))

pub loop-v-preserved : goal.loop-v-preserved
loop-v-preserved c =
    let a = c.args in
    let o = c.requires.0.2.over in
    let l = c.loop-v in
    let v = c.follow in (
      (falls o).within l.v,
      (falls o).above l.v,
      λ sheet figure flags u e. tried_then sheet figure a.taken.now a.to.now flags a.bars.now l.bars v.new.bars a.x (l.invariant.2 sheet figure flags u e) (v.ensures sheet figure a.to.now flags (along-of u (c.one_each.ensures c.if-not-one_each.false figure a.nets.count u.over.nets-in.contexts-in) c.used_links-used.result c.used_links-used.ensures) e),
    )
