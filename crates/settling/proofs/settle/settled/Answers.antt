use Prim.Native.Nat.{◌<◌}
use native.Mathlib.Omega.{arith}
use Rattle.settling.proofs.Trying.{tables-links}
use Rattle.settling.proofs.SettleLaws.{settled_same, settled-start, settled-skip, settled-next, settled-end}
use Rattle.settling.proofs.settle.settled.Goals as goal
use Rattle.settling.proofs.settle.settled.Goals.{then-rest-x-eq1, else-rest-x-eq1}

pub loop-x-init : goal.loop-x-init
loop-x-init c =
    let a = c.args in
    let p = c.requires in
    λ sheet figure u. settled-start sheet figure u.over.nets-in.ready a.taken.now a.to.now a.opened.now a.flags.now u.over.links-in p.1 p.2 a.bars.now p.3.0 p.3.1

pub first_link-y-requires : goal.first_link-y-requires
first_link-y-requires c =
    let p = c.requires in
    let w = c.loop-x.invariant p.0.0 p.0.1 p.0.2 in
    ((p.0.0, p.0.1, tables-links p.0.2 w.links-in), w.flags-room, c.loop-x-test.true)

pub loop-x-preserved : goal.loop-x-preserved
loop-x-preserved c =
    let a = c.args in
    let l = c.loop-x in
    λ sheet figure u.
    let n = u.over.nets-in in
    let v = l.invariant sheet figure u in
    let h : l.x < figure.class_count = omega (arith, c.loop-x-test.true, n.contexts-in.link-count) in
    elim c.if-rest-x-eq1.branch [
      | then-rest-x-eq1 w ↦ let f = w.first_link-y.ensures sheet figure (tables-links u v.links-in) in
          settled_same w.next-is w.rest-is w.several-is w.bars-is (settled-next sheet figure n.ready a.taken.now a.to.now a.opened.now a.flags.now l.next l.rest l.several l.bars l.x v h w.if-rest-x-eq1.true w.first_link-y.result f.0 w.first_link-y.new.bars f.1)
      | else-rest-x-eq1 w ↦ settled_same w.next-is w.rest-is w.several-is w.bars-is (settled-skip sheet figure n.ready a.taken.now a.to.now a.opened.now a.flags.now l.next l.rest l.several l.bars l.x v w.if-rest-x-eq1.false)
    ]

pub returns : goal.returns
returns c =
    let a = c.args in
    let l = c.loop-x in
    λ sheet figure u. let n = u.over.nets-in in
    settled-end sheet figure n.ready a.taken.now a.to.now a.opened.now a.flags.now l.next l.rest l.several l.bars l.x (omega (arith, c.loop-x-test.false, n.contexts-in.link-count)) (l.invariant sheet figure u)
