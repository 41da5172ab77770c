use Prim.Native.Nat.{◌<◌}
use mathlib.Core.Path.{◌≡◌}
use native.Mathlib.Omega.{arith}
use Rattle.settling.proofs.Trying.{tried_then, tried-next, first_found, first-none}
use Rattle.settling.proofs.settle.first_link.Goals as goal

pub returns-then-tried_at : goal.returns-then-tried_at
returns-then-tried_at c =
    let a = c.args in
    let l = c.loop-y in
    let v = c.tried_at in
    λ sheet figure u. let n = u.over.nets-in in
    let h : a.x < figure.class_count = omega (arith, c.requires.2, n.contexts-in.link-count) in
    let i = l.invariant sheet figure u in (
      first_found sheet figure n.ready a.taken.now a.to.now a.flags.now c.requires.1 a.bars.now a.x h l.bars l.y (omega (arith, c.loop-y-test.true, n.sheet-links)) i.1 v.result c.if-tried_at.true (v.ensures sheet figure u).0,
      tried_then sheet figure a.taken.now a.to.now a.flags.now a.bars.now l.bars v.new.bars a.x i.0 (v.ensures sheet figure u).1,
    )

pub loop-y-preserved : goal.loop-y-preserved
loop-y-preserved c =
    let a = c.args in
    let l = c.loop-y in
    let v = c.tried_at in
    λ sheet figure u. let i = l.invariant sheet figure u in (
      tried_then sheet figure a.taken.now a.to.now a.flags.now a.bars.now l.bars v.new.bars a.x i.0 (v.ensures sheet figure u).1,
      tried-next sheet figure a.taken.now a.to.now a.flags.now a.bars.now l.bars a.x i.0 (λ z. Unit {0}) l.y i.1 v.result c.if-tried_at.false (v.ensures sheet figure u).0,
    )

pub returns : goal.returns
returns c =
    let a = c.args in
    let l = c.loop-y in
    λ sheet figure u. let n = u.over.nets-in in
    let h : a.x < figure.class_count = omega (arith, c.requires.2, n.contexts-in.link-count) in
    let i = l.invariant sheet figure u in
    let e : l.y ≡ a.nets.links = omega (arith, c.loop-y-test.false, l.auto.y-end) in
    (first-none sheet figure n.ready a.taken.now a.to.now a.flags.now c.requires.1 a.bars.now a.x h a.nets.links (omega (arith, n.sheet-links)) (rw e at i.1), i.0)
