use Prim.Native.Nat.{◌<◌}
use mathlib.Core.Path.{◌≡◌, sym, ◌∙◌, subst}
use native.Mathlib.Omega.{arith}
use lib.ListN.{get_or, length-set}
use Rattle.candidates.proofs.PortRows.{ports-of}
use Rattle.deciding.proofs.Flagged.{flagged-fewer}
use Rattle.settling.specs.Completes.{Mends, KeepsBars}
use Rattle.settling.proofs.Trying.{Keeps, tables-put, keeps_then, tried_same, tried_then, tried-next, tried-skip, link-refused, link-settled, at-barred, at-can, at-cannot, at-barring, mends-found, mends-none, found_none, found-tried, found-refused}
use Rattle.settling.proofs.completable.+completable_mendable_tried_at.Goals as goal
use Rattle.settling.proofs.completable.+completable_mendable_tried_at.Goals.{completable-then-flags-x-eq1+else-mendable, completable-else-flags-x-eq1, mendable-then-links-y-eq1+else-tried_at, mendable-else-links-y-eq1}

pub completable-returns-in_default : goal.completable-returns-in_default
completable-returns-in_default t c =
    let a = c.args in
    λ sheet figure u. found_none sheet figure u.over.nets-in.ready a.taken.now a.to.now a.flags.now c.requires.1 a.bars.now (c.in_default.ensures sheet figure u.over u.standing-in)

pub completable-mendable-requires : goal.completable-mendable-requires
completable-mendable-requires t c =
    (omega (arith, c.decreases), (c.requires.0, c.requires.1, c.loop-x-test.true, c.if-flags-x-eq1.true))

pub completable-returns-then-mendable : goal.completable-returns-then-mendable
completable-returns-then-mendable t c =
    let a = c.args in
    let l = c.loop-x in
    λ sheet figure u. let n = u.over.nets-in in
    found-tried sheet figure n.ready a.taken.now a.to.now a.flags.now c.requires.1 a.bars.now c.in-Some.links l.known l.x (omega (arith, c.loop-x-test.true, n.contexts-in.link-count)) c.if-flags-x-eq1.true
    (subst (Mends sheet figure a.taken.now a.to.now a.flags.now l.known c.in-Some.links l.x) c.if-mendable.true (c.mendable.ensures sheet figure u).0)

pub completable-loop-x-preserved : goal.completable-loop-x-preserved
completable-loop-x-preserved t c =
    let a = c.args in
    let l = c.loop-x in
    λ sheet figure u.
    let i = l.invariant sheet figure u in
    let h : l.x < figure.class_count = omega (arith, c.loop-x-test.true, u.over.nets-in.contexts-in.link-count) in
    elim c.if-flags-x-eq1.branch [
      | completable-then-flags-x-eq1+else-mendable w ↦ (
        subst (Keeps sheet figure a.taken.now a.to.now a.flags.now a.bars.now) (sym w.known-is) (keeps_then sheet figure a.taken.now a.to.now a.flags.now a.bars.now l.known w.mendable.new.bars l.x h w.if-flags-x-eq1.true i.0 (w.mendable.ensures sheet figure u).1),
        link-refused sheet figure a.taken.now a.to.now a.flags.now a.bars.now l.known i.0 c.in-Some.links l.x i.1 h w.mendable.result w.if-mendable.false (w.mendable.ensures sheet figure u).0,
      )
      | completable-else-flags-x-eq1 w ↦ (subst (Keeps sheet figure a.taken.now a.to.now a.flags.now a.bars.now) (sym w.known-is) i.0, link-settled sheet figure a.taken.now a.to.now a.flags.now a.bars.now l.known i.0 c.in-Some.links l.x i.1 w.if-flags-x-eq1.false)
    ]

pub completable-returns : goal.completable-returns
completable-returns t c =
    let a = c.args in
    let l = c.loop-x in
    λ sheet figure u. let n = u.over.nets-in in
    found-refused sheet figure n.ready a.taken.now a.to.now a.flags.now c.requires.1 a.bars.now c.in-Some.links (c.in-Some.ensures sheet figure u.over u.standing-in) l.x (omega (arith, c.loop-x-test.false, n.contexts-in.link-count)) (l.invariant sheet figure u).1

pub mendable-tried_at-requires : goal.mendable-tried_at-requires
mendable-tried_at-requires t c =
    let a = c.args in
    let p = c.requires in
    (omega (arith, c.decreases, flagged-fewer a.nets.count a.flags.now a.x p.2 (omega (arith, p.1, (ports-of p.0.2.over.nets-in.contexts-in).links-few)) p.3), (p.0, p.1, p.2, c.loop-y-test.true))

pub mendable-returns-then-tried_at : goal.mendable-returns-then-tried_at
mendable-returns-then-tried_at t c =
    let a = c.args in
    let l = c.loop-y in
    let v = c.tried_at in
    λ sheet figure u. let n = u.over.nets-in in
    let h : a.x < figure.class_count = omega (arith, c.requires.2, n.contexts-in.link-count) in (
      mends-found sheet figure n.ready a.taken.now a.to.now a.flags.now c.requires.1 a.bars.now a.x h a.links.now l.bars l.y (omega (arith, c.loop-y-test.true, n.sheet-links)) v.result c.if-tried_at.true (v.ensures sheet figure u).0,
      tried_then sheet figure a.taken.now a.to.now a.flags.now a.bars.now l.bars v.new.bars a.x (l.invariant sheet figure u).0 (v.ensures sheet figure u).1,
    )

pub mendable-loop-y-preserved : goal.mendable-loop-y-preserved
mendable-loop-y-preserved t c =
    let a = c.args in
    let l = c.loop-y in
    λ sheet figure u.
    let i = l.invariant sheet figure u in
    elim c.if-links-y-eq1.branch [
      | mendable-then-links-y-eq1+else-tried_at w ↦ (
        subst (KeepsBars sheet figure a.taken.now a.to.now a.flags.now a.bars.now a.x) (sym w.bars-is) (tried_then sheet figure a.taken.now a.to.now a.flags.now a.bars.now l.bars w.tried_at.new.bars a.x i.0 (w.tried_at.ensures sheet figure u).1),
        tried-next sheet figure a.taken.now a.to.now a.flags.now a.bars.now l.bars a.x i.0 (λ z. get_or a.links.now z 0 ≡ 1) l.y i.1 w.tried_at.result w.if-tried_at.false (w.tried_at.ensures sheet figure u).0,
      )
      | mendable-else-links-y-eq1 w ↦ (subst (KeepsBars sheet figure a.taken.now a.to.now a.flags.now a.bars.now a.x) (sym w.bars-is) i.0, tried-skip sheet figure a.taken.now a.to.now a.flags.now a.bars.now l.bars a.x i.0 (λ z. get_or a.links.now z 0 ≡ 1) l.y i.1 w.if-links-y-eq1.false)
    ]

pub mendable-returns : goal.mendable-returns
mendable-returns t c =
    let a = c.args in
    let l = c.loop-y in
    λ sheet figure u. let n = u.over.nets-in in
    let h : a.x < figure.class_count = omega (arith, c.requires.2, n.contexts-in.link-count) in
    let i = l.invariant sheet figure u in
    (mends-none sheet figure n.ready a.taken.now a.to.now a.flags.now c.requires.1 a.bars.now a.x h a.links.now l.y (omega (arith, c.loop-y-test.false, n.sheet-links)) i.1, i.0)

pub tried_at-returns-then-barred : goal.tried_at-returns-then-barred
tried_at-returns-then-barred t c =
    let a = c.args in
    let p = c.requires in
    λ sheet figure u. let n = u.over.nets-in in
    let h : a.x < figure.class_count = omega (arith, p.2, n.contexts-in.link-count) in
    let k : a.y < sheet.class_count = omega (arith, p.3, n.sheet-links) in
    (at-barred sheet figure n.ready a.taken.now a.to.now a.flags.now p.1 a.bars.now a.x h a.y k (c.barred.ensures.0 c.if-barred.true), tried_same sheet figure a.taken.now a.to.now a.flags.now a.bars.now a.x)

pub tried_at-completable-requires : goal.tried_at-completable-requires
tried_at-completable-requires t c =
    let a = c.args in
    let p = c.requires in
    (omega (arith, c.decreases), ((p.0.0, p.0.1, tables-put p.0.2 a.x a.y p.2 p.3), length-set a.flags.now a.x 0 ∙ p.1))

pub tried_at-returns-then-completable : goal.tried_at-returns-then-completable
tried_at-returns-then-completable t c =
    let a = c.args in
    let p = c.requires in
    λ sheet figure u. let n = u.over.nets-in in
    let h : a.x < figure.class_count = omega (arith, p.2, n.contexts-in.link-count) in
    let k : a.y < sheet.class_count = omega (arith, p.3, n.sheet-links) in
    (at-can sheet figure n.ready a.taken.now a.to.now a.flags.now p.1 a.bars.now a.x h a.y k c.completable.result (c.completable.ensures sheet figure (tables-put u a.x a.y p.2 p.3)) c.if-completable.true, tried_same sheet figure a.taken.now a.to.now a.flags.now a.bars.now a.x)

pub tried_at-returns : goal.tried_at-returns
tried_at-returns t c =
    let a = c.args in
    let p = c.requires in
    let d = c.completable in
    let v = c.bar_along in
    λ sheet figure u. let n = u.over.nets-in in
    let h : a.x < figure.class_count = omega (arith, p.2, n.contexts-in.link-count) in
    let k : a.y < sheet.class_count = omega (arith, p.3, n.sheet-links) in
    let e = d.ensures sheet figure (tables-put u a.x a.y p.2 p.3) in (
      at-cannot sheet figure n.ready a.taken.now a.to.now a.flags.now p.1 a.bars.now a.x h a.y k d.result e c.if-completable.false,
      tried_then sheet figure a.taken.now a.to.now a.flags.now a.bars.now c.bar.new.bars v.new.bars a.x (at-barring sheet figure n.ready a.taken.now a.to.now a.flags.now p.1 a.bars.now a.x h a.y k d.result e c.if-completable.false a.kinds.now u.kinds-in c.bar.new.bars c.bar.ensures) (v.ensures sheet figure a.flags.now u p.1),
    )
