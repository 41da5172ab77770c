use mathlib.Core.Path.{refl}
use native.Mathlib.Omega.{arith}
use lib.ListN.{get_or, length-set}
use Rattle.rows.specs.Limits.{sheet_link_limit}
use Rattle.stepping.proofs.Owners.{owners-start, owners-none, owners-same, owners-new, owners-apart}
use Rattle.stepping.proofs.steps.untied.Goals as goal
use Rattle.stepping.proofs.steps.untied.Goals.{then-y-none+then-first-eq0, then-y-none+else-first-eq0+else-labels-first, else-y-none}

pub loop-x-init : goal.loop-x-init
loop-x-init c = let a = c.args in (refl, owners-start a.to.now c.step_labels.new.labels a.none sheet_link_limit)

pub returns-then-labels-first : goal.returns-then-labels-first
returns-then-labels-first c = let l = c.loop-x in
    let a = c.args in
    owners-apart a.to.now c.step_labels.new.labels a.none l.x l.owner l.invariant.1 a.contexts a.rows a.count c.step_labels.ensures.1 (omega arith)
    (c.requires.2 l.x (omega arith)).0 c.if-y-none.true c.if-first-eq0.false c.if-labels-first.true

pub loop-x-preserved : goal.loop-x-preserved
loop-x-preserved c = let l = c.loop-x in
    let a = c.args in
    let b = c.step_labels.new.labels in
    let y = get_or a.to.now l.x 0 in
    let r = c.requires.2 l.x c.loop-x-test.true in
    elim c.if-y-none.branch [
      | then-y-none+then-first-eq0 w ↦ rw w.owner-is (simp length-set l.invariant.0, owners-new a.to.now b a.none l.x l.owner l.invariant.1 r.0 (let n = w.if-y-none.true in omega (arith, r.0, r.1)) w.if-first-eq0.true)
      | then-y-none+else-first-eq0+else-labels-first w ↦ rw w.owner-is (l.invariant.0, owners-same a.to.now b a.none l.x l.owner l.invariant.1 w.if-first-eq0.false w.if-labels-first.false)
      | else-y-none w ↦ rw w.owner-is (l.invariant.0, owners-none a.to.now b a.none l.x l.owner l.invariant.1 w.if-y-none.false)
    ]
