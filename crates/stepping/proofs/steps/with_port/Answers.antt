use mathlib.Core.Path.{refl, sym, ◌∙◌}
use mathlib.Core.Logic.{inl, inr}
use Rattle.candidates.proofs.Halves.{without-smaller}
use Rattle.candidates.proofs.Members.{part-less, seen_all}
use Rattle.stepping.specs.Labels.{Tied}
use Rattle.stepping.proofs.Labels.{relabelled-same, port-step, port-low, bounded-next}
use Rattle.stepping.proofs.steps.with_port.Goals as goal

pub loop-rest-smaller-then-from-label : goal.loop-rest-smaller-then-from-label
loop-rest-smaller-then-from-label c = let f = c.first_link-b.ensures in without-smaller _ _ f.0 _ c.without_link-less.ensures f.1

pub loop-rest-preserved-then-from-label : goal.loop-rest-preserved-then-from-label
loop-rest-preserved-then-from-label c = let f = c.first_link-b in
    let l = c.loop-rest in
    let i = l.invariant.1 f.result f.ensures.0 f.ensures.1 in
    let low = c.requires.1 f.result f.ensures.0 i in
    let a = c.args in
    let m = c.relabel.new.labels in
    let o = c.relabel.ensures in
    let w = port-step a.to.now a.set a.n c.requires.3 c.requires.1 a.a c.requires.0 f.result f.ensures.0 i l.rest c.without_link-less.result a.labels.now l.labels m c.without_link-less.ensures l.invariant.2 l.invariant.3 (inl (c.if-to-b.true, o.1)) in
    (o.0, part-less a.set l.rest f.result f.ensures.0 c.without_link-less.result c.without_link-less.ensures l.invariant.1, w.0, w.1, bounded-next a.n c.requires.3 l.labels l.invariant.4 _ _ (port-low a.n c.requires.3 l.labels l.invariant.4 _ low) (port-low a.n c.requires.3 l.labels l.invariant.4 _ c.requires.0) m o.1)

pub loop-rest-smaller-else-from-label : goal.loop-rest-smaller-else-from-label
loop-rest-smaller-else-from-label c = let f = c.first_link-b.ensures in without-smaller _ _ f.0 _ c.without_link-less.ensures f.1

pub loop-rest-preserved-else-from-label : goal.loop-rest-preserved-else-from-label
loop-rest-preserved-else-from-label c = let f = c.first_link-b in
    let l = c.loop-rest in
    let i = l.invariant.1 f.result f.ensures.0 f.ensures.1 in
    let a = c.args in
    let w = port-step a.to.now a.set a.n c.requires.3 c.requires.1 a.a c.requires.0 f.result f.ensures.0 i l.rest c.without_link-less.result a.labels.now l.labels l.labels c.without_link-less.ensures l.invariant.2 l.invariant.3 (inl (c.if-to-b.true, λ x h. sym (relabelled-same _ _ _ (sym c.if-from-label.false)))) in
    (l.invariant.0, part-less a.set l.rest f.result f.ensures.0 c.without_link-less.result c.without_link-less.ensures l.invariant.1, w.0, w.1, l.invariant.4)

pub loop-rest-smaller : goal.loop-rest-smaller
loop-rest-smaller c = let f = c.first_link-b.ensures in without-smaller _ _ f.0 _ c.without_link-less.ensures f.1

pub loop-rest-preserved : goal.loop-rest-preserved
loop-rest-preserved c = let f = c.first_link-b in
    let l = c.loop-rest in
    let i = l.invariant.1 f.result f.ensures.0 f.ensures.1 in
    let a = c.args in
    let w = port-step a.to.now a.set a.n c.requires.3 c.requires.1 a.a c.requires.0 f.result f.ensures.0 i l.rest c.without_link-less.result a.labels.now l.labels l.labels c.without_link-less.ensures l.invariant.2 l.invariant.3 (inr (c.if-to-b.false, refl)) in
    (l.invariant.0, part-less a.set l.rest f.result f.ensures.0 c.without_link-less.result c.without_link-less.ensures l.invariant.1, w.0, w.1, l.invariant.4)

pub returns : goal.returns
returns c = let a = c.args in
    let l = c.loop-rest in
    let e = sym c.is_empty.ensures ∙ c.loop-rest-test.false in
    (l.invariant.0, l.invariant.2, seen_all (Tied a.to.now l.labels a.a) a.set l.rest e l.invariant.3, l.invariant.4)
