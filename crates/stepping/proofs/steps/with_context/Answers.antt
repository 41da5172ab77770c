use mathlib.Core.Path.{sym, ◌∙◌}
use native.Mathlib.Omega.{arith}
use Rattle.candidates.proofs.Halves.{without-smaller}
use Rattle.candidates.proofs.Members.{part-less, seen_all}
use Rattle.stepping.proofs.Labels.{AllWith, grew_then, context-step}
use Rattle.stepping.proofs.steps.with_context.Goals as goal

pub with_port-requires : goal.with_port-requires
with_port-requires c = let f = c.first_link-a in
    let part = part-less c.args.set c.loop-rest.rest f.result f.ensures.0 c.without_link-less.result c.without_link-less.ensures c.loop-rest.invariant.1 in
    (c.requires.0 f.result f.ensures.0 (c.loop-rest.invariant.1 f.result f.ensures.0 f.ensures.1), (λ x h i. c.requires.0 x h (part x h i)), c.loop-rest.invariant.0, c.requires.2, c.loop-rest.invariant.4)

pub loop-rest-smaller : goal.loop-rest-smaller
loop-rest-smaller c = let f = c.first_link-a.ensures in
    without-smaller _ _ f.0 _ c.without_link-less.ensures f.1

pub loop-rest-preserved : goal.loop-rest-preserved
loop-rest-preserved c = let a = c.args in
    let f = c.first_link-a in
    let part = part-less a.set c.loop-rest.rest f.result f.ensures.0 c.without_link-less.result c.without_link-less.ensures c.loop-rest.invariant.1 in
    let g = c.with_port.ensures in
    let grew = g.1 a.set (c.loop-rest.invariant.1 f.result f.ensures.0 f.ensures.1) part in (
      g.0,
      part,
      grew_then _ _ _ _ _ c.loop-rest.invariant.2 grew,
      context-step a.to.now a.set (λ x h i. omega (arith, c.requires.0 x h i, c.requires.2)) f.result f.ensures.0 c.loop-rest.rest c.without_link-less.result c.without_link-less.ensures c.loop-rest.invariant.1 f.ensures.1 c.loop-rest.labels c.with_port.new.labels grew.kept c.loop-rest.invariant.3 g.2,
      g.3,
    )

pub returns : goal.returns
returns c = let a = c.args in
    let e = sym c.is_empty.ensures ∙ c.loop-rest-test.false in
    (c.loop-rest.invariant.0, c.loop-rest.invariant.2, (λ x z h k i j. seen_all (AllWith a.to.now a.set c.loop-rest.labels) a.set c.loop-rest.rest e c.loop-rest.invariant.3 x h i z k j), c.loop-rest.invariant.4)
