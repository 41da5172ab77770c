use mathlib.Core.Path.{sym, ◌∙◌}
use Rattle.candidates.proofs.Halves.{without-smaller}
use Rattle.stepping.proofs.StandingWords.{marking-next, marking-end}
use Rattle.stepping.proofs.standing.mark_links.Goals as goal

pub loop-rest-smaller : goal.loop-rest-smaller
loop-rest-smaller c = let f = c.first_link-x.ensures in without-smaller _ _ f.0 _ c.without_link-less.ensures f.1

pub loop-rest-preserved : goal.loop-rest-preserved
loop-rest-preserved c = let f = c.first_link-x in
    let h = c.requires.0 f.result f.ensures.0 (c.loop-rest.invariant.part f.result f.ensures.0 f.ensures.1) in
    marking-next c.args.words.now c.args.set c.args.word c.loop-rest.rest c.loop-rest.words c.loop-rest.invariant f.result f.ensures.0 h f.ensures.1 c.without_link-less.result c.without_link-less.ensures

pub returns : goal.returns
returns c = marking-end c.args.words.now c.args.set c.args.word c.loop-rest.rest c.loop-rest.words (sym c.is_empty.ensures ∙ c.loop-rest-test.false) c.loop-rest.invariant
