-- One more link is 0.
use Rattle.std.proofs.Common.{◌≡◌, get_or, sym, ◌∙◌}
use Rattle.candidates.proofs.Halves.{without-smaller}
use Rattle.candidates.proofs.Members.{part-less, seen_more, seen_all}
use Rattle.candidates.proofs.Staying.{zero-there, zero-stays}
use Rattle.starting.proofs.profile.clear_links.Goals as goal

pub loop-rest-smaller : goal.loop-rest-smaller
loop-rest-smaller c = let f = c.first_link-x.ensures in without-smaller _ _ f.0 _ c.without_link-less.ensures f.1

pub loop-rest-preserved : goal.loop-rest-preserved
loop-rest-preserved c = let f = c.first_link-x in
    let set = c.args.set in
    let l = c.loop-rest in
    let a = l.closed in
    let w = c.without_link-less in (
      part-less set l.rest f.result f.ensures.0 w.result w.ensures l.invariant.0,
      (λ q m. zero-stays a f.result q (l.invariant.1 q m)),
      seen_more set l.rest f.result f.ensures.0 w.result w.ensures (λ x. get_or a x 0 ≡ 0) _ l.invariant.2 (λ x h i m. zero-stays a f.result x m) (zero-there a f.result),
    )

pub returns-clause-cleared : goal.returns-clause-cleared
returns-clause-cleared c = let l = c.loop-rest in
    seen_all (λ x. get_or l.closed x 0 ≡ 0) c.args.set l.rest (sym c.is_empty.ensures ∙ c.loop-rest-test.false) l.invariant.2
