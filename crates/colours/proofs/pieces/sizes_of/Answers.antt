use Rattle.std.proofs.Common.{◌≡◌, ◌∙◌, subst, arith}
use Rattle.colours.proofs.SizeCode.{SizedTo, sized-skip, sized-more, sized-all}
use Rattle.colours.proofs.pieces.sizes_of.Goals as goal
use Rattle.colours.proofs.pieces.sizes_of.Goals.{then-sizes-t-eq0, else-sizes-t-eq0}

pub loop-t-preserved : goal.loop-t-preserved
loop-t-preserved c = let t = c.loop-t.t in
    elim c.if-sizes-t-eq0.branch [
      | then-sizes-t-eq0 w ↦ (
        rw w.sizes-is w.put_size.ensures.0,
        λ net o. rw w.sizes-is (sized-more net c.args.n c.loop-t.sizes t (c.loop-t.invariant.1 net o) _ w.piece_of-piece.result (omega (arith, c.requires.0.few)) c.loop-t-test.true (w.piece_of-piece.ensures net o) (λ u b m. w.put_size.ensures.1 u b m ∙ w.size_of.ensures) w.put_size.ensures.2),
      )
      | else-sizes-t-eq0 w ↦ (rw w.sizes-is c.loop-t.invariant.0, λ net o. rw w.sizes-is (sized-skip net c.args.n c.loop-t.sizes t (c.loop-t.invariant.1 net o) w.if-sizes-t-eq0.false))
    ]

pub returns : goal.returns
returns c = (c.loop-t.invariant.0, λ net o. sized-all net c.args.laid.now c.args.n o c.loop-t.sizes (subst (SizedTo net c.args.n c.loop-t.sizes) (let e : c.loop-t.t ≡ c.args.n = omega arith in e) (c.loop-t.invariant.1 net o)))
