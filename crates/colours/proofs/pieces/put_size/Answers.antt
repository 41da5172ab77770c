use Rattle.std.proofs.Common.{ℕ, subst, arith, length-set}
use Rattle.candidates.specs.Words.{In}
use Rattle.candidates.proofs.Digits.{none_in, alone-in, alone-only, fewer-in, in-fewer, fewer-smaller}
use Rattle.colours.proofs.PieceCode.{put-more}
use Rattle.colours.proofs.pieces.put_size.Goals as goal

pub loop-rest-smaller : goal.loop-rest-smaller
loop-rest-smaller c = fewer-smaller _ _ _ c.minus-rest.ensures c.first-u.result c.first-u.ensures.1 (alone-in _ _ c.one.ensures)

pub loop-rest-preserved : goal.loop-rest-preserved
loop-rest-preserved c = let s = c.args in
    let l = c.loop-rest in
    let v = c.first-u.result in
    let i = fewer-in _ _ _ c.minus-rest.ensures in (
      simp length-set l.invariant.0,
      put-more s.piece s.size s.sizes.now l.sizes l.rest c.minus-rest.result v l.invariant.1 (omega (arith, c.first-u.ensures.0, l.invariant.0)) c.first-u.ensures.1
          (λ u m. (i u m).0) (λ u m d. in-fewer _ _ _ c.minus-rest.ensures u m (λ k. d (alone-only _ _ c.one.ensures u k))) (λ m. (i v m).1 (alone-in _ _ c.one.ensures)),
    )

pub returns : goal.returns
returns c = let p = c.loop-rest.invariant.1 in
    (c.loop-rest.invariant.0, λ u h m. p.done u (omega (arith, h, c.loop-rest.invariant.0)) m (λ k. none_in u (subst (λ (w : ℕ). In w u) c.loop-rest-test.false k)), p.kept)
