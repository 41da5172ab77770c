use Rattle.std.proofs.Common.{ℕ, subst, arith}
use Rattle.network.proofs.NetIn.{atoms-length}
use Rattle.candidates.specs.Words.{In}
use Rattle.candidates.proofs.Digits.{none_in, in_and, and_in, alone-in, alone-only, in-fewer, fewer-smaller}
use Rattle.colours.proofs.PieceCode.{all_in, grown-one, grown-more, grown-same, grown-all}
use Rattle.colours.proofs.pieces.piece_of.Goals as goal

pub loop-piece-init : goal.loop-piece-init
loop-piece-init c =
    λ net o. grown-one net c.args.t c.one-piece.result _ (omega (arith, atoms-length net o.fit, o.fit.atom-count)) (alone-in _ _ c.one-piece.ensures) (alone-only _ _ c.one-piece.ensures) all_in

pub loop-piece-smaller-then-u-n : goal.loop-piece-smaller-then-u-n
loop-piece-smaller-then-u-n c = fewer-smaller _ _ _ c.minus-rest.ensures c.first-u.result (and_in _ _ _ c.first-u.ensures.1).1 (alone-in _ _ c.one.ensures)

pub loop-piece-preserved-then-u-n : goal.loop-piece-preserved-then-u-n
loop-piece-preserved-then-u-n c =
    λ net o. grown-more net c.args.t c.loop-piece.piece c.loop-piece.rest c.minus-rest.result c.first-u.result (c.loop-piece.invariant net o) (and_in _ _ _ c.first-u.ensures.1).0
    (λ v m d. in-fewer _ _ _ c.minus-rest.ensures v m (λ k. d (alone-only _ _ c.one.ensures v k))) c.beside-piece.result (c.beside-piece.ensures net o c.requires.2)

pub loop-piece-smaller : goal.loop-piece-smaller
loop-piece-smaller c = fewer-smaller _ _ _ c.minus-rest.ensures c.first-u.result (and_in _ _ _ c.first-u.ensures.1).1 (alone-in _ _ c.one.ensures)

pub loop-piece-preserved : goal.loop-piece-preserved
loop-piece-preserved c =
    λ net o. grown-same net c.args.t c.loop-piece.piece c.loop-piece.rest c.minus-rest.result c.first-u.result (c.loop-piece.invariant net o) (and_in _ _ _ c.first-u.ensures.1).0
    (λ v m d. in-fewer _ _ _ c.minus-rest.ensures v m (λ k. d (alone-only _ _ c.one.ensures v k))) (λ r. let q = r.1 in absurd (omega (arith, c.if-u-n.false, q, atoms-length net o.fit, o.count)))

pub returns : goal.returns
returns c =
    λ net o. grown-all net c.args.t c.loop-piece.piece c.loop-piece.rest (c.loop-piece.invariant net o) (λ u m k. none_in u (subst (λ (w : ℕ). In w u) c.loop-piece-test.false (in_and c.loop-piece.piece c.loop-piece.rest u m k)))
