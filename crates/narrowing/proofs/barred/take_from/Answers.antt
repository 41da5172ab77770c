use Rattle.candidates.specs.Words.{In}
use Rattle.candidates.proofs.Staying.{atoms-put}
use Rattle.candidates.proofs.Digits.{alone-in, fewer-in, in-fewer, fewer-smaller}
use Rattle.narrowing.proofs.barred.take_from.Goals as goal

pub loop-rest-smaller-then-row-out-ne0 : goal.loop-rest-smaller-then-row-out-ne0
loop-rest-smaller-then-row-out-ne0 c = fewer-smaller _ _ _ c.minus-rest.ensures c.first-i.result c.first-i.ensures.1 (alone-in _ _ c.one.ensures)

pub loop-rest-preserved-then-row-out-ne0 : goal.loop-rest-preserved-then-row-out-ne0
loop-rest-preserved-then-row-out-ne0 c =
    let s = c.args in
    let f = c.first-i in
    let v = c.loop-rest.invariant in (
      (λ i m. v.0 i (fewer-in _ _ _ c.minus-rest.ensures i m).0),
      atoms-put s.atoms.now c.loop-rest.atoms (λ i t. In s.some i → ¬ In s.out t) v.1 f.result c.minus.result (λ t h p m. in-fewer _ _ _ c.minus.ensures t m (p (v.0 f.result f.ensures.1))),
    )

pub loop-rest-smaller : goal.loop-rest-smaller
loop-rest-smaller c = fewer-smaller _ _ _ c.minus-rest.ensures c.first-i.result c.first-i.ensures.1 (alone-in _ _ c.one.ensures)

pub loop-rest-preserved : goal.loop-rest-preserved
loop-rest-preserved c =
    let v = c.loop-rest.invariant in
    ((λ i m. v.0 i (fewer-in _ _ _ c.minus-rest.ensures i m).0), v.1)
