use native.Mathlib.Omega.{arith}
use Rattle.candidates.proofs.Staying.{links-more}
use Rattle.narrowing.proofs.Turns.{atom-narrows, narrows_then}
use Rattle.narrowing.proofs.spread.spread.Goals as goal

pub loop-i-preserved : goal.loop-i-preserved
loop-i-preserved c =
    let w = c.args in
    let t = c.look_up-now in
    let has = t.ensures.2 c.loop-i.invariant.1 in
    let k = c.keep_given.new.links in (
      t.ensures.0,
      has,
      λ kin. narrows_then kin w.laid.now w.n w.parts.now w.m w.atoms.now w.links.now w.atoms.now c.loop-i.links w.atoms.now k (c.loop-i.invariant.2 kin)
          (atom-narrows kin w.laid.now w.n w.parts.now w.m c.loop-i.i c.loop-i-test.true _ c.laid_atom-here.ensures w.atoms.now c.loop-i.links k
          (links-more c.loop-i.links k _ _ c.keep_given.ensures (λ z y q f j u e. has j y (omega (arith, u, t.ensures.1)) q (f j u e)))),
    )
