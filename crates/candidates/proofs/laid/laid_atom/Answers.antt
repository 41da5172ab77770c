use mathlib.Core.Path.{refl, sym}
use native.Mathlib.Omega.{arith}
use Rattle.candidates.proofs.Laying.{laid-row}
use Rattle.candidates.proofs.laid.laid_atom.Goals as goal

pub returns : goal.returns
returns c = let s = c.args in
    let l = c.loop-k in
    sym (laid-row s.laid.now s.i _ l.invariant.1 refl refl (λ k h. l.invariant.2 k (omega (arith, h))))
