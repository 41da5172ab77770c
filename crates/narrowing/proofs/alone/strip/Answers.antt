use lib.ListN.{length-set}
use Rattle.candidates.specs.Words.{In}
use Rattle.candidates.proofs.Digits.{in-fewer}
use Rattle.candidates.proofs.Staying.{atoms-put}
use Rattle.narrowing.proofs.alone.strip.Goals as goal

pub loop-j-preserved : goal.loop-j-preserved
loop-j-preserved c =
    let s = c.args in
    let v = c.minus in
    (simp length-set c.loop-j.invariant.0, atoms-put s.atoms.now c.loop-j.atoms (λ i u. ¬ In s.row u) c.loop-j.invariant.1 c.loop-j.j v.result (λ t h n m. in-fewer _ _ _ v.ensures t m n))
