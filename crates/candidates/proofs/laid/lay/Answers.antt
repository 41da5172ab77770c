use borrow.Author.Count.{below_more}
use mathlib.Core.Path.{◌∙◌}
use native.Mathlib.Omega.{arith}
use Rattle.candidates.proofs.Laying.{kept_row}
use Rattle.candidates.proofs.laid.lay.Goals as goal

pub loop-i-preserved : goal.loop-i-preserved
loop-i-preserved c = let l = c in
    let f = c.lay_atom.ensures in
    (omega arith, f.0, below_more _ _ (λ j h. kept_row l.loop-i.laid _ l.loop-i.i j h f.2 ∙ l.loop-i.invariant.2 j h) f.1, λ q h. f.2 q (λ k b e. omega (arith, c.loop-i-test.true, h, b, e)) ∙ l.loop-i.invariant.3 q h)
