-- With the contexts of one more link.
use Rattle.std.proofs.Common.{ℕ, get_or}
use Rattle.candidates.specs.Words.{In}
use Rattle.candidates.proofs.Digits.{in-or-left, in-or-right}
use Rattle.stepping.proofs.Tables.{below_next}
use Rattle.ways.proofs.outnumbered.contexts.Goals as goal

pub loop-x-preserved : goal.loop-x-preserved
loop-x-preserved c = let l = c.loop-x in
    let a = c.args in
    below_next (λ i. (t : ℕ) → In (get_or a.standing.now i 0) t → In _ t) l.x (λ i h t j. in-or-left l.all (get_or a.standing.now l.x 0) t (l.invariant i h t j)) (λ t j. in-or-right l.all (get_or a.standing.now l.x 0) t j)
