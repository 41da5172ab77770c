use Rattle.candidates.proofs.Digits.{fewer-in}
use Rattle.candidates.proofs.Halves.{fewer-pair-in}
use Rattle.narrowing.proofs.Barring.{barred-left, barred-gone}
use Rattle.narrowing.proofs.barred.barred.Goals as goal

pub returns-then-size : goal.returns-then-size
returns-then-size c =
    let s = c.args in
    barred-left s.users.now s.k s.left c.minus.result (λ t u i. (fewer-in _ _ _ c.minus.ensures t i).1 (c.users_at.ensures.1 t u))

pub returns : goal.returns
returns c =
    let s = c.args in
    barred-gone s.users.now s.k s.left c.requires c.without-gone.result (λ y h. fewer-pair-in _ _ _ y h c.without-gone.ensures) c.users_at-2.result c.users_at-2.ensures.0
