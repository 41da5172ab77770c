use mathlib.Core.Logic.{inl, inr, ⊎_elim}
use Rattle.candidates.proofs.Digits.{in-or-left, in-or-right, or-in}
use Rattle.narrowing.proofs.Barring.{uses-only, uses-has}
use Rattle.narrowing.proofs.barred.users_at.Goals as goal

pub returns : goal.returns
returns c =
    let s = c.args in
    let low = c.union-low in
    let high = c.union-high in (
      (λ t m. uses-only s.users.now s.k s.set t (⊎_elim (λ v. inl (low.ensures.0 t v)) (λ v. inr (high.ensures.0 t v)) (or-in low.result high.result t m))),
      λ t u. ⊎_elim (λ v. in-or-left low.result high.result t (low.ensures.1 t v.0 v.1 v.2 v.3)) (λ v. in-or-right low.result high.result t (high.ensures.1 t v.0 v.1 v.2 v.3)) (uses-has s.users.now s.k s.set t u),
    )
