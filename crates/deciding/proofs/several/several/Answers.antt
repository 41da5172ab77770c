use mathlib.Core.Logic.{⊎_elim, inl, inr}
use native.Mathlib.Omega.{arith}
use Rattle.candidates.proofs.PortRows.{ports-of}
use Rattle.deciding.proofs.SeveralLaws.{one-row}
use Rattle.deciding.proofs.several.several.Goals as goal

pub returns : goal.returns
returns c =
    let f = c.flags_beside.ensures in
    let o = c.on_one-set in (
      f.0,
      λ figure w x h. ((f.1 x h).0, λ e. ⊎_elim inl (λ m. inr (one-row w o.result o.ensures x (omega (arith, h, (ports-of w).links-few)) m)) ((f.1 x h).1 e)),
    )
