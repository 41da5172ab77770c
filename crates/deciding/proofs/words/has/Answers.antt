use mathlib.Core.Path.{sym, ◌∙◌}
use borrow.Author.Tests.{eq-eqb, eqb-true}
use Rattle.candidates.proofs.Digits.{shifted_one}
use Rattle.deciding.proofs.words.has.Goals as goal

pub returns : goal.returns
returns c =
    let e = shifted_one c.args.set c.args.t in ((λ f. sym e ∙ eqb-true _ _ f), λ i. eq-eqb _ _ (e ∙ i))
