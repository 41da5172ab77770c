use borrow.Author.Rules.{rules}
use mathlib.Core.Path.{refl}
use Rattle.linking.specs.Steps.{hint_at}
use Rattle.linking.proofs.place.hint_at.Statement.{statement}
use Rattle.linking.proofs.place.hint_at.Tie as tie

returns : tie.Need-returns
unfolding hint_at
returns c = (search rules, refl)

pub hint_at_spec : {M : Type 1} → statement M
hint_at_spec = tie.close (tie.spec returns)
