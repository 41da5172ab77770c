use borrow.Author.Rules.{rules}
use mathlib.Core.Path.{refl}
use Rattle.deciding.proofs.FlagLaws.{opening-start}
use Rattle.deciding.proofs.opening.open_links.Goals as goal

pub loop-x-init : goal.loop-x-init
loop-x-init c = opening-start c.args.to c.args.none (search rules) _ refl
