-- Nothing is left of the set without its first link.
use Rattle.std.proofs.Common.{sym, ◌∙◌}
use Rattle.ways.proofs.Telling.{only-without}
use Rattle.ways.proofs.told.only_link.Goals as goal

pub returns : goal.returns
returns c = let y = c.first_link-y in
    only-without c.args.sets.now c.args.x c.pair_at-set.result c.pair_at-set.ensures y.result y.ensures.0 c.without_link-rest.result c.without_link-rest.ensures (sym c.is_empty-2.ensures ∙ c.if-not-is_empty.false)
