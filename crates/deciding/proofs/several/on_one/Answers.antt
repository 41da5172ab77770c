use Rattle.deciding.proofs.SeveralLaws.{none-next, one-next}
use Rattle.deciding.proofs.several.on_one.Goals as goal

pub loop-c-preserved : goal.loop-c-preserved
loop-c-preserved c =
    let l = c.loop-c in (
      none-next c.args.contexts l.c l.fresh l.invariant.0 c.without-left.result c.without-left.ensures,
      one-next c.args.contexts l.c l.fresh l.invariant.0 l.single c.without-again.result c.without-less.result l.invariant.1 c.without-again.ensures c.without-less.ensures,
    )
