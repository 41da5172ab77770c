-- One more figure link.
use Rattle.ways.proofs.GuardedLinks.{links-more}
use Rattle.ways.proofs.guards.guard_links.Goals as goal

pub loop-x-preserved : goal.loop-x-preserved
loop-x-preserved c = let l = c.loop-x in
    let a = c.args in
    links-more a.sets.now a.opens.now a.standing.now a.flags.now a.side l.x l.low l.high c.guarded_by-set.result l.invariant c.guarded_by-set.ensures
