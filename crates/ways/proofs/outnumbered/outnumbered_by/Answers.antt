-- The ways are more than the links across and the atoms that break ways.
use Rattle.std.proofs.Common.{ltb-true}
use Rattle.ways.proofs.Refusing.{ways-none-agree}
use Rattle.ways.proofs.outnumbered.outnumbered_by.Goals as goal

pub returns : goal.returns
returns c = let a = c.args in
    λ sheet figure d out e. ways-none-agree sheet figure a.atoms a.links a.count a.chains.now a.standing.now a.to.now d a.side a.laid.now a.taken.now a.flags.now a.guarded c.spread-guards.result c.sorted-table.result c.crossing.result c.ways.result a.breaking out c.sorted-table.ensures c.crossing.ensures.1 c.spread-guards.ensures c.ways.ensures (ltb-true _ _ e) _ e
