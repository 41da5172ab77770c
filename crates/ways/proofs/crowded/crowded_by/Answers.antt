-- No placing that stays in the sets agrees with the tables.
use Rattle.ways.proofs.Crowding.{node-described, none_stays, none-stays-shut}
use Rattle.ways.proofs.crowded.crowded_by.Goals as goal

pub returns-then-outnumbered_by : goal.returns-then-outnumbered_by
returns-then-outnumbered_by c = let a = c.args in
    λ sheet figure n e. none_stays sheet figure a.atoms a.links a.count a.laid.now a.chains.now a.rows a.parts.now a.standing.now a.marked.now a.marks n a.places.now a.sets.now a.to.now a.flags.now a.opens.now _ c.guard_links-guarded.result a.side c.guard_rows-breaking.result c.requires.3 c.guard_rows-breaking.ensures.1 c.guard_links-guarded.ensures _
    (c.outnumbered_by.ensures sheet figure (node-described sheet figure a.atoms a.links a.count a.laid.now a.chains.now a.rows a.parts.now a.standing.now a.marked.now a.marks n a.sets.now a.to.now a.flags.now a.opens.now c.requires.3) n.sheet-out) c.if-outnumbered_by.true

pub returns : goal.returns
returns c = let a = c.args in
    λ sheet figure n. none-stays-shut sheet figure a.atoms a.links a.count a.laid.now a.chains.now a.rows a.parts.now a.standing.now a.marked.now a.marks n a.places.now a.sets.now a.to.now a.flags.now a.opens.now _ _ c.guard_links-guarded.result a.side c.guard_rows-breaking.result c.requires.3 c.guard_rows-breaking.ensures.1 c.guard_links-guarded.ensures c.shut.ensures _
    (c.outnumbered_by-2.ensures sheet figure (node-described sheet figure a.atoms a.links a.count a.laid.now a.chains.now a.rows a.parts.now a.standing.now a.marked.now a.marks n a.sets.now a.to.now a.flags.now a.opens.now c.requires.3) n.sheet-out)
