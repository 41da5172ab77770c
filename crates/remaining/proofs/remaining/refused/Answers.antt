-- `remaining::refused` meets its contract. Assumes nothing.
use mathlib.Core.Path.{refl}
use mathlib.Core.Bool.{true}
use Rattle.remaining.proofs.KeptLaws.{kept-start, kept-settled, kept-round, kept-end, torn-end}
use Rattle.remaining.proofs.remaining.refused.Goals as goal

pub returns-then-settled_cuts : goal.returns-then-settled_cuts
returns-then-settled_cuts c = let s = c in
    let a = s.args in
    let d = s.requires.2 in
    λ sheet figure w. torn-end sheet figure a.atoms a.links a.count a.chains.now a.standing.now a.to.now w a.taken.now a.flags.now true (c.settled_cuts.ensures.1 c.if-settled_cuts.true)

pub returns : goal.returns
returns c = let s = c in
    let a = s.args in
    let d = s.requires.2 in
    λ sheet figure w. kept-end sheet figure a.atoms a.links a.count a.chains.now a.standing.now a.to.now w a.taken.now a.flags.now c.round.new.words c.some_empty.result c.some_empty.ensures
    (kept-round sheet figure a.atoms a.links a.count a.chains.now a.standing.now a.to.now w a.taken.now a.flags.now c.closures.new.table c.used_links-used.result c.settled_cuts.new.words c.round.new.words c.closures.ensures c.used_links-used.ensures c.round.ensures.1
    (kept-settled sheet figure a.atoms a.links a.count a.chains.now a.standing.now a.to.now w a.taken.now a.flags.now _ c.settled_cuts.new.words c.settled_cuts.ensures.2 (kept-start sheet figure a.atoms a.links a.count a.chains.now a.standing.now a.to.now w a.taken.now a.flags.now _ refl)))
