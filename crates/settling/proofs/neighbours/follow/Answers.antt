use Rattle.settling.proofs.Trying.{tried_then}
use Rattle.settling.proofs.Beyond.{other-within}
use Rattle.settling.proofs.neighbours.follow.Goals as goal

pub returns-in_default : goal.returns-in_default
returns-in_default c =
    let a = c.args in
    let l = c.loop-n in
    let v = c.bar_beyond in
    λ sheet figure to flags w e. tried_then sheet figure a.taken.now to flags a.bars.now l.bars v.new.bars a.x (l.invariant.2 sheet figure to flags w e) (v.ensures.1 sheet figure to flags w e)

pub loop-n-preserved : goal.loop-n-preserved
loop-n-preserved c =
    let a = c.args in
    let p = c.requires.0 in
    let l = c.loop-n in
    let v = c.bar_beyond in (
      c.in-Some.ensures.0,
      other-within p.0 p.1 a.nets a.laid.now a.chains.now a.kinds.now a.used.now p.2 p.3 c.in-Some.z l.atom c.other_on-atom.result l.invariant.1 c.other_on-atom.ensures.1,
      λ sheet figure to flags w e. tried_then sheet figure a.taken.now to flags a.bars.now l.bars v.new.bars a.x (l.invariant.2 sheet figure to flags w e) (v.ensures.1 sheet figure to flags w e),
    )
