use Rattle.settling.proofs.Trying.{find-none, find-some, refused-hinders}
use Rattle.settling.proofs.obstacle.obstacle.Goals as goal

pub returns-in_default : goal.returns-in_default
returns-in_default c =
    let a = c.args in
    λ sheet figure o s. find-none sheet figure o.nets-in.ready a.taken.now a.to.now a.flags.now c.requires.1 _ (c.in_default.ensures sheet figure o)

pub returns-then-hopeless : goal.returns-then-hopeless
returns-then-hopeless c =
    let a = c.args in
    λ sheet figure o s. refused-hinders sheet figure o.nets-in.ready a.taken.now a.to.now a.flags.now c.requires.1 c.hopeless.result c.if-hopeless.true (c.hopeless.ensures sheet figure o s) _

pub returns : goal.returns
returns c =
    let a = c.args in
    λ sheet figure o s. find-some sheet figure o.nets-in.ready a.taken.now a.to.now a.flags.now c.requires.1 c.in-Err.links (c.in-Err.ensures sheet figure o)
