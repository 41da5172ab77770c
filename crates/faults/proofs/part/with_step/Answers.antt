-- A member and a link that no figure link goes to lead to the atom.
use Rattle.faults.proofs.Parting.{step-joined}
use Rattle.faults.proofs.part.with_step.Goals as goal

pub returns-then-stands : goal.returns-then-stands
returns-then-stands c = let a = c.args in
    let t = c.stands.ensures c.if-stands.true in
    step-joined a.laid.now a.atoms a.links a.used.now a.members.now a.seen.now _ _ c.requires.1 c.requires.2 c.requires.3 (c.member_on.ensures c.if-member_on.true) a.j t.0 t.1 c.if-used-z-ne1.true
