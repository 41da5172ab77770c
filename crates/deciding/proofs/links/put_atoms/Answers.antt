use mathlib.Core.Path.{refl}
use Rattle.placing.proofs.FirstLaws.{both_ways}
use Rattle.deciding.proofs.LaidTelling.{laid-name, laid-count, laid-clash, said-next}
use Rattle.deciding.proofs.links.put_atoms.Goals as goal

pub returns-then-a-b : goal.returns-then-a-b
returns-then-a-b c =
    let a = c.args in
    let l = c.loop-i in
    let h = c.loop-i-test.true in
    let u = c.laid_atom-a in
    let v = c.laid_atom-b in
    λ sheet figure os of w t. record { passed = λ g. both_ways g refl; refused = λ g. laid-name a.laid.now a.parts.now a.m a.atoms_to.now l.i h u.result v.result u.ensures v.ensures sheet figure os of w c.if-a-b.true }

pub returns-then-a-b-2 : goal.returns-then-a-b-2
returns-then-a-b-2 c =
    let a = c.args in
    let l = c.loop-i in
    let h = c.loop-i-test.true in
    let u = c.laid_atom-a in
    let v = c.laid_atom-b in
    λ sheet figure os of w t. record { passed = λ g. both_ways g refl; refused = λ g. laid-count a.laid.now a.parts.now a.m a.atoms_to.now l.i h u.result v.result u.ensures v.ensures sheet figure os of w c.if-a-b-2.true }

pub returns-then-not-put_places : goal.returns-then-not-put_places
returns-then-not-put_places c =
    let a = c.args in
    let l = c.loop-i in
    let h = c.loop-i-test.true in
    let u = c.laid_atom-a in
    let v = c.laid_atom-b in
    let f = c.if-not-put_places.true in
    λ sheet figure os of w t. record { passed = λ g. both_ways g refl; refused = λ g. laid-clash a.laid.now a.parts.now a.m a.atoms_to.now l.i h u.result v.result u.ensures v.ensures sheet figure os of w c.if-a-b-2.false l.to (l.invariant.1 sheet figure os of w t).0 (c.put_places.ensures.clash f) }

pub loop-i-preserved : goal.loop-i-preserved
loop-i-preserved c =
    let a = c.args in
    let l = c.loop-i in
    let h = c.loop-i-test.true in
    let u = c.laid_atom-a in
    let v = c.laid_atom-b in
    let p = c.put_places.ensures.done c.if-not-put_places.false in
    (p.room, said-next a.laid.now a.parts.now a.m a.atoms_to.now l.i h u.result v.result u.ensures v.ensures a.to.now l.to _ c.if-a-b.false c.if-a-b-2.false p l.invariant.1)
