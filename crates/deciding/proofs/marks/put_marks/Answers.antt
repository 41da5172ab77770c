use mathlib.Core.Path.{refl}
use Rattle.placing.proofs.FirstLaws.{both_ways}
use Rattle.deciding.proofs.Sets.{below_or}
use Rattle.deciding.proofs.MarkLaws.{said-missing, said-clash, said-mark}
use Rattle.deciding.proofs.marks.put_marks.Goals as goal

pub returns-then-j-n : goal.returns-then-j-n
returns-then-j-n c =
    let a = c.args in
    λ sheet figure os of atoms w t u. record { passed = λ g. both_ways g refl; refused = λ g. said-missing a.marks.now a.marked.now a.n a.figure_marks.now a.figure_marked.now a.m sheet figure os of atoms c.loop-i.i c.loop-i-test.true (c.place_of-j.ensures.missing c.if-j-n.true) }

pub returns-then-not-enter : goal.returns-then-not-enter
returns-then-not-enter c =
    let a = c.args in
    let l = c.loop-i in
    let p = c.place_of-j in
    let h = below_or _ _ p.ensures.within c.if-j-n.false in
    let e = c.enter.ensures.clash c.if-not-enter.true in
    λ sheet figure os of atoms w t u. record { passed = λ g. both_ways g refl; refused = λ g. said-clash a.marks.now a.marked.now a.n a.figure_marks.now a.figure_marked.now a.m sheet figure os of atoms l.i p.result c.loop-i-test.true h (p.ensures.found h) l.to (l.invariant sheet figure os of atoms w t u).told e }

pub loop-i-preserved : goal.loop-i-preserved
loop-i-preserved c =
    let a = c.args in
    let l = c.loop-i in
    let p = c.place_of-j in
    let h = below_or _ _ p.ensures.within c.if-j-n.false in
    said-mark a.marks.now a.marked.now a.n a.figure_marks.now a.figure_marked.now a.m a.to.now l.i p.result c.loop-i-test.true h (p.ensures.found h) l.to l.invariant _ (c.enter.ensures.done c.if-not-enter.false)
