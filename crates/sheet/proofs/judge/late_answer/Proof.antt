use borrow.Author.Rules.{rules}
use Rattle.sheet.proofs.read.Answered.{late-atoms, late-contexts, late-links, late-marks, late-clash, late-none}
use Rattle.sheet.proofs.judge.late_answer.Statement.{statement}
use Rattle.sheet.proofs.judge.late_answer.Tie as tie

limits-of-requires : tie.Need-limits_of-limits-requires
limits-of-requires c κs = search rules

returns : tie.Need-returns-then-limits-atoms
returns c = let m = c in
    let a = m.args in
    late-atoms a.kind a.atoms a.contexts a.links a.marks a.clash a.at (rw m.limits_of-limits.ensures at c.if-limits-atoms.true)

returns-2 : tie.Need-returns-then-limits-contexts
returns-2 c = let e1 = c in
    let m = e1 in
    let a = m.args in
    late-contexts a.kind a.atoms a.contexts a.links a.marks a.clash a.at (rw m.limits_of-limits.ensures at e1.if-limits-atoms.false) (rw m.limits_of-limits.ensures at c.if-limits-contexts.true)

returns-3 : tie.Need-returns-then-limits-links
returns-3 c = let e2 = c in
    let e1 = e2 in
    let m = e1 in
    let a = m.args in
    late-links a.kind a.atoms a.contexts a.links a.marks a.clash a.at (rw m.limits_of-limits.ensures at e1.if-limits-atoms.false) (rw m.limits_of-limits.ensures at e2.if-limits-contexts.false) (rw m.limits_of-limits.ensures at c.if-limits-links.true)

returns-4 : tie.Need-returns-then-limits-marks
returns-4 c = let e3 = c in
    let e2 = e3 in
    let e1 = e2 in
    let m = e1 in
    let a = m.args in
    late-marks a.kind a.atoms a.contexts a.links a.marks a.clash a.at (rw m.limits_of-limits.ensures at e1.if-limits-atoms.false) (rw m.limits_of-limits.ensures at e2.if-limits-contexts.false) (rw m.limits_of-limits.ensures at e3.if-limits-links.false) (rw m.limits_of-limits.ensures at c.if-limits-marks.true)

returns-5 : tie.Need-returns-then-clash
returns-5 c = let e4 = c in
    let e3 = e4 in
    let e2 = e3 in
    let e1 = e2 in
    let m = e1 in
    let a = m.args in
    late-clash a.kind a.atoms a.contexts a.links a.marks a.clash a.at (rw m.limits_of-limits.ensures at e1.if-limits-atoms.false) (rw m.limits_of-limits.ensures at e2.if-limits-contexts.false) (rw m.limits_of-limits.ensures at e3.if-limits-links.false) (rw m.limits_of-limits.ensures at e4.if-limits-marks.false) c.if-clash.true

returns-6 : tie.Need-returns
returns-6 c = let e4 = c in
    let e3 = e4 in
    let e2 = e3 in
    let e1 = e2 in
    let m = e1 in
    let a = m.args in
    late-none a.kind a.atoms a.contexts a.links a.marks a.clash a.at (rw m.limits_of-limits.ensures at e1.if-limits-atoms.false) (rw m.limits_of-limits.ensures at e2.if-limits-contexts.false) (rw m.limits_of-limits.ensures at e3.if-limits-links.false) (rw m.limits_of-limits.ensures at e4.if-limits-marks.false) c.if-clash.false

pub late_answer_spec : {M : Type 1} → statement M
late_answer_spec =
    tie.close
    (tie.spec limits-of-requires returns returns-2 returns-3 returns-4 returns-5 returns-6)
