use mathlib.Core.Path.{refl}
use Rattle.candidates.specs.Frames.{whole}
use Rattle.candidates.proofs.Laying.{laid-rowed}
use Rattle.candidates.proofs.Marks.{own-marks}
use Rattle.deciding.proofs.Telling.{told-start}
use Rattle.deciding.proofs.MarkLaws.{back-missing}
use Rattle.deciding.proofs.decided.links_of.Goals as goal

pub put_atoms-requires : goal.put_atoms-requires
put_atoms-requires c =
    let a = c.args in
    let p = c.requires in
    let sheet = whole a.sheet a.laid.now in
    let figure = whole a.figure a.parts.now in
    ((a.sheet.atom_count, laid-rowed sheet a.laid.now _ p.2, p.1.within), laid-rowed figure a.parts.now _ p.3, (told-start sheet figure a.atoms_to _ refl).room)

pub returns-then-not-put_atoms : goal.returns-then-not-put_atoms
returns-then-not-put_atoms c =
    let a = c.args in
    let p = c.requires in
    let sheet = whole a.sheet a.laid.now in
    let figure = whole a.figure a.parts.now in
    (c.put_atoms.ensures sheet figure p.2 p.3 p.1 (told-start sheet figure a.atoms_to _ refl)).refused c.if-not-put_atoms.true

pub returns-then-not-marks_back : goal.returns-then-not-marks_back
returns-then-not-marks_back c =
    let a = c.args in
    let p = c.requires in
    let m = c.marks_back.ensures.refused c.if-not-marks_back.true in
    back-missing (whole a.sheet a.laid.now) (whole a.figure a.parts.now) p.0 a.atoms_to m.0 m.1 m.2

pub returns-then-not-put_marks : goal.returns-then-not-put_marks
returns-then-not-put_marks c =
    let a = c.args in
    let p = c.requires in
    let r = p.0 in
    let sheet = whole a.sheet a.laid.now in
    let figure = whole a.figure a.parts.now in
    let q = (c.put_atoms.ensures sheet figure p.2 p.3 p.1 (told-start sheet figure a.atoms_to _ refl)).passed c.if-not-put_atoms.false in
    (c.put_marks.ensures sheet figure (own-marks sheet r.sheet-fit r.sheet-normal) (own-marks figure r.figure-fit r.figure-normal) a.atoms_to p.1 q.0 q.1).refused c.if-not-put_marks.true

pub returns : goal.returns
returns c =
    let a = c.args in
    let p = c.requires in
    let r = p.0 in
    let sheet = whole a.sheet a.laid.now in
    let figure = whole a.figure a.parts.now in
    let q = (c.put_atoms.ensures sheet figure p.2 p.3 p.1 (told-start sheet figure a.atoms_to _ refl)).passed c.if-not-put_atoms.false in
    let n = (c.put_marks.ensures sheet figure (own-marks sheet r.sheet-fit r.sheet-normal) (own-marks figure r.figure-fit r.figure-normal) a.atoms_to p.1 q.0 q.1).passed c.if-not-put_marks.false in
    record { told = n.0; atoms-agree = n.1; marks-agree = n.2; marks-back = c.marks_back.ensures.passed c.if-not-marks_back.false }
