use Rattle.candidates.specs.Frames.{whole}
use Rattle.candidates.proofs.Framing.{whole-contexts}
use Rattle.settling.proofs.Trying.{nets-of}
use Rattle.settling.proofs.Starting.{twice-none, links-in}
use Rattle.settling.proofs.Whole.{complete-none, complete-least}
use Rattle.settling.proofs.complete.complete.Goals as goal

pub returns-in_err-taken : goal.returns-in_err-taken
returns-in_err-taken c =
    let a = c.args in
    let p = c.requires in
    let sheet = whole a.sheet a.laid.now in
    let figure = whole a.figure a.parts.now in
    rw c.from_residual.ensures (complete-none sheet figure p.0 a.atoms_to p.1 (twice-none sheet figure p.0 a.atoms_to p.1 c.in_err-taken.ensures))

pub returns-in_err-told : goal.returns-in_err-told
returns-in_err-told c =
    let a = c.args in
    let p = c.requires in
    rw c.from_residual-in_err-told.ensures (complete-none (whole a.sheet a.laid.now) (whole a.figure a.parts.now) p.0 a.atoms_to p.1 c.in_err-told.ensures)

pub least-requires : goal.least-requires
least-requires c =
    let a = c.args in
    let p = c.requires in
    let sheet = whole a.sheet a.laid.now in
    let figure = whole a.figure a.parts.now in
    let t = c.in_ok-taken in
    let l = c.in_ok-told in
    let o = c.open_links-opened in
    ((sheet, figure, nets-of sheet figure p.0 a.laid.now p.2 a.figure.contexts (whole-contexts a.figure a.parts.now p.0.figure-fit), links-in sheet figure p.0 a.atoms_to p.1 l.told l.ensures o.result.to o.result.flags o.ensures t.taken t.ensures), o.ensures.flags-room)

pub returns : goal.returns
returns c =
    let a = c.args in
    let p = c.requires in
    let sheet = whole a.sheet a.laid.now in
    let figure = whole a.figure a.parts.now in
    let t = c.in_ok-taken in
    let l = c.in_ok-told in
    let o = c.open_links-opened in
    complete-least sheet figure p.0 a.atoms_to p.1 l.told l.ensures o.result.to o.result.flags o.ensures t.taken t.ensures c.least.result
    (c.least.ensures sheet figure (nets-of sheet figure p.0 a.laid.now p.2 a.figure.contexts (whole-contexts a.figure a.parts.now p.0.figure-fit)) (links-in sheet figure p.0 a.atoms_to p.1 l.told l.ensures o.result.to o.result.flags o.ensures t.taken t.ensures))
