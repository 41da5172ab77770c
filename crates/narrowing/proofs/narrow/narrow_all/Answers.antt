-- First every link by its atoms, then what was lost.
use Rattle.narrowing.proofs.Turns.{narrows_then}
use Rattle.narrowing.proofs.narrow.narrow_all.Goals as goal

pub returns : goal.returns
returns c =
    let w = c.args in
    let f = c.narrow in
    let p = c.spread in
    record {
      narrowed = narrows_then w.kin.now w.laid.now w.n w.parts.now w.m w.atoms.now w.links.now w.atoms.now p.new.links f.new.atoms f.new.links (p.ensures w.kin.now) f.ensures.narrowed;
      empty = f.ensures.empty;
    }
