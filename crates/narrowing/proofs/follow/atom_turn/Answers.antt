-- The links of the atom by where it may go, then the other atoms by it.
use Rattle.narrowing.proofs.Turns.{atom-narrows, alone-narrows, narrows_then}
use Rattle.narrowing.proofs.follow.atom_turn.Goals as goal

pub returns : goal.returns
returns c =
    let w = c.args in
    let f = c.follow_atom in
    let k = f.new.links in
    let b = c.alone.new.atoms in
    λ kin. narrows_then kin w.laid.now w.n w.parts.now w.m w.atoms.now w.links.now w.atoms.now k b k
    (atom-narrows kin w.laid.now w.n w.parts.now w.m w.i c.requires.3 _ c.laid_atom-here.ensures w.atoms.now w.links.now k f.ensures)
    (alone-narrows kin w.laid.now w.n w.parts.now w.m w.i c.requires.3 w.atoms.now k b c.alone.ensures)
