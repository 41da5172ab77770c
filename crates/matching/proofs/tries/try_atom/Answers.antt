-- What goes there stays when the atom is sent and when each candidate is tried by itself.
use Rattle.matching.specs.Search.{sheet_of, figure_of}
use Rattle.matching.proofs.Pruning.{sent-pruned}
use Rattle.matching.proofs.tries.try_atom.Goals as goal

pub returns : goal.returns
returns c = let w = c in
    let a = w.args in
    sent-pruned (sheet_of a.state a.laid.now) (figure_of a.state a.parts.now) a.k a.t a.atoms.now a.links.now w.send.new.atoms w.send.new.links _ _ w.send.result c.try_singly.result w.send.ensures c.try_singly.ensures
