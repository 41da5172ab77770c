-- Nothing good goes where the try dies, so the atom may lose it; then the sets are narrowed.
use mathlib.Core.Path.{◌∙◌, ap}
use lib.ListN.{get_or, set}
use Rattle.candidates.specs.Words.{fewer}
use Rattle.matching.specs.Search.{sheet_of, figure_of}
use Rattle.matching.proofs.Pruning.{pruned-after, lost-narrowed, narrow-pruned}
use Rattle.matching.proofs.singly.try_candidate.Goals as goal

pub returns : goal.returns
returns c =
    let a = c.args in
    let sheet = sheet_of a.state a.laid.now in
    let figure = figure_of a.state a.parts.now in
    let p = c.requires.0 in
    let less = set a.atoms.now a.k c.minus.result in
    let w = c.narrow_after in
    pruned-after sheet figure a.atoms.now a.links.now less a.links.now _ _ w.result
    (lost-narrowed sheet figure a.k a.t a.atoms.now a.links.now less
    (ap (set a.atoms.now a.k) (c.minus.ensures ∙ ap (fewer (get_or a.atoms.now a.k 0)) c.one.ensures))
    (c.dies.ensures c.if-not-dies.false))
    (narrow-pruned sheet figure a.laid.now _ a.parts.now _ p.sheet-laid p.figure-laid a.kin.now p.labels less a.links.now _ _ w.result w.ensures.narrowed w.ensures.empty)
