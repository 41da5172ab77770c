-- What goes there stays when the atom is sent and when the sets are narrowed; an empty set, or ways, leave nothing.
use mathlib.Core.Path.{refl}
use Rattle.placing.proofs.FirstLaws.{both_ways}
use Rattle.matching.specs.Search.{sheet_of, figure_of}
use Rattle.matching.proofs.Pruning.{sent-pruned, sent-narrowed, stays-none}
use Rattle.matching.proofs.send.send.Goals as goal

pub returns-then-narrow_after : goal.returns-then-narrow_after
returns-then-narrow_after c =
    let a = c.args in
    let p = c.requires.0 in
    let w = c.narrow_after in
    let s = sent-narrowed (sheet_of a.state a.laid.now) (figure_of a.state a.parts.now) a.laid.now _ a.parts.now _ p.sheet-laid p.figure-laid a.kin.now p.labels a.k a.t a.atoms.now a.links.now _ _ _ w.result c.choose-went.ensures.left w.ensures.narrowed w.ensures.empty in
    record { stays = s.stays; none = λ z. s.none c.if-narrow_after.true }

pub returns-then-not-asks : goal.returns-then-not-asks
returns-then-not-asks c =
    let a = c.args in
    let p = c.requires.0 in
    let w = c.narrow_after in
    let s = sent-narrowed (sheet_of a.state a.laid.now) (figure_of a.state a.parts.now) a.laid.now _ a.parts.now _ p.sheet-laid p.figure-laid a.kin.now p.labels a.k a.t a.atoms.now a.links.now _ _ _ w.result c.choose-went.ensures.left w.ensures.narrowed w.ensures.empty in
    record { stays = s.stays; none = λ z. both_ways z refl }

pub returns : goal.returns
returns c =
    let a = c.args in
    let sheet = sheet_of a.state a.laid.now in
    let figure = figure_of a.state a.parts.now in
    let p = c.requires.0 in
    let w = c.narrow_after in
    sent-pruned sheet figure a.k a.t a.atoms.now a.links.now w.new.atoms w.new.links _ _ _ _
    (sent-narrowed sheet figure a.laid.now _ a.parts.now _ p.sheet-laid p.figure-laid a.kin.now p.labels a.k a.t a.atoms.now a.links.now _ _ _ w.result c.choose-went.ensures.left w.ensures.narrowed w.ensures.empty)
    (stays-none sheet figure w.new.atoms w.new.links _ c.crowded_at.ensures)
