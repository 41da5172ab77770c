-- The first sets keep every good placing, and so does narrowing.
use mathlib.Core.List.{[]}
use Rattle.candidates.specs.Frames.{whole}
use Rattle.candidates.proofs.Hopeless.{lost-hopeless}
use Rattle.candidates.proofs.Marks.{own-marks}
use Rattle.matching.proofs.Pruning.{pruned-kept, narrow-pruned}
use Rattle.matching.proofs.begin.begin.Goals as goal

pub returns-then-mark_lost : goal.returns-then-mark_lost
returns-then-mark_lost c =
    let sheet = whole c.args.sheet c.args.laid.now in
    let figure = whole c.args.figure c.args.parts.now in
    let r = c.requires.0 in
    let keeps = c.first_sets.ensures.keeps c.if-first_sets.false in
    λ rows. record { keeps = keeps; none = λ z. lost-hopeless sheet figure r.sheet-fit r.figure-fit r.sheet-normal r.figure-normal [] c.first_sets.new.atoms c.first_sets.new.links keeps _ _ _ (own-marks figure r.figure-fit r.figure-normal) (c.mark_lost.ensures.0 c.if-mark_lost.true) }

pub returns : goal.returns
returns c =
    let sheet = whole c.args.sheet c.args.laid.now in
    let figure = whole c.args.figure c.args.parts.now in
    let f = c.first_sets in
    let w = c.narrow_all in
    λ rows. pruned-kept sheet figure [] f.new.atoms f.new.links _ _ w.result (f.ensures.keeps c.if-first_sets.false)
    (narrow-pruned sheet figure c.args.laid.now _ c.args.parts.now _ c.requires.1 c.requires.2 c.args.kin.now rows f.new.atoms f.new.links _ _ w.result w.ensures.narrowed w.ensures.empty)
