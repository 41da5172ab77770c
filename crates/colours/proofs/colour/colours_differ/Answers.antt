use Rattle.std.proofs.Common.{refl}
use Rattle.network.proofs.NetIn.{atoms-length}
use Rattle.candidates.specs.Frames.{whole}
use Rattle.colours.proofs.Coloured.{without-contexts, kept-first, kept_next, sums-differ, colours-keep}
use Rattle.colours.proofs.colour.colours_differ.Goals as goal

pub loop-rounds-init : goal.loop-rounds-init
loop-rounds-init c = let sheet = whole c.args.sheet c.args.laid.now in
    let figure = whole c.args.figure c.args.parts.now in
    let m = without-contexts sheet c.requires.0.normal c.requires.4 in
    let n = without-contexts figure c.requires.1.normal c.requires.5 in
    let u = c.first_colours.ensures in
    let v = c.first_colours-2.ensures in
    (u.0, u.1, v.0, v.1, kept-first sheet figure m n u.2.0 v.2.0 u.2.1 v.2.1 c.first_colours.new.atoms c.first_colours.new.links c.first_colours-2.new.atoms c.first_colours-2.new.links u.2.2 v.2.2)

pub returns-then-sum-total-clause-apart : goal.returns-then-sum-total-clause-apart
returns-then-sum-total-clause-apart c = let sheet = whole c.args.sheet c.args.laid.now in
    let figure = whole c.args.figure c.args.parts.now in
    let m = without-contexts sheet c.requires.0.normal c.requires.4 in
    let n = without-contexts figure c.requires.1.normal c.requires.5 in
    let r = c.loop-rounds in
    λ e. sums-differ sheet figure m n r.sheet_atoms r.sheet_links r.figure_atoms r.figure_links r.invariant.4 _ _ _ _ c.total-sum.result c.total.result
    (atoms-length sheet c.requires.0.fit) refl (atoms-length figure c.requires.1.fit) refl c.total-sum.ensures c.total.ensures c.if-sum-total.true

pub loop-rounds-preserved : goal.loop-rounds-preserved
loop-rounds-preserved c = let sheet = whole c.args.sheet c.args.laid.now in
    let figure = whole c.args.figure c.args.parts.now in
    let m = without-contexts sheet c.requires.0.normal c.requires.4 in
    let n = without-contexts figure c.requires.1.normal c.requires.5 in
    let r = c.loop-rounds in
    let u = c.refine.ensures in
    let v = c.refine-in-loop-rounds.ensures in
    (u.0, u.1, v.0, v.1, kept_next sheet figure m n r.sheet_atoms r.sheet_links r.figure_atoms r.figure_links c.refine.new.atoms c.refine.new.links c.refine-in-loop-rounds.new.atoms c.refine-in-loop-rounds.new.links r.invariant.4 (u.2 sheet c.requires.0 refl) (v.2 figure c.requires.1 refl))

pub returns-then-last-total-clause-apart : goal.returns-then-last-total-clause-apart
returns-then-last-total-clause-apart c = let sheet = whole c.args.sheet c.args.laid.now in
    let figure = whole c.args.figure c.args.parts.now in
    let m = without-contexts sheet c.requires.0.normal c.requires.4 in
    let n = without-contexts figure c.requires.1.normal c.requires.5 in
    let r = c.loop-rounds in
    λ e. sums-differ sheet figure m n r.sheet_atoms r.sheet_links r.figure_atoms r.figure_links r.invariant.4 _ _ _ _ c.total-last.result c.total-2.result
    (atoms-length sheet c.requires.0.fit) refl (atoms-length figure c.requires.1.fit) refl c.total-last.ensures c.total-2.ensures c.if-last-total.true

pub returns-clause-keeps : goal.returns-clause-keeps
returns-clause-keeps c = let sheet = whole c.args.sheet c.args.laid.now in
    let figure = whole c.args.figure c.args.parts.now in
    let m = without-contexts sheet c.requires.0.normal c.requires.4 in
    let n = without-contexts figure c.requires.1.normal c.requires.5 in
    let r = c.loop-rounds in
    λ e. colours-keep sheet figure m n r.sheet_atoms r.sheet_links r.figure_atoms r.figure_links r.invariant.4 c.requires.0.fit c.requires.1.fit c.atom_sets.new.atoms c.link_sets.new.links c.atom_sets.ensures c.link_sets.ensures
