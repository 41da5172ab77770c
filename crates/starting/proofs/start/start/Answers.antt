-- Each step keeps what a good placing needs.
use Rattle.candidates.specs.Frames.{whole}
use Rattle.candidates.proofs.PortRows.{ports-of}
use Rattle.candidates.proofs.Framing.{whole-contexts}
use Rattle.candidates.proofs.Laying.{laid-rowed}
use Rattle.candidates.proofs.Marks.{own-marks, mark-links}
use Rattle.starting.proofs.Tallies.{tally-none}
use Rattle.starting.proofs.Ports.{ports-all}
use Rattle.starting.proofs.Starting.{start-keeps, alike-laid, enough-counted}
use Rattle.starting.proofs.start.start.Goals as goal

pub closed_links-requires : goal.closed_links-requires
closed_links-requires c = (_, ports-of (whole-contexts c.args.figure c.args.parts.now c.requires.1.fit))

pub place_counts-requires : goal.place_counts-requires
place_counts-requires c = (laid-rowed (whole c.args.figure c.args.parts.now) c.args.parts.now _ c.requires.1, tally-none)

pub place_counts-requires-2 : goal.place_counts-requires-2
place_counts-requires-2 c = (laid-rowed (whole c.args.sheet c.args.laid.now) c.args.laid.now _ c.requires.0, tally-none)

pub start_marks-requires : goal.start_marks-requires
start_marks-requires c = let sheet = whole c.args.sheet c.args.laid.now in
    let figure = whole c.args.figure c.args.parts.now in
    (mark-links sheet _ _ _ (own-marks sheet c.requires.0.fit c.requires.0.normal), mark-links figure _ _ _ (own-marks figure c.requires.1.fit c.requires.1.normal))

pub start_closed-requires : goal.start_closed-requires
start_closed-requires c = let sheet = whole c.args.sheet c.args.laid.now in
    let figure = whole c.args.figure c.args.parts.now in
    (mark-links sheet _ _ _ (own-marks sheet c.requires.0.fit c.requires.0.normal), mark-links figure _ _ _ (own-marks figure c.requires.1.fit c.requires.1.normal), c.requires.1.fit.class-count)

pub returns : goal.returns
returns c = let sheet = whole c.args.sheet c.args.laid.now in
    let figure = whole c.args.figure c.args.parts.now in
    let os = c.requires.0 in
    let of = c.requires.1 in
    let sheet-marks = own-marks sheet os.fit os.normal in
    let figure-marks = own-marks figure of.fit of.normal in
    let closed = c.closed_links.new.closed in
    let a = c.start_atoms.new.atoms in
    let l = c.start_places.new.links in
    start-keeps sheet figure os.fit of.fit os.normal of.normal a l c.start_marks.new.links c.start_closed.new.links closed (ports-all (whole-contexts c.args.figure c.args.parts.now of.fit) closed c.closed_links.ensures)
    (alike-laid sheet figure c.args.laid.now _ c.args.parts.now _ os of a c.start_atoms.ensures)
    (enough-counted sheet figure os.fit of.fit closed c.place_counts.new.counts c.place_counts-2.new.counts (c.place_counts.ensures figure of) (c.place_counts-2.ensures sheet os) l c.start_places.ensures)
    (c.start_marks.ensures sheet figure sheet-marks figure-marks) (c.start_closed.ensures sheet figure sheet-marks figure-marks)
