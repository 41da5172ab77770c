use Rattle.candidates.specs.Frames.{whole}
use Rattle.candidates.proofs.Framing.{whole-contexts}
use Rattle.candidates.proofs.PortRows.{ports-of}
use Rattle.matching.proofs.begin.kin_in.Goals as goal

pub kin_of-requires : goal.kin_of-requires
kin_of-requires c =
    let fit = c.requires.fit in
    (ports-of (whole-contexts c.args.figure c.args.parts.now fit), fit.atom-count)

pub returns : goal.returns
returns c =
    c.kin_of.ensures (whole c.args.figure c.args.parts.now) (whole-contexts c.args.figure c.args.parts.now c.requires.fit)
