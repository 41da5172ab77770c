-- What the atoms left give stays, and so does what is not missing.
use Rattle.candidates.proofs.Halves.{in-common, in-fewer-pair}
use Rattle.narrowing.proofs.given.links_left.Goals as goal

pub returns-then-row-gone : goal.returns-then-row-gone
returns-then-row-gone c = λ y h p g. in-common _ _ _ y h c.common.ensures p (c.given.ensures y h g)

pub returns : goal.returns
returns c =
    let u = c.requires.2 in
    λ y h p g. let b = g.1 in
    in-fewer-pair _ _ _ y h c.without.ensures p (λ q. c.missing.ensures y h q g.0 b.may (u.has g.0 _ y b.sheet-atom b.place b.there))
