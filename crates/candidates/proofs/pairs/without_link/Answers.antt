use Rattle.candidates.proofs.Halves.{without-low, without-high}
use Rattle.candidates.proofs.pairs.without_link.Goals as goal

pub returns-then-y-lt-DIGITS : goal.returns-then-y-lt-DIGITS
returns-then-y-lt-DIGITS c = let o = c.one-bit in
    let s = c in
    without-low s.args.pair s.args.y o.result o.ensures s.requires c.minus.result c.minus.ensures c.if-y-lt-DIGITS.true

pub returns : goal.returns
returns c = let o = c.one-bit in
    let s = c in
    without-high s.args.pair s.args.y o.result o.ensures s.requires c.minus-2.result c.minus-2.ensures c.if-y-lt-DIGITS.false
