use Rattle.candidates.proofs.Halves.{with-low, with-high}
use Rattle.candidates.proofs.pairs.with.Goals as goal

pub returns-then-y-lt-DIGITS : goal.returns-then-y-lt-DIGITS
returns-then-y-lt-DIGITS c = let o = c.one-bit in
    let s = c in
    with-low s.args.pair s.args.y o.result o.ensures s.requires c.if-y-lt-DIGITS.true

pub returns : goal.returns
returns c = let o = c.one-bit in
    let s = c in
    with-high s.args.pair s.args.y o.result o.ensures s.requires c.if-y-lt-DIGITS.false
