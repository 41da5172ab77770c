-- The digits below the first that is 1 are 0.
use native.Mathlib.Omega.{arith}
use Rattle.candidates.proofs.NextDigit.{nothing_left, next-digit}
use Rattle.candidates.proofs.forced.first_from.Goals as goal

pub returns-then-rest-eq0 : goal.returns-then-rest-eq0
returns-then-rest-eq0 c = λ u h l. nothing_left c.args.s c.args.t c.if-rest-eq0.true u h

pub returns : goal.returns
returns c = next-digit c.args.s c.args.t c.ranges.s.fits (omega (arith, c.if-rest-eq0.false))
