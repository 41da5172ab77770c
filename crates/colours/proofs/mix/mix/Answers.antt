use Rattle.std.proofs.Common.{refl, arith}
use lib.Bits.{xor_lt}
use Rattle.colours.specs.Mixed.{scattered, mixed}
use Rattle.colours.proofs.mix.mix.Goals as goal

pub overflow_mul-result-2 : goal.overflow_mul-result-2
overflow_mul-result-2 c = omega (arith, xor_lt 64 c.args.a c.args.b c.ranges.a.fits c.ranges.b.fits)

pub returns : goal.returns
unfolding mixed scattered
returns c = refl
