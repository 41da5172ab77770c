-- The count of trailing zeros is the place of the first digit that is 1.
use mathlib.Core.Path.{refl}
use Rattle.candidates.specs.Words.{word_digits, first_in}
use Rattle.candidates.proofs.Digits.{first-in}
use Rattle.candidates.proofs.words.first.Goals as goal

pub returns : goal.returns
unfolding first_in
returns c = let f = first-in word_digits c.args.s c.requires c.ranges.s.fits in (f.0, f.1, refl)
