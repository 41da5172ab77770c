-- A digit of one of the two words.
use Rattle.std.proofs.Common.{◌/◌, ◌%◌, get_or, ◌∙◌}
use Rattle.candidates.specs.Words.{word_digits}
use Rattle.candidates.proofs.Digits.{shifted_one}
use Rattle.ways.proofs.guards.flag_of.Goals as goal

pub returns : goal.returns
returns c = λ i. shifted_one (get_or c.args.pair (c.args.y / word_digits) 0) (c.args.y % word_digits) ∙ i
