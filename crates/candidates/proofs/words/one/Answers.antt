-- A power of two.
use Rattle.candidates.proofs.Digits.{shifted}
use Rattle.candidates.proofs.words.one.Goals as goal

pub returns : goal.returns
returns c = shifted c.args.t c.requires
