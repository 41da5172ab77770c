use mathlib.Core.Path.{refl}
use Rattle.candidates.specs.Words.{empty_pair}
use Rattle.candidates.proofs.pairs.is_empty.Goals as goal

pub returns : goal.returns
unfolding empty_pair
returns c = refl
