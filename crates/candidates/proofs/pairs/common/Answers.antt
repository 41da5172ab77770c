use mathlib.Core.Path.{refl}
use Rattle.candidates.specs.Words.{common_pair}
use Rattle.candidates.proofs.pairs.common.Goals as goal

pub returns : goal.returns
unfolding common_pair
returns c = refl
