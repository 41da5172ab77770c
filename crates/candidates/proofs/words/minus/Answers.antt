-- What is common to both is taken from a.
use mathlib.Core.Path.{refl}
use Rattle.candidates.specs.Words.{fewer}
use Rattle.candidates.proofs.words.minus.Goals as goal

pub returns : goal.returns
unfolding fewer
returns c = refl
