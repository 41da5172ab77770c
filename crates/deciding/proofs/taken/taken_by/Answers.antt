use mathlib.Core.Path.{refl}
use Rattle.deciding.proofs.FlagLaws.{different-start}
use Rattle.deciding.proofs.taken.taken_by.Goals as goal

pub loop-i-init : goal.loop-i-init
loop-i-init c = different-start _ _ refl
