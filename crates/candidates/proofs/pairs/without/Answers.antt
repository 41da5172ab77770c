use Prim.Native.Nat.{ℕ}
use mathlib.Core.Path.{ap₂}
use mathlib.Core.List.{[], ◌∷◌}
use Rattle.candidates.specs.Words.{fewer_pair}
use Rattle.candidates.proofs.pairs.without.Goals as goal

pub returns : goal.returns
unfolding fewer_pair
returns c = ap₂ (λ (p q : ℕ). p ∷ q ∷ []) c.minus.ensures c.minus-2.ensures
