-- Invariant: a link that the set gives is in the pair, or what is left of the set gives it.
use Prim.Native.Nat.{ℕ, ◌<◌}
use mathlib.Core.Logic.{◌⊎◌}
use Rattle.rows.specs.Limits.{sheet_link_limit}
use Rattle.candidates.specs.Laid.{laid_atom}
use Rattle.candidates.specs.Words.{InPair}
use Rattle.narrowing.specs.Steps.{Given}
use Rattle.narrowing.proofs.given.given.Given as goal

abbrev pub invariant-loop-rest : goal.invariant-loop-rest
invariant-loop-rest l = (y : ℕ) → y < sheet_link_limit → Given (laid_atom l.laid) l.n l.row l.k y → InPair l.pair y ⊎ Given (laid_atom l.laid) l.n l.rest l.k y

abbrev pub decreases-loop-rest : goal.decreases-loop-rest
decreases-loop-rest l = l.rest
