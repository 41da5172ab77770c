-- Reaching by steps of a relation between numbers.
use Rattle.std.specs.Prelude.{ℕ}

pub data Reach (R : ℕ → ℕ → Type 0) : ℕ → ℕ → Type 0 where
  stay : {x : ℕ} → Reach R x x
  move : {x y z : ℕ} → R x y → Reach R y z → Reach R x z
