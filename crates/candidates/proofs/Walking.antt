-- A walk over the numbers below n of a set, from each to the next.
use Rattle.std.proofs.Common.{ℕ, ◌<◌, ◌≤◌, Option, None, Some, IfSome}
use Rattle.candidates.specs.Words.{In}
use Rattle.candidates.specs.Forced.{FirstFrom}

-- how far it has come: to the next number, or to the end
abbrev pub reached : ℕ → Option ℕ → ℕ
reached n None = n
reached n (Some t) = t

-- The next number from t on.
module _ (s t n : ℕ) where
  pub next_after : (o : Option ℕ) → FirstFrom s t n o → t ≤ n → t ≤ reached n o
  next_after None f h = h
  next_after (Some r) f h = f.after

  pub next_passed : (o : Option ℕ) → FirstFrom s t n o → (u : ℕ) → t ≤ u → u < reached n o → ¬ In s u
  next_passed None f = f
  next_passed (Some r) f = f.passed

  pub next_below : (o : Option ℕ) → FirstFrom s t n o → IfSome o (λ r. r < n)
  next_below None f = tt
  next_below (Some r) f = f.below
