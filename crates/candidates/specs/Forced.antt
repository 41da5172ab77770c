-- The sheet atoms that a figure atom may go to: the first of them, and the only one. All are counted from 0.
use Rattle.std.specs.Prelude.{ℕ, ◌≤◌, ◌<◌, ◌≡◌, List, Option, None, Some}
use Rattle.candidates.specs.Words.{word_digits, In}
use Rattle.candidates.specs.Tables.{AtomIn}

-- r is the first number from t on and below n that is in the set
pub record FirstAt (s t n r : ℕ) : Type 0 where
  pub after : t ≤ r
  pub below : r < n
  pub within : r < word_digits
  pub passed : (u : ℕ) → t ≤ u → u < r → ¬ In s u
  pub there : In s r

-- so is what there is, and where there is nothing, no number from t on and below n is in the set
abbrev pub FirstFrom : (s t n : ℕ) → Option ℕ → Type 0
FirstFrom s t n None = (u : ℕ) → t ≤ u → u < n → ¬ In s u
FirstFrom s t n (Some r) = FirstAt s t n r

-- sheet atom t, of the first n, is the only one that figure atom k may go to
abbrev pub Only : List ℕ → ℕ → ℕ → ℕ → Type 0
Only atoms k n t = (t < n) × AtomIn atoms k t × ((u : ℕ) → AtomIn atoms k u → u ≡ t)
