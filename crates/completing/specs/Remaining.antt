-- Sets of contexts in which the context of an other atom lies, wherever the open links go.
use Rattle.std.specs.Prelude.{ℕ}
use Rattle.placing.specs.Net.{Net}
use Rattle.completing.specs.Known.{Stands}

-- A union of classes at y: a figure link that may go there has all its contexts in the set, or none.
abbrev pub Closed : Net → (ℕ → ℕ → Type 0) → ℕ → (ℕ → Type 0) → Type 0
Closed F may y C = (x : ℕ) → may x y → (k k' : ℕ) → Stands F x k → Stands F x k' → C k → C k'
