-- Kin: figure links between which steps lead, each between two links of one context.
use Rattle.std.specs.Prelude.{ℕ, ◌≡◌}
use Rattle.hyperlmntal.specs.Link.{◌∈◌}
use Rattle.placing.specs.Net.{NetCell, Net}
use Rattle.network.specs.Reach.{Reach}

-- two links of one context
pub record SharedRow (F : Net) (x x' : ℕ) : Type 0 where
  pub row : NetCell
  pub of-figure : row ∈ F.contexts
  pub first : x ∈ row.1
  pub second : x' ∈ row.1

abbrev pub Kin : Net → ℕ → ℕ → Type 0
Kin F = Reach (SharedRow F)

-- the links of each context have one label
abbrev pub RowLabels : Net → (ℕ → ℕ) → Type 0
RowLabels F label = (row : NetCell) → row ∈ F.contexts → (x x' : ℕ) → x ∈ row.1 → x' ∈ row.1 → label x ≡ label x'
