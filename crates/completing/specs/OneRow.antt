-- Figure links that join no two contexts.
use Rattle.std.specs.Prelude.{ℕ, ◌≡◌}
use Rattle.hyperlmntal.specs.Link.{◌∈◌}
use Rattle.placing.specs.Net.{NetCell, Net}

-- all context rows with x are one row
abbrev pub OneRow : Net → ℕ → Type 0
OneRow F x = (row row' : NetCell) → row ∈ F.contexts → row' ∈ F.contexts → x ∈ row.1 → x ∈ row'.1 → row ≡ row'
