-- Sheet links that are barred to figure links of one kind. All are counted from 0.
use Rattle.std.specs.Prelude.{ℕ, ◌<◌, ◌≡◌, ◌⊎◌, List, get_or}
use Rattle.rows.specs.Limits.{sheet_link_limit}
use Rattle.candidates.specs.Tables.{LinkIn}

-- what is barred now was barred, or is y for a link of the kind of x
abbrev pub BarredTo : List ℕ → ℕ → ℕ → List ℕ → List ℕ → Type 0
BarredTo kinds x y was r = (z w : ℕ) → z < sheet_link_limit → w < sheet_link_limit → LinkIn r z w → LinkIn was z w ⊎ ((get_or kinds z 0 ≡ get_or kinds x 0) × (w ≡ y))
