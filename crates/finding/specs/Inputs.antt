-- Texts that passed row by row, in the arrays in which they were read.
use Rattle.std.specs.Prelude.{ℕ, ◌≡◌, List}
use Rattle.reading.specs.NormalSheet.{packed_normal}
use Rattle.rows.specs.declared.Sheet as form
use Rattle.placing.specs.TextNets.{sheet_held, pattern_held}
use Rattle.finding.specs.Passed.{PlacePassed}

pub record PlaceInputs (sheet pattern : form.Sheet) (sheet_text pattern_text : List ℕ) : Type 0 where
  pub passed : PlacePassed sheet_text pattern_text
  pub of-sheet : sheet ≡ packed_normal (sheet_held sheet_text)
  pub of-pattern : pattern ≡ packed_normal (pattern_held pattern_text)
