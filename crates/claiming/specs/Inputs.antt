-- Texts that passed row by row, as their normal forms.
use Rattle.std.specs.Prelude.{ℕ, ◌≡◌, List}
use Rattle.reading.specs.NormalSheet.{packed_normal}
use Rattle.rows.specs.declared.Sheet as form
use Rattle.filling.specs.Fill.{figure_held}
use Rattle.placing.specs.TextNets.{sheet_held}

pub record ClaimInputs (sheet figure : form.Sheet) (sheet_text figure_text : List ℕ) : Type 0 where
  pub of-sheet : sheet ≡ packed_normal (sheet_held sheet_text)
  pub of-figure : figure ≡ packed_normal (figure_held figure_text)
