-- The replacement as it is filled from the list that place would write.
use Rattle.std.specs.Prelude.{ℕ, ◌≡◌, List, length}
use Rattle.hyperlmntal.specs.Link.{◌∈◌}
use Rattle.rows.specs.Pick.{pick}
use Rattle.rows.specs.declared.Sheet as form
use Rattle.sheet.specs.Filling.{Passes}
use Rattle.reading.specs.NormalSheet.{packed_normal}
use Rattle.placing.specs.Net.{NetCell}
use Rattle.network.specs.NetIn.{net_in}
use Rattle.answers.specs.declared.outcome.Done.{Done}
use Rattle.answers.specs.declared.outcome.Done.TheVariants as done
use Rattle.filling.specs.Read.{list_held}
use Rattle.filling.specs.Fill.{figure_held, first_lacking, first_differing, filled_by, filled_text, is_too_large}
use Rattle.swapping.specs.Inputs.{swap_read, swap_text}
use Rattle.swapping.specs.Given.{GivenPart}

-- a list that passed, with no 8 and no 9 over whole texts
pub record FilledInputs (figure : form.Sheet) (list figure_text : List ℕ) : Type 0 where
  pub of-figure : figure ≡ packed_normal (figure_held figure_text)
  pub passes : Passes list
  pub none-lacking : first_lacking (list_held list).contexts (figure_held figure_text).contexts ≡ 0
  pub none-differing : first_differing list (list_held list).contexts ≡ 0

-- what filling then answers
abbrev pub filled_done : List ℕ → List ℕ → Done
filled_done figure list = pick (is_too_large (filled_by figure list)) done.TooLarge (done.Written (length (filled_text figure list)))

-- the list of what was found: the replacement filled from it is what swap answers and writes, and each part of it is what the placing
-- gives to that blank
pub record PlacingSwaps (sheet pattern replacement : form.Sheet) (links given s p q : List ℕ) : Type 0 where
  pub list : List ℕ
  pub fills : FilledInputs replacement list q
  pub answer : filled_done q list ≡ swap_read s p q
  pub text : filled_text q list ≡ swap_text s p q
  pub parts : (c : NetCell) → c ∈ (net_in pattern).contexts → GivenPart sheet links given list c
