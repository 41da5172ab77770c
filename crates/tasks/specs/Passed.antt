-- Document 01, 'Words of demand 3': 'A text has passed when no refusal that names an input holds of it in its task.'
use Rattle.std.specs.Prelude.{ℕ, ◌≡◌, List, true}
use Rattle.sheet.specs.Reading.{outcome_of, no_ports}
use Rattle.sheet.specs.declared.kind.Kind.TheVariants.{Plain, Figure, Fillings}
use Rattle.sheet.specs.declared.answer.Answer.TheVariants.{Passed}
use Rattle.filling.specs.Read.{list_held}
use Rattle.filling.specs.Fill.{figure_held, first_lacking, first_differing}
use Rattle.placing.specs.TextNets.{pattern_held}
use Rattle.finding.specs.Passed.{PlacePassed}
use Rattle.swapping.specs.Swap.{replacement_read, replacement_held, same_marks}

pub record SwapPassed (sheet pattern replacement : List ℕ) : Type 0 where
  pub placed : PlacePassed sheet pattern
  pub replacement-passes : (replacement_read pattern replacement).answer ≡ Passed
  -- no 9
  pub same-marks : same_marks (replacement_held pattern replacement) (pattern_held pattern) ≡ true

pub record ClaimPassed (sheet figure list : List ℕ) : Type 0 where
  pub sheet-passes : (outcome_of Plain no_ports sheet).answer ≡ Passed
  pub figure-passes : (outcome_of Figure no_ports figure).answer ≡ Passed
  pub list-passes : (outcome_of Fillings no_ports list).answer ≡ Passed
  -- no 8 and no 9 over whole texts
  pub none-lacking : first_lacking (list_held list).contexts (figure_held figure).contexts ≡ 0
  pub none-differing : first_differing list (list_held list).contexts ≡ 0
