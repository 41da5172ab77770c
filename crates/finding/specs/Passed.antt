-- Document 01, 'Words of demand 3': 'A text has passed when no refusal that names an input holds of it in its task.'
use Rattle.std.specs.Prelude.{ℕ, ◌≡◌, List}
use Rattle.sheet.specs.Reading.{outcome_of, no_ports}
use Rattle.sheet.specs.declared.kind.Kind.TheVariants.{Plain, Pattern}
use Rattle.sheet.specs.declared.answer.Answer.TheVariants.{Passed}

pub record PlacePassed (sheet pattern : List ℕ) : Type 0 where
  pub sheet-passes : (outcome_of Plain no_ports sheet).answer ≡ Passed
  pub pattern-passes : (outcome_of Pattern no_ports pattern).answer ≡ Passed
