-- Texts that passed row by row, as their normal forms, and what swapping then answers.
use Rattle.std.specs.Prelude.{ℕ, ◌≡◌, List}
use Rattle.rows.specs.Pick.{pick}
use Rattle.reading.specs.Graph.{graph_of}
use Rattle.reading.specs.NormalSheet.{packed_normal}
use Rattle.rows.specs.declared.Sheet as form
use Rattle.sheet.specs.declared.answer.Answer.TheVariants.{Passed}
use Rattle.answers.specs.declared.outcome.Done.{Done}
use Rattle.answers.specs.declared.outcome.Done.TheVariants as done
use Rattle.placing.specs.TextNets.{pattern_held}
use Rattle.finding.specs.Place.{placed_fillings}
use Rattle.finding.specs.Inputs.{PlaceInputs}
use Rattle.swapping.specs.Swap.{replacement_read, replacement_held, same_marks, swapped_answer, swapped_text}

pub record SwapInputs (sheet pattern replacement : form.Sheet) (sheet_text pattern_text replacement_text : List ℕ) : Type 0 where
  pub placed : PlaceInputs sheet pattern sheet_text pattern_text
  pub replacement-passes : (replacement_read pattern_text replacement_text).answer ≡ Passed
  pub of-replacement : replacement ≡ packed_normal (replacement_held pattern_text replacement_text)

abbrev pub swap_read : List ℕ → List ℕ → List ℕ → Done
swap_read sheet pattern replacement =
    pick (same_marks (replacement_held pattern replacement) (pattern_held pattern)) (swapped_answer (graph_of (replacement_held pattern replacement)) (placed_fillings sheet pattern)) (done.EdgeDiffers 3 0)

abbrev pub swap_text : List ℕ → List ℕ → List ℕ → List ℕ
swap_text sheet pattern replacement = swapped_text (graph_of (replacement_held pattern replacement)) (placed_fillings sheet pattern)
