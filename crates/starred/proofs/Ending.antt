-- How normalise and fill end with every slip of the full length, from what is computed of their texts.
use Prim.Native.Nat.{ℕ, ◌≤◌}
use mathlib.Core.Path.{◌≡◌, ap, ap₂}
use mathlib.Core.List.{List}
use borrow.Author.Tests.{le-ltb}
use lib.ListN.{length}
use Rattle.normalising.specs.NormalText.{slip_length, normal_text_of, normalised_answer, normalised_slip}
use Rattle.sheet.specs.Reading.{outcome_of, no_ports}
use Rattle.sheet.specs.declared.kind.Kind.TheVariants.{Plain, Figure, Fillings}
use Rattle.sheet.specs.declared.answer.Answer.TheVariants.{Passed}
use Rattle.answers.specs.Done.{slip_after}
use Rattle.answers.specs.Values.{done_values}
use Rattle.filling.specs.Fill.{filled_answer, filled_text, fill_answer, fill_slip}
use Rattle.answers.specs.declared.outcome.Done.TheVariants as done
use Rattle.starred.specs.Case.{NormaliseEnds, FillEnds}

module _ (sheet normal : List ℕ) (ok : (outcome_of Plain no_ports sheet).answer ≡ Passed) (text : normal_text_of Plain sheet ≡ normal) where
  pub normalise-ends : NormaliseEnds sheet 0 normal
  unfolding normalised_answer normalised_slip
  normalise-ends = record { answered = λ slip full. rw (le-ltb (length slip) slip_length full, ok, text); slip-after = λ slip full. rw (le-ltb (length slip) slip_length full, ok, text) }

module _ (figure list filled : List ℕ) (a : (outcome_of Figure no_ports figure).answer ≡ Passed) (b : (outcome_of Fillings no_ports list).answer ≡ Passed)
    (wrote : filled_answer figure list ≡ done.Written (length filled)) (text : filled_text figure list ≡ filled) where
  fill-answer : (slip : List ℕ) → slip_length ≤ length slip → fill_answer figure list (length slip) ≡ done.Written (length filled)
  unfolding fill_answer
  fill-answer slip full = rw (le-ltb (length slip) slip_length full, a, b, wrote)

  pub fill-ends : FillEnds figure list 0 filled
  unfolding fill_slip
  fill-ends = record { answered = λ slip full. ap done_values (fill-answer slip full); slip-after = λ slip full. ap₂ (λ d t. slip_after d t slip) (fill-answer slip full) text }
