-- Document 01, 'Numbers': 'Every answer has the number, the input, the row and the bytes written; compare and claim add their yes or no'.
use Rattle.std.specs.Prelude.{ℕ}
use Rattle.sheet.specs.Answer.{number_of, input_of, row_number_of}
use Rattle.sheet.specs.declared.answer.Answer.{Answer}
use Rattle.normalising.specs.NormalText.{normalised_number, normalised_input, normalised_row, normalised_bytes}
use Rattle.normalising.specs.declared.normalise.Normalised.{Normalised}
use Rattle.answers.specs.Done.{done_number, done_input, done_row, done_bytes}
use Rattle.answers.specs.Compared.{compared_number, compared_input, compared_row, compared_bytes, compared_yes}
use Rattle.answers.specs.Claimed.{claimed_number, claimed_input, claimed_row, claimed_bytes, claimed_yes}
use Rattle.answers.specs.declared.outcome.Done.{Done}
use Rattle.answers.specs.declared.outcome.Compared.{Compared}
use Rattle.answers.specs.declared.outcome.Claimed.{Claimed}
use Rattle.answers.specs.declared.TaskAnswer.{TaskAnswer}
use Rattle.answers.specs.declared.Verdict.{Verdict}

-- of a reader, where the input that is read is the task's k-th; it writes nothing
abbrev pub reading_values : ℕ → Answer → TaskAnswer
reading_values k a = record { number = number_of a; input = input_of k a; row = row_number_of a; bytes = 0 }

abbrev pub normalised_values : Normalised → TaskAnswer
normalised_values d = record { number = normalised_number d; input = normalised_input d; row = normalised_row d; bytes = normalised_bytes d }

-- of fill, place and swap
abbrev pub done_values : Done → TaskAnswer
done_values d = record { number = done_number d; input = done_input d; row = done_row d; bytes = done_bytes d }

abbrev pub compared_values : Compared → Verdict
compared_values d = record { number = compared_number d; input = compared_input d; row = compared_row d; bytes = compared_bytes d; yes = compared_yes d }

abbrev pub claimed_values : Claimed → Verdict
claimed_values d = record { number = claimed_number d; input = claimed_input d; row = claimed_row d; bytes = claimed_bytes d; yes = claimed_yes d }
