-- Document 01, 'Worked sheets': the `A` row that a program prints of an answer.
use Rattle.std.specs.Prelude.{ℕ, ◌+◌, ◌%◌, List, [], ◌∷◌}
use Rattle.rows.specs.Format.{most_number}
use Rattle.rows.specs.Pick.{pick}
use Rattle.writing.specs.RowText.{row_bytes}
use Rattle.answers.specs.declared.TaskAnswer.{TaskAnswer}
use Rattle.answers.specs.declared.Verdict.{Verdict}

-- the byte of the letter A
abbrev pub answer_letter : ℕ
answer_letter = 65

-- the last digits of a number, as many as a field has columns
abbrev pub last_digits : ℕ → ℕ
last_digits n = n % (most_number + 1)

-- number, input, row
abbrev pub answer_row : TaskAnswer → List ℕ
answer_row a = row_bytes answer_letter (last_digits a.number ∷ last_digits a.input ∷ last_digits a.row ∷ [])

-- number, input, row, and 1 for yes, 0 for no
abbrev pub verdict_row : Verdict → List ℕ
verdict_row v = row_bytes answer_letter (last_digits v.number ∷ last_digits v.input ∷ last_digits v.row ∷ pick v.yes 1 0 ∷ [])
