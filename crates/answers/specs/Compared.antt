-- Document 01, 'Numbers': the number, input, row, bytes written and yes or no of each answer of compare.
use Rattle.std.specs.Prelude.{ℕ, Bool, true, false}
use Rattle.sheet.specs.Answer.{refusal_number}
use Rattle.answers.specs.declared.outcome.Compared.{Compared}
use Rattle.answers.specs.declared.outcome.Compared.TheVariants.{Same, Differs, Refused}

abbrev pub compared_number : Compared → ℕ
compared_number Same = 0
compared_number Differs = 0
compared_number (Refused input why row) = refusal_number why

abbrev pub compared_input : Compared → ℕ
compared_input Same = 0
compared_input Differs = 0
compared_input (Refused input why row) = input

abbrev pub compared_row : Compared → ℕ
compared_row Same = 0
compared_row Differs = 0
compared_row (Refused input why row) = row

-- there is no output
abbrev pub compared_bytes : Compared → ℕ
compared_bytes Same = 0
compared_bytes Differs = 0
compared_bytes (Refused input why row) = 0

-- 'compare and claim add their yes or no, which is no in a refusal'
abbrev pub compared_yes : Compared → Bool
compared_yes Same = true
compared_yes Differs = false
compared_yes (Refused input why row) = false
