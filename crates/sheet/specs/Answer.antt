-- Document 01, 'Numbers': the number, input and row of each answer of a reader.
use Rattle.std.specs.Prelude.{ℕ}
use Rattle.sheet.specs.declared.answer.Refusal.{Refusal}
use Rattle.sheet.specs.declared.answer.Refusal.TheVariants.{Ragged, StrangeRow, BadColumn, Long, Crowded, Joints, Marks, BlankClash}
use Rattle.sheet.specs.declared.answer.Answer.{Answer}
use Rattle.sheet.specs.declared.answer.Answer.TheVariants.{Passed, Refused}

abbrev pub refusal_number : Refusal → ℕ
refusal_number Ragged = 1
refusal_number StrangeRow = 2
refusal_number BadColumn = 3
refusal_number Long = 4
refusal_number Crowded = 5
refusal_number Joints = 6
refusal_number Marks = 7
refusal_number BlankClash = 8

abbrev pub number_of : Answer → ℕ
number_of Passed = 0
number_of (Refused why row) = refusal_number why

-- the input that is read is the task's k-th
abbrev pub input_of : ℕ → Answer → ℕ
input_of k Passed = 0
input_of k (Refused why row) = k

abbrev pub row_number_of : Answer → ℕ
row_number_of Passed = 0
row_number_of (Refused why row) = row
