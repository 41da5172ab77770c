-- What the steps of reading a row answer.
use Rattle.std.specs.Prelude.{ℕ, ◌+◌, List, Bool, take}
use Rattle.rows.specs.Pick.{pick}
use Rattle.rows.specs.Format.{row_width}
use Rattle.rows.specs.Row.{row_of, no_row}
use Rattle.rows.specs.declared.row.Row.{Row}
use Rattle.sheet.specs.Reading.{ragged, strange_by, Verdict, taken, refused, first_of, early_tests}
use Rattle.sheet.specs.declared.kind.Kind.{Kind}
use Rattle.sheet.specs.declared.judge.Next.{Next}
use Rattle.sheet.specs.declared.answer.Answer.{Answer}
use Rattle.sheet.specs.declared.answer.Answer.TheVariants.{Passed, Refused}

-- a verdict on the row `at` as an answer
abbrev pub answer_of : Verdict → ℕ → Answer
answer_of taken at = Passed
answer_of (refused why) at = Refused why at

-- the answer of the tests before a row is taken in, after k rows of which so many are heads
abbrev pub early_answer : Kind → ℕ → ℕ → Bool → Row → Answer
early_answer kind heads k cut r = answer_of (first_of (early_tests kind k cut (strange_by kind r.letter heads) r)) (k + 1)

-- the row with which a text begins; where it is cut, one without a letter
abbrev pub whole_row : Bool → List ℕ → Row
whole_row cut text = pick cut no_row (row_of (take row_width text))

-- that row, and the answer of these tests
abbrev pub next_of : Kind → ℕ → ℕ → List ℕ → Next
next_of kind heads k text = record { answer = early_answer kind heads k (ragged text) (row_of (take row_width text)); row = whole_row (ragged text) text }
