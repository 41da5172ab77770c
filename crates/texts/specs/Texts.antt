-- Closed texts, built row by row, and the answers to them.
use Rattle.std.specs.Prelude.{ℕ, zero, suc, ◌≡◌, List, [], ◌∷◌, ◌++◌, replicate}
use Rattle.rows.specs.Format.{most_number}
use Rattle.writing.specs.RowText.{row_bytes}
use Rattle.sheet.specs.Reading.{outcome_of}
use Rattle.sheet.specs.declared.kind.Kind.{Kind}
use Rattle.sheet.specs.declared.answer.Refusal.TheVariants.{BadColumn}
use Rattle.sheet.specs.declared.answer.Answer.{Answer}
use Rattle.sheet.specs.declared.answer.Answer.TheVariants.{Refused}

-- rows by letter: S, B, F, E, H
abbrev pub symbol : List ℕ → List ℕ
symbol nums = row_bytes 83 nums

abbrev pub context : List ℕ → List ℕ
context nums = row_bytes 66 nums

abbrev pub fusion : ℕ → ℕ → List ℕ
fusion a b = row_bytes 70 (a ∷ b ∷ [])

abbrev pub edge : ℕ → ℕ → List ℕ
edge a m = row_bytes 69 (a ∷ m ∷ [])

abbrev pub head : ℕ → ℕ → List ℕ
head number count = row_bytes 72 (number ∷ count ∷ [])

-- the numbers of an S or B row: name or number 1, a count, and so many links
abbrev pub counted : ℕ → ℕ → List ℕ
counted count links = 1 ∷ count ∷ replicate links most_number

-- the rows that `row` gives at n, n - 1, .., 1, one after the other
unfoldable pub rows_from : (ℕ → List ℕ) → ℕ → List ℕ
rows_from row zero = []
rows_from row (suc n) = row (suc n) ++ rows_from row n

-- 3 in the first row: 'field malformed, missing, extra or out of range'
abbrev pub bad_column : Answer
bad_column = Refused BadColumn 1

-- the texts that begin with these rows and go on as each case says have the answers given there
abbrev pub Answers : Kind → List ℕ → List ℕ → List (List ℕ × Answer) → Type 0
Answers kind pattern rows [] = Unit {0}
Answers kind pattern rows (c ∷ cases) = ((outcome_of kind pattern (rows ++ c.0)).answer ≡ c.1) × Answers kind pattern rows cases
