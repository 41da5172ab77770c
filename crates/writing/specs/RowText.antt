-- Document 01, 'Rows' and 'Worked sheets': the bytes of a row.
use Rattle.std.specs.Prelude.{ℕ, zero, suc, ◌+◌, ◌/◌, ◌%◌, List, [], ◌∷◌, ◌++◌, ltb}
use Rattle.rows.specs.Pick.{pick}
use Rattle.rows.specs.Format.{field_count, newline}

-- the column of a number at this place, 1000, 100 or 10: its digit, or a space before its first digit
abbrev pub column_at : ℕ → ℕ → ℕ
column_at n place = pick (ltb n place) 32 (48 + n / place % 10)

-- a number below 10000 in four columns, right-justified with spaces and no leading zero
unfoldable pub field_bytes : ℕ → List ℕ
field_bytes n = column_at n 1000 ∷ column_at n 100 ∷ column_at n 10 ∷ (48 + n % 10) ∷ []

abbrev pub empty_field : List ℕ
empty_field = 32 ∷ 32 ∷ 32 ∷ 32 ∷ []

-- so many fields: those of the numbers, then empty ones
unfoldable pub fields_bytes : ℕ → List ℕ → List ℕ
fields_bytes zero nums = []
fields_bytes (suc f) [] = empty_field ++ fields_bytes f []
fields_bytes (suc f) (n ∷ nums) = field_bytes n ++ fields_bytes f nums

-- a row: its letter's byte, its fields, a newline
unfoldable pub row_bytes : ℕ → List ℕ → List ℕ
row_bytes letter nums = (letter ∷ fields_bytes field_count nums) ++ (newline ∷ [])
