-- Document 01, 'Rows': what the bytes of one row say.
use Rattle.std.specs.Prelude.{ℕ, zero, suc, ◌+◌, ◌-◌, ◌*◌, ◌<◌, ◌≡◌, List, [], ◌∷◌, Bool, true, false, ltb, leb, eqb, take, drop, get_or, set, replicate}
use Rattle.rows.specs.Pick.{pick, and, or, not}
use Rattle.rows.specs.Format.{field_width, field_count, no_letter, letter_of, rule_of}
use Rattle.rows.specs.declared.row.Rule.{Rule}
use Rattle.rows.specs.declared.row.Row.{Row}

-- what a field's four columns hold: a number where the flag is true, else nothing; or they are malformed
pub data Field : Type 0 where
  malformed : Field
  holds : Bool → ℕ → Field

-- a byte that may not stand in a column: a space after a digit, neither a space nor a digit, or a leading zero
unfoldable pub misplaced_in : ℕ → Bool → Bool → Bool
misplaced_in b filled last = pick (eqb b 32) filled (or (ltb b 48) (or (ltb 57 b) (and (eqb b 48) (not (or filled last)))))

abbrev pub is_nil : List ℕ → Bool
is_nil [] = true
is_nil (x ∷ t) = false

-- four spaces, or a decimal number right-justified with spaces and no leading zero
unfoldable pub field_of : Bool → ℕ → List ℕ → Field
field_of filled n [] = holds filled n
field_of filled n (b ∷ t) =
    pick (misplaced_in b filled (is_nil t)) malformed (pick (eqb b 32) (field_of filled n t) (field_of true (n * 10 + (b - 48)) t))

-- whether the rule asks for a number at field f, in a row with this count
abbrev pub needed : Rule → ℕ → ℕ → Bool
needed r f count = pick r.counted (ltb f (2 + count)) r.filled

-- a number within the rule's range where one is needed, and nothing elsewhere
unfoldable pub suits : Rule → ℕ → ℕ → Bool → ℕ → Bool
suits r f count filled n = pick (needed r f count) (and filled (and (leb r.low n) (leb n r.high))) (not filled)

-- the four columns from this one on are spaces
abbrev pub Blank : List ℕ → ℕ → Type 0
Blank s at = (k : ℕ) → k < field_width → get_or s (at + k) 0 ≡ 32

abbrev pub row_with : ℕ → Bool → List ℕ → Row
row_with letter good nums = record { letter = letter; good = good; nums = nums }

-- a row without a letter
abbrev pub no_row : Row
no_row = row_with no_letter false (replicate field_count 0)

-- a field that holds a number or nothing goes on where it suits its rule
unfoldable pub judged : ℕ → ℕ → List ℕ → (ℕ → Row) → Field → Row
judged letter f nums rest malformed = row_with letter false nums
judged letter f nums rest (holds filled n) =
    pick (suits (rule_of letter f) f (get_or nums 1 0) filled n) (rest n) (row_with letter false nums)

-- the fields from f on, `left` of them; the first bad one ends the row's reading
unfoldable pub fields_of : List ℕ → ℕ → ℕ → List ℕ → ℕ → Row
fields_of s letter f nums zero = row_with letter true nums
fields_of s letter f nums (suc left) =
    judged letter f nums (λ n. fields_of s letter (f + 1) (set nums f n) left) (field_of false 0 (take field_width (drop (f * field_width + 1) s)))

-- the row that these bytes are: its letter, and its numbers, 0 for an empty field
unfoldable pub row_of : List ℕ → Row
row_of s =
    pick (eqb (letter_of (get_or s 0 0)) no_letter) no_row
    (fields_of s (letter_of (get_or s 0 0)) 0 (replicate field_count 0) field_count)
