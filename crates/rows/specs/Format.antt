-- Document 01, 'Rows': the widths of a row, and what each letter's fields may hold.
use Rattle.std.specs.Prelude.{ℕ, ◌+◌, ◌*◌, List, [], ◌∷◌, true, false, eqb, get_or}
use Rattle.rows.specs.Pick.{pick}
use Rattle.rows.specs.declared.row.Rule.{Rule}

-- the most links of a symbol or a blank; a row has two fields more, a letter and a newline
abbrev pub most_links : ℕ
most_links = 6

abbrev pub field_count : ℕ
field_count = 2 + most_links

-- a field is four columns, and a row ends with byte 10
abbrev pub field_width : ℕ
field_width = 4

abbrev pub row_width : ℕ
row_width = 2 + field_width * field_count

abbrev pub newline : ℕ
newline = 10

-- names of symbols, and marks, are 1..999; joints are 1..9999, all that four columns hold; blank numbers are 1..4, and 0 is none
abbrev pub most_name : ℕ
most_name = 999

abbrev pub most_number : ℕ
most_number = 9999

abbrev pub most_context : ℕ
most_context = 4

abbrev pub context_bound : ℕ
context_bound = most_context + 1

-- the letters S B F E H by their places in the table below, and what stands for any other byte
abbrev pub atom_letter : ℕ
atom_letter = 0

abbrev pub context_letter : ℕ
context_letter = 1

abbrev pub fusion_letter : ℕ
fusion_letter = 2

abbrev pub edge_letter : ℕ
edge_letter = 3

abbrev pub head_letter : ℕ
head_letter = 4

abbrev pub no_letter : ℕ
no_letter = 5

unfoldable pub letter_of : ℕ → ℕ
letter_of b =
    pick (eqb b 83) atom_letter
    (pick (eqb b 66) context_letter (pick (eqb b 70) fusion_letter (pick (eqb b 69) edge_letter (pick (eqb b 72) head_letter no_letter))))

abbrev pub blank : Rule
blank = record { filled = false; counted = false; link = false; low = 0; high = 0 }

abbrev name : Rule
name = record { filled = true; counted = false; link = false; low = 1; high = most_name }

abbrev number : Rule
number = record { filled = true; counted = false; link = false; low = 1; high = most_context }

abbrev count : Rule
count = record { filled = true; counted = false; link = false; low = 0; high = most_links }

abbrev link : Rule
link = record { filled = true; counted = false; link = true; low = 1; high = most_number }

-- a link that stands there only where the row's count reaches it
abbrev port : Rule
port = record { filled = false; counted = true; link = true; low = 1; high = most_number }

-- S: name, count, links. B: number, count, links. F: two links. E: a link, a mark. H: number, count.
abbrev pub rules : List (List Rule)
rules =
    (name ∷ count ∷ port ∷ port ∷ port ∷ port ∷ port ∷ port ∷ [])
    ∷ (number ∷ count ∷ port ∷ port ∷ port ∷ port ∷ port ∷ port ∷ [])
    ∷ (link ∷ link ∷ blank ∷ blank ∷ blank ∷ blank ∷ blank ∷ blank ∷ [])
    ∷ (link ∷ name ∷ blank ∷ blank ∷ blank ∷ blank ∷ blank ∷ blank ∷ [])
    ∷ (number ∷ count ∷ blank ∷ blank ∷ blank ∷ blank ∷ blank ∷ blank ∷ [])
    ∷ []

unfoldable pub rule_of : ℕ → ℕ → Rule
rule_of letter f = get_or (get_or rules letter []) f blank
