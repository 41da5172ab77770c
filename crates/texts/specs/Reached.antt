-- Document 01, 'Numbers': texts with as many of everything as their kind allows, and with one more of one thing.
use Rattle.std.specs.Prelude.{ℕ, ◌+◌, ◌-◌, ◌*◌, ◌/◌, ◌%◌, ◌≡◌, List, [], ◌∷◌, ◌++◌, length, replicate}
use Rattle.rows.specs.Format.{most_links, most_context}
use Rattle.rows.specs.Limits.{row_limit, sheet_atom_limit, sheet_link_limit, sheet_marks, figure_atom_limit, figure_link_limit, filling_links, mark_room}
use Rattle.rows.specs.Held.{Held}
use Rattle.sheet.specs.Reading.{outcome_of}
use Rattle.sheet.specs.declared.kind.Kind.{Kind}
use Rattle.sheet.specs.declared.answer.Refusal.TheVariants.{Long, Crowded, Joints, Marks}
use Rattle.sheet.specs.declared.answer.Answer.{Answer}
use Rattle.sheet.specs.declared.answer.Answer.TheVariants.{Passed, Refused}
use Rattle.texts.specs.Texts.{symbol, context, fusion, edge, head, rows_from, Answers}

-- rows that bring nothing new, all marks, so many atoms and so many links, such that with the rows before them and one row more the
-- rows are as many as are allowed
abbrev pub idle : ℕ → ℕ → ℕ → ℕ
idle before atoms links = row_limit - (1 + before + sheet_marks + atoms + links / 2)

unfoldable pub full_rows : ℕ → ℕ → ℕ → List ℕ
full_rows before atoms links =
    rows_from (λ k. fusion links links) (idle before atoms links)
    ++ rows_from (λ k. edge links k) sheet_marks
    ++ rows_from (λ k. symbol (k ∷ 1 ∷ links ∷ [])) atoms
    ++ rows_from (λ k. fusion (2 * k) (2 * k - 1)) (links / 2)

-- of what is held: rows, atoms, contexts, links, marks
abbrev pub held_numbers : Held → List ℕ
held_numbers h = h.rows ∷ length h.atoms ∷ length h.contexts ∷ length h.wiring.links ∷ length h.wiring.marks ∷ []

-- after them: a row that brings nothing new, two such rows, and a row with one atom, one link or one mark more
abbrev pub one_over : ℕ → List (List ℕ × Answer)
one_over links =
    (fusion 1 1, Passed)
    ∷ (fusion 1 1 ++ fusion 1 1, Refused Long (row_limit + 1))
    ∷ (symbol (1 ∷ 0 ∷ []), Refused Crowded row_limit)
    ∷ (fusion 1 (links + 1), Refused Joints row_limit)
    ∷ (edge 1 mark_room, Refused Marks row_limit)
    ∷ []

-- these rows with one that brings nothing new hold just as many of everything as the numbers say, and in each of the cases the answer
-- is as given
pub record Reaches (kind : Kind) (pattern rows numbers : List ℕ) (cases : List (List ℕ × Answer)) : Type 0 where
  pub full : held_numbers (outcome_of kind pattern (rows ++ fusion 1 1)).held ≡ numbers
  pub answers : Answers kind pattern rows cases

-- a sheet
unfoldable pub sheet_rows : List ℕ
sheet_rows = full_rows 0 sheet_atom_limit sheet_link_limit

abbrev pub sheet_numbers : List ℕ
sheet_numbers = row_limit ∷ sheet_atom_limit ∷ 0 ∷ sheet_link_limit ∷ sheet_marks ∷ []

-- figures: so many contexts first, each with one port; their numbers come again after the last
abbrev pub context_number : ℕ → ℕ
context_number k = k % most_context + 1

unfoldable pub figure_rows : ℕ → List ℕ
figure_rows contexts = rows_from (λ k. context (context_number k ∷ 1 ∷ figure_link_limit ∷ [])) contexts ++ full_rows contexts figure_atom_limit figure_link_limit

abbrev pub figure_numbers : ℕ → List ℕ
figure_numbers contexts = row_limit ∷ figure_atom_limit ∷ contexts ∷ figure_link_limit ∷ sheet_marks ∷ []

-- one context more, besides
abbrev pub one_context : List (List ℕ × Answer)
one_context = (context (1 ∷ 1 ∷ 1 ∷ []), Refused Crowded row_limit) ∷ one_over figure_link_limit

-- the ports of a pattern that has each number with one port
abbrev pub one_port : List ℕ
one_port = 0 ∷ replicate most_context 2

-- a list of two fillings, each with all the links and marks that one may have, and other ones than the other has; the second has all
-- the atoms, after so many rows
abbrev pub second_head : ℕ
second_head = 2 + sheet_marks + filling_links / 2

unfoldable pub list_rows : List ℕ
list_rows =
    head 1 most_links
    ++ rows_from (λ k. edge (filling_links + 1) (sheet_marks + k)) sheet_marks
    ++ rows_from (λ k. fusion (filling_links + 2 * k) (filling_links + 2 * k - 1)) (filling_links / 2)
    ++ head 2 most_links
    ++ full_rows second_head sheet_atom_limit filling_links

abbrev pub list_numbers : List ℕ
list_numbers = row_limit ∷ sheet_atom_limit ∷ 2 ∷ filling_links ∷ sheet_marks ∷ []
