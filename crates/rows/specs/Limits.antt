-- Document 01, 'Numbers': the limits.
use Rattle.std.specs.Prelude.{ℕ, ◌+◌}
use Rattle.rows.specs.Format.{most_links}

-- a sheet: 256 rows, 64 symbols, 96 joint numbers, 32 marks
abbrev pub row_limit : ℕ
row_limit = 256

abbrev pub sheet_atom_limit : ℕ
sheet_atom_limit = 64

abbrev pub sheet_link_limit : ℕ
sheet_link_limit = 96

abbrev pub sheet_marks : ℕ
sheet_marks = 32

-- a figure: 256 rows, 16 symbols, 8 B rows, 32 joint numbers, 32 marks
abbrev pub figure_atom_limit : ℕ
figure_atom_limit = 16

abbrev pub figure_contexts : ℕ
figure_contexts = 8

abbrev pub figure_link_limit : ℕ
figure_link_limit = 32

-- a list: 256 rows, 64 symbols in all, 102 joint numbers and 32 marks in each filling
abbrev pub filling_links : ℕ
filling_links = sheet_link_limit + most_links

-- an array has room for one row more than its limit, since a row is taken in before it is judged
abbrev pub atom_room : ℕ
atom_room = sheet_atom_limit + 1

abbrev pub context_room : ℕ
context_room = figure_contexts + 1

abbrev pub link_room : ℕ
link_room = filling_links + most_links

abbrev pub mark_room : ℕ
mark_room = sheet_marks + 1
