-- Document 01, 'Rows' and 'Numbers': the kinds of text, with the letters and the limits of each.
use Rattle.std.specs.Prelude.{ℕ, [], ◌∷◌, Bool, true, false, get_or}
use Rattle.rows.specs.Format.{context_letter, head_letter}
use Rattle.rows.specs.Limits.{row_limit, sheet_atom_limit, sheet_link_limit, sheet_marks, figure_atom_limit, figure_contexts, figure_link_limit, filling_links}
use Rattle.sheet.specs.declared.kind.Kind.{Kind}
use Rattle.sheet.specs.declared.kind.Kind.TheVariants.{Plain, Pattern, Figure, Replacement, Fillings}
use Rattle.sheet.specs.declared.kind.Limits.{Limits}

-- The letters are in the table's order, S B F E H.
-- A sheet has S, F, E: 256 rows, 64 symbols, 96 joint numbers, 32 marks
abbrev pub sheet_limits : Limits
sheet_limits =
    record {
      letters = true ∷ false ∷ true ∷ true ∷ false ∷ [];
      rows = row_limit;
      atoms = sheet_atom_limit;
      contexts = figure_contexts;
      links = sheet_link_limit;
      marks = sheet_marks;
    }

-- a figure also B: 256 rows, 16 symbols, 8 B rows, 32 joint numbers, 32 marks
abbrev pub figure_limits : Limits
figure_limits =
    record {
      letters = true ∷ true ∷ true ∷ true ∷ false ∷ [];
      rows = row_limit;
      atoms = figure_atom_limit;
      contexts = figure_contexts;
      links = figure_link_limit;
      marks = sheet_marks;
    }

-- a list of fillings has H rows, and S, F, E: 256 rows, 64 symbols in all, 102 joint numbers and 32 marks in each filling
abbrev pub list_limits : Limits
list_limits =
    record {
      letters = true ∷ false ∷ true ∷ true ∷ true ∷ [];
      rows = row_limit;
      atoms = sheet_atom_limit;
      contexts = figure_contexts;
      links = filling_links;
      marks = sheet_marks;
    }

abbrev pub limits_of : Kind → Limits
limits_of Plain = sheet_limits
limits_of Pattern = figure_limits
limits_of Figure = figure_limits
limits_of Replacement = figure_limits
limits_of Fillings = list_limits

abbrev pub allowed : Kind → ℕ → Bool
allowed kind letter = get_or (limits_of kind).letters letter false

abbrev pub is_figure : Kind → Bool
is_figure kind = allowed kind context_letter

abbrev pub is_list : Kind → Bool
is_list kind = allowed kind head_letter

abbrev pub atom_limit : Kind → ℕ
atom_limit kind = (limits_of kind).atoms

abbrev pub link_limit : Kind → ℕ
link_limit kind = (limits_of kind).links
