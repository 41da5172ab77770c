-- The rows of a `Normal` as bytes, and what its numbers must be for each to fit its columns.
use Rattle.std.specs.Prelude.{ℕ, zero, suc, ◌<◌, ◌≤◌, List, [], ◌∷◌, ◌++◌, take, get_or}
use Rattle.rows.specs.Format.{most_links, most_number}
use Rattle.rows.specs.Limits.{sheet_atom_limit, figure_contexts, sheet_marks}
use Rattle.writing.specs.RowText.{row_bytes}
use Rattle.rows.specs.declared.Atom.{Atom}
use Rattle.rows.specs.declared.Context.{Context}
use Rattle.rows.specs.declared.Sheet.{Sheet as Normal}

-- the rows of the places below a number, one after the other
unfoldable pub rows_to : (ℕ → List ℕ) → ℕ → List ℕ
rows_to row zero = []
rows_to row (suc k) = rows_to row k ++ row k

-- an S row or a B row: a name or a number, the link count, the links that are used
abbrev pub linked_row : ℕ → ℕ → ℕ → List ℕ → List ℕ
linked_row letter first count links = row_bytes letter (first ∷ count ∷ take count links)

-- what stands past the end of an array
abbrev pub past_atoms : Atom
past_atoms = record { name = 0; count = 0; links = [] }

abbrev pub past_contexts : Context
past_contexts = record { number = 0; count = 0; links = []; row = 0 }

abbrev pub symbol_row : Atom → List ℕ
symbol_row a = linked_row 83 a.name a.count a.links

abbrev pub blank_row : Context → List ℕ
blank_row c = linked_row 66 c.number c.count c.links

-- the rows of arrays, by place
abbrev pub atom_row_in : List Atom → ℕ → List ℕ
atom_row_in atoms k = symbol_row (get_or atoms k past_atoms)

abbrev pub context_row_in : List Context → ℕ → List ℕ
context_row_in contexts k = blank_row (get_or contexts k past_contexts)

abbrev pub mark_row_in : List ℕ → List ℕ → ℕ → List ℕ
mark_row_in marked marks k = row_bytes 69 (get_or marked k 0 ∷ get_or marks k 0 ∷ [])

abbrev pub atom_row : Normal → ℕ → List ℕ
atom_row n = atom_row_in n.atoms

abbrev pub context_row : Normal → ℕ → List ℕ
context_row n = context_row_in n.contexts

abbrev pub mark_row : Normal → ℕ → List ℕ
mark_row n = mark_row_in n.marked n.marks

-- the S rows, then the B rows, then the E rows
unfoldable pub normal_rows : Normal → List ℕ
normal_rows n = rows_to (atom_row n) n.atom_count ++ rows_to (context_row n) n.context_count ++ rows_to (mark_row n) n.mark_count

-- the numbers of an S row or a B row have four digits at most
pub record Narrow (first count : ℕ) (links : List ℕ) : Type 0 where
  pub named : first ≤ most_number
  pub counted : count ≤ most_links
  pub linked : (k : ℕ) → k < count → get_or links k 0 ≤ most_number

-- so do those of the first so many atoms, contexts or marks
abbrev pub AtomsNarrow : List Atom → ℕ → Type 0
AtomsNarrow atoms n = (k : ℕ) → k < n → Narrow (get_or atoms k past_atoms).name (get_or atoms k past_atoms).count (get_or atoms k past_atoms).links

abbrev pub ContextsNarrow : List Context → ℕ → Type 0
ContextsNarrow contexts n = (k : ℕ) → k < n → Narrow (get_or contexts k past_contexts).number (get_or contexts k past_contexts).count (get_or contexts k past_contexts).links

abbrev pub MarksNarrow : List ℕ → List ℕ → ℕ → Type 0
MarksNarrow marked marks n = (k : ℕ) → k < n → (get_or marked k 0 ≤ most_number) × (get_or marks k 0 ≤ most_number)

-- a normal form whose rows can be written
pub record Writable (n : Normal) : Type 0 where
  pub atoms : n.atom_count ≤ sheet_atom_limit
  pub contexts : n.context_count ≤ figure_contexts
  pub marks : n.mark_count ≤ sheet_marks
  pub atom_numbers : AtomsNarrow n.atoms n.atom_count
  pub context_numbers : ContextsNarrow n.contexts n.context_count
  pub mark_numbers : MarksNarrow n.marked n.marks n.mark_count
