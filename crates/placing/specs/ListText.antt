-- Document 01, 'Rows': the bytes of a list of fillings.
use Rattle.std.specs.Prelude.{ℕ, List, [], ◌∷◌, ◌++◌, length}
use Rattle.writing.specs.RowText.{row_bytes}
use Rattle.placing.specs.Fillings.{Row, symbol_row, point_row, edge_row, Filling}

-- an S, F or E row
abbrev pub row_text : Row → List ℕ
row_text (symbol_row a l) = row_bytes 83 (a ∷ length l ∷ l)
row_text (point_row x y) = row_bytes 70 (x ∷ y ∷ [])
row_text (edge_row x m) = row_bytes 69 (x ∷ m ∷ [])

unfoldable pub rows_text : List Row → List ℕ
rows_text [] = []
rows_text (r ∷ l) = row_text r ++ rows_text l

-- an H row: the number of the blank and its port count
abbrev pub head_text : Filling → List ℕ
head_text f = row_bytes 72 (f.number ∷ f.ports ∷ [])

-- 'an H row and then that filling's S, F, E rows'
unfoldable pub list_text : List Filling → List ℕ
list_text [] = []
list_text (f ∷ θ) = head_text f ++ (rows_text f.rows ++ list_text θ)
