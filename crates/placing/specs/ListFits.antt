-- Document 01, 'Rows' and 'Numbers': a list of fillings that can be written within the table's ranges and limits, and read back.
use Rattle.std.specs.Prelude.{ℕ, ◌+◌, ◌<◌, ◌≤◌, ◌≡◌, List, [], ◌∷◌, ◌++◌, map, length}
use Rattle.hyperlmntal.specs.Link.{◌∈◌}
use Rattle.rows.specs.Format.{most_links, most_name, most_context}
use Rattle.rows.specs.Limits.{row_limit, sheet_atom_limit}
use Rattle.sheet.specs.Filling.{filling_of}
use Rattle.sheet.specs.Reading.{Outcome, outcome_of, no_ports}
use Rattle.sheet.specs.declared.kind.Kind.TheVariants.{Fillings}
use Rattle.texts.specs.Fitting.{Stock, Fitting}
use Rattle.placing.specs.Net.{NetCell, Range}
use Rattle.placing.specs.Fillings.{Row, symbol_row, point_row, edge_row, Filling, symbol_of, mark_of}
use Rattle.placing.specs.ListText.{list_text}

-- the S rows, the F rows and the E rows among rows
abbrev pub symbols_in : List Row → List NetCell
symbols_in [] = []
symbols_in (symbol_row a l ∷ r) = (a, l) ∷ symbols_in r
symbols_in (point_row x y ∷ r) = symbols_in r
symbols_in (edge_row x m ∷ r) = symbols_in r

abbrev pub points_in : List Row → List (ℕ × ℕ)
points_in [] = []
points_in (symbol_row a l ∷ r) = points_in r
points_in (point_row x y ∷ r) = (x, y) ∷ points_in r
points_in (edge_row x m ∷ r) = points_in r

abbrev pub edges_in : List Row → List (ℕ × ℕ)
edges_in [] = []
edges_in (symbol_row a l ∷ r) = edges_in r
edges_in (point_row x y ∷ r) = edges_in r
edges_in (edge_row x m ∷ r) = (x, m) ∷ edges_in r

-- the rows stand in this order: S rows, F rows, E rows
abbrev pub Ordered : List Row → Type 0
Ordered r = map symbol_of (symbols_in r) ++ (map (λ (e : ℕ × ℕ). point_row e.0 e.1) (points_in r) ++ map mark_of (edges_in r)) ≡ r

-- the atoms of a list of fillings, in order
abbrev pub list_atoms : List Filling → List NetCell
list_atoms [] = []
list_atoms (f ∷ θ) = symbols_in f.rows ++ list_atoms θ

-- how many rows it has
abbrev pub list_rows : List Filling → ℕ
list_rows [] = 0
list_rows (f ∷ θ) = 1 + length f.rows + list_rows θ

-- 'for ascending blank numbers', all above n
abbrev pub Ascends : ℕ → List Filling → Type 0
Ascends n [] = Unit {0}
Ascends n (f ∷ θ) = (n < f.number) × Ascends f.number θ

-- a row of a filling that has these links and marks: 'name 1..999, joint count n 0..6'
abbrev pub RowFits : List ℕ → List ℕ → Row → Type 0
RowFits links marks (symbol_row a l) = Fitting links most_name (a, l)
RowFits links marks (point_row x y) = (x ∈ links) × (y ∈ links)
RowFits links marks (edge_row x m) = (x ∈ links) × (m ∈ marks)

-- a filling that can be written: 'blank number 1..4, port count 0..6', and rows over links and marks that a filling may have
pub record FillingFits (f : Filling) : Type 0 where
  pub number : Range most_context f.number
  pub ports : f.ports ≤ most_links
  pub links : List ℕ
  pub marks : List ℕ
  pub stock : Stock Fillings links marks
  pub each : (r : Row) → r ∈ f.rows → RowFits links marks r

-- a list of fillings that can be written: 'A list: 256 rows, 64 symbols in all'
pub record ListFits (θ : List Filling) : Type 0 where
  pub ascends : Ascends 0 θ
  pub fillings : (f : Filling) → f ∈ θ → FillingFits f
  pub few-atoms : length (list_atoms θ) ≤ sheet_atom_limit
  pub few-rows : list_rows θ ≤ row_limit

-- what is read of the part of a written list that is one blank's filling
abbrev pub part_of : List Filling → Filling → Outcome
part_of θ f = outcome_of Fillings no_ports (filling_of (list_text θ) f.number)
