-- A list of the fillings of a placing, and a result within the limits of a sheet, have room in a slip of the full length.
use Prim.Native.Nat.{ℕ, ◌+◌, ◌*◌, ◌≤◌}
use mathlib.Core.Path.{◌≡◌, refl}
use mathlib.Core.List.Memᴰ
use mathlib.Core.List.{List, [], ◌∷◌, ◌++◌, map}
use native.Mathlib.Omega.{arith}
use lib.ListN.{length, length-append, length-map}
use Rattle.hyperlmntal.specs.Link.{◌∈◌}
use Rattle.hyperlmntal.specs.Hypergraph.{Node, Label, symbol, hole, Cell, Fusion, Flat, map_cell}
use Rattle.rows.specs.Format.{most_links, row_width, most_context}
use Rattle.rows.specs.Limits.{sheet_atom_limit, sheet_marks}
use Rattle.writing.proofs.RowBytes.{row-width}
use Rattle.reading.specs.Normal.{class_of, marks_of, numbered_by, marked_by, normal_form_by, normal_form}
use Rattle.normalising.specs.NormalText.{node_number, cell_bytes, edge_bytes, joined, text_of, slip_length}
use Rattle.placing.specs.Net.{Net, NormalSheet, NormalPattern}
use Rattle.placing.specs.Placing.{Placing, Good}
use Rattle.placing.specs.Fillings.{Row, symbol_row, point_row, edge_row, Filling, fillings_of, normal_filling, normal_fillings_of, AllExactMarks}
use Rattle.placing.specs.ListText.{row_text, rows_text, head_text, list_text}
use Rattle.placing.specs.ListFits.{symbols_in, list_atoms, list_rows, Ascends, ListFits}
use Rattle.placing.proofs.NormalRowsFit.{normal-symbols, normal-length}
use Rattle.placing.proofs.Theorems.{placing-fillings}

-- Every row has the width of a row.
row-bytes : (r : Row) → length (row_text r) ≡ row_width
row-bytes (symbol_row a l) = row-width 83 (a ∷ length l ∷ l)
row-bytes (point_row x y) = row-width 70 (x ∷ y ∷ [])
row-bytes (edge_row x m) = row-width 69 (x ∷ m ∷ [])

rows-bytes : (l : List Row) → length (rows_text l) ≡ length l * row_width
unfolding rows_text
rows-bytes [] = refl
rows-bytes (r ∷ l) = let h = rows-bytes l in omega (arith, length-append (row_text r) (rows_text l), row-bytes r)

pub list-bytes : (θ : List Filling) → length (list_text θ) ≡ list_rows θ * row_width
unfolding list_text
list-bytes [] = refl
list-bytes (f ∷ θ) =
    let h = list-bytes θ in
    omega (arith, length-append (head_text f) (rows_text f.rows ++ list_text θ), length-append (rows_text f.rows) (list_text θ), row-width 72 (f.number ∷ f.ports ∷ []), rows-bytes f.rows)

-- At most as many fillings as there are blank numbers, since theirs ascend.
ascends-length : (n : ℕ) (θ : List Filling) → Ascends n θ → n ≤ most_context → ((f : Filling) → f ∈ θ → f.number ≤ most_context) → n + length θ ≤ most_context
ascends-length n [] a h p = omega arith
ascends-length n (f ∷ θ) a h p = let b = ascends-length f.number θ a.1 (p f (Memᴰ.head refl)) (λ g m. p g (Memᴰ.tail m)) in omega (arith, a.0)

-- A head, the ports, and the atoms.
normal-rows : (η : List Filling) → AllExactMarks η → ((f : Filling) → f ∈ η → f.ports ≤ most_links) → list_rows (map normal_filling η) ≤ (1 + most_links) * length η + length (list_atoms (map normal_filling η))
normal-rows [] x p = omega arith
normal-rows (f ∷ η) x p =
    let h = normal-rows η (λ g m. x g (Memᴰ.tail m)) (λ g m. p g (Memᴰ.tail m)) in
    let a = normal-length f.rows f.ports (x f (Memᴰ.head refl)) in
    let b = normal-symbols f.rows in
    let c = length-append (symbols_in (normal_filling f).rows) (list_atoms (map normal_filling η)) in
    omega (arith, p f (Memᴰ.head refl))

module _ (S F : Net) (s : NormalSheet S) (f : NormalPattern F) (p : Placing) (good : Good S F p) (fits : ListFits (normal_fillings_of S p F)) where
  pub list-room : length (list_text (normal_fillings_of S p F)) ≤ slip_length
  list-room =
      let θ = normal_fillings_of S p F in
      let a = ascends-length 0 θ fits.ascends (omega arith) (λ g m. (fits.fillings g m).number.1) in
      let b = normal-rows (fillings_of S p F) (placing-fillings S F s f p good).0.exact (λ g m. (fits.fillings (normal_filling g) (Memᴰ.map normal_filling m)).ports) in
      omega (arith, list-bytes θ, fits.few-atoms, length-map (fillings_of S p F) normal_filling)

-- The text of a hypergraph.
cell-width : (t : Label) (l : List (Node ℕ)) → length (cell_bytes (record { label = t; ports = l })) ≡ row_width
cell-width (symbol p) l = row-width 83 (p ∷ length l ∷ map node_number l)
cell-width (hole x) l = row-width 66 (x ∷ length l ∷ map node_number l)

cells-width : (l : List (Cell ℕ)) → length (joined (map cell_bytes l)) ≡ length l * row_width
unfolding joined
cells-width [] = refl
cells-width (c ∷ l) = let h = cells-width l in omega (arith, length-append (cell_bytes c) (joined (map cell_bytes l)), cell-width c.label c.ports)

edges-width : (l : List (Fusion ℕ)) → length (joined (map edge_bytes l)) ≡ length l * row_width
unfolding joined
edges-width [] = refl
edges-width (e ∷ l) = let h = edges-width l in omega (arith, length-append (edge_bytes e) (joined (map edge_bytes l)), row-width 69 (node_number e.0 ∷ node_number e.1 ∷ []))

pub text-room : (G : Flat ℕ) → length G.atoms ≤ sheet_atom_limit → length (marks_of G) ≤ sheet_marks → length (text_of (normal_form G)) ≤ slip_length
unfolding normal_form normal_form_by
text-room G a m =
    omega (
      arith,
      length-append (joined (map cell_bytes (normal_form G).atoms)) (joined (map edge_bytes (normal_form G).fusions)),
      cells-width (normal_form G).atoms,
      edges-width (normal_form G).fusions,
      length-map G.atoms (map_cell (numbered_by (class_of G.fusions) G)),
      length-map (marks_of G) (marked_by (class_of G.fusions) G),
    )
