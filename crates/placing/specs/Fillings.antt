-- Document 01, 'A placing' and 'Words of demand 3': the filling of a blank by a placing, and fillings of any size.
use Rattle.std.specs.Prelude.{ℕ, suc, ◌+◌, ◌≤◌, ◌≡◌, List, [], ◌∷◌, ◌++◌, map, eqb, ltb, length}
use Rattle.hyperlmntal.specs.Link.{◌∈◌}
use Rattle.hyperlmntal.specs.Template.{Template}
use Rattle.hyperlmntal.specs.Hypergraph.{Flat}
use Rattle.hyperlmntal.specs.TermOf.{term_of}
use Rattle.rows.specs.Pick.{pick}
use Rattle.reading.specs.Graph.{fusion_of, edge_of}
use Rattle.reading.specs.Normal.{normal_form}
use Rattle.placing.specs.Net.{NetCell, Net, Range, atom_vertex, net_of}
use Rattle.placing.specs.Placing.{Placing, cell_at, link_target}

-- a row of a filling, with link numbers without end; names and link counts are free too, as only those of a sheet can make that sheet
pub data Row : Type 0 where
  -- S: a name and its links
  symbol_row : ℕ → List ℕ → Row
  -- F: two links that are one point
  point_row : ℕ → ℕ → Row
  -- E: a link and its mark
  edge_row : ℕ → ℕ → Row

-- the links of a row
abbrev pub row_links : Row → List ℕ
row_links (symbol_row a l) = l
row_links (point_row x y) = x ∷ y ∷ []
row_links (edge_row x m) = x ∷ []

-- the hypergraph of rows: S rows are atoms, F and E rows fusions
abbrev pub rows_graph : List Row → Flat ℕ
rows_graph [] = record { atoms = []; fusions = [] }
rows_graph (symbol_row a l ∷ r) = record { atoms = atom_vertex (a, l) ∷ (rows_graph r).atoms; fusions = (rows_graph r).fusions }
rows_graph (point_row x y ∷ r) = record { atoms = (rows_graph r).atoms; fusions = fusion_of (x, y) ∷ (rows_graph r).fusions }
rows_graph (edge_row x m ∷ r) = record { atoms = (rows_graph r).atoms; fusions = edge_of (x, m) ∷ (rows_graph r).fusions }

-- the term of rows: every link is bound, the marks are free
abbrev pub rows_term : List Row → Template
rows_term r = term_of (rows_graph r)

-- a filling (the graph for a context): the number and the port count of its blank, as in an H row, and its rows
pub record Filling : Type 0 where
  pub number : ℕ
  pub ports : ℕ
  pub rows : List Row

-- the marks of rows are exactly 1..n
pub record ExactMarks (n : ℕ) (r : List Row) : Type 0 where
  pub within : (x m : ℕ) → edge_row x m ∈ r → Range n m
  pub every : (m : ℕ) → Range n m → (x : ℕ) × (edge_row x m ∈ r)

-- every filling has exactly its ports as marks
abbrev pub AllExactMarks : List Filling → Type 0
AllExactMarks θ = (f : Filling) → f ∈ θ → ExactMarks f.ports f.rows

-- 'one filling for each blank, its marks exactly that blank's ports', 'with joint numbers from 1'.
-- A filling that no blank of the figure asks for changes nothing.
pub record Fits (F : Net) (θ : List Filling) : Type 0 where
  pub for-each : (c : NetCell) → c ∈ F.contexts → (f : Filling) × (f ∈ θ) × (f.number ≡ c.0) × (f.ports ≡ length c.1)
  pub one : (f g : Filling) → f ∈ θ → g ∈ θ → f.number ≡ g.number → f ≡ g
  pub exact : AllExactMarks θ
  pub from_one : (f : Filling) → f ∈ θ → (r : Row) → r ∈ f.rows → (x : ℕ) → x ∈ row_links r → 1 ≤ x

-- the places, counted from s, where k stands
unfoldable pub places_of : ℕ → ℕ → List ℕ → List ℕ
places_of s k [] = []
places_of s k (n ∷ l) = pick (eqb n k) (s ∷ places_of (suc s) k l) (places_of (suc s) k l)

-- contexts in ascending order of their numbers, c in its place among them
unfoldable pub with_context : NetCell → List NetCell → List NetCell
with_context c [] = c ∷ []
with_context c (d ∷ l) = pick (ltb c.0 d.0) (c ∷ d ∷ l) (d ∷ with_context c l)

unfoldable pub by_number : List NetCell → List NetCell
by_number [] = []
by_number (c ∷ l) = with_context c (by_number l)

-- an S row
abbrev pub symbol_of : NetCell → Row
symbol_of c = symbol_row c.0 c.1

module _ (S : Net) (p : Placing) where
  -- the link where the port of figure link x stands: 'the joint it goes to'; 'a port going to none stands alone with its mark,
  -- sharing only with ports of the same figure joint', so it stands on a link of its own beyond those of the sheet
  abbrev pub stands_on : ℕ → ℕ
  stands_on x = pick (ltb S.links (link_target p x)) (S.links + x) (link_target p x)

  -- 'port i as mark i on the joint it goes to', from port i on
  abbrev pub port_rows : ℕ → List ℕ → List Row
  port_rows i [] = []
  port_rows i (x ∷ l) = edge_row (stands_on x) i ∷ port_rows (suc i) l

  -- 'its symbols in sheet order with their joints'
  abbrev pub given_rows : ℕ → List Row
  given_rows k = map (λ j. symbol_of (cell_at S.atoms j)) (places_of 1 k p.given)

  -- the filling of the blank c
  abbrev pub filling_for : NetCell → Filling
  filling_for c = record { number = c.0; ports = length c.1; rows = given_rows c.0 ++ port_rows 1 c.1 }

  -- the list of fillings of the figure's blanks: 'for ascending blank numbers'
  abbrev pub fillings_of : Net → List Filling
  fillings_of F = map filling_for (by_number F.contexts)

-- an E row
abbrev pub mark_of : ℕ × ℕ → Row
mark_of e = edge_row e.0 e.1

-- the rows of a net without blanks: its S rows, then its E rows
abbrev pub net_rows : Net → List Row
net_rows N = map symbol_of N.atoms ++ map mark_of N.marks

-- a filling 'given as normal text of its own'
abbrev pub normal_rows : List Row → List Row
normal_rows r = net_rows (net_of (normal_form (rows_graph r)))

abbrev pub normal_filling : Filling → Filling
normal_filling f = record { number = f.number; ports = f.ports; rows = normal_rows f.rows }

-- the fillings of the figure's blanks by a placing, each as normal text of its own
abbrev pub normal_fillings_of : Net → Placing → Net → List Filling
normal_fillings_of S p F = map normal_filling (fillings_of S p F)
