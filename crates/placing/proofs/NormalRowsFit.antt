-- A filling as normal text of its own can be written: its links, marks and names are in range and within the limits of a list.
use Prim.Native.Nat.{ℕ, ◌+◌, ◌≤◌}
use mathlib.Core.Path.{◌≡◌, refl, sym, ap, ap₂, ◌∙◌, subst}
use mathlib.Core.List.Memᴰ
use mathlib.Core.List.{List, [], ◌∷◌, ◌++◌, map, map-map}
use mathlib.Core.Logic.{◌⊎◌, inl, inr}
use native.Mathlib.Omega.{arith}
use lib.ListN.{length, length-append, length-map}
use Rattle.hyperlmntal.specs.Link.{free, ◌∈◌}
use Rattle.hyperlmntal.specs.Hypergraph.{Node, inner, name, Connected, along, back, then, port_nodes, nodes, map_cell}
use Rattle.hyperlmntal.proofs.Connection.{connected-≡}
use Rattle.rows.specs.Format.{most_links, most_name, most_context}
use Rattle.rows.specs.Limits.{filling_links}
use Rattle.rows.specs.Ranges.{Within}
use Rattle.reading.specs.Normal.{class_of, mark_node, marks_of, shown, number_by, marked_by, normal_form_by, normal_form}
use Rattle.normalising.specs.NormalText.{node_number}
use Rattle.reading.proofs.normal.Distinct.{once-length}
use Rattle.reading.proofs.normal.Marks.{marks-of}
use Rattle.reading.proofs.normal.NormalBounds.{class_total, number-range, classes-bound, normal-marks}
use Rattle.texts.proofs.NormalFits.{up_to, up_to-length, up_to-in, up_to-of}
use Rattle.placing.specs.Net.{NetCell, Net, Range, atoms_among, edge_numbers, net_of, atom_vertex, cell_links}
use Rattle.placing.specs.Fillings.{Row, symbol_row, point_row, edge_row, row_links, rows_graph, Filling, ExactMarks, symbol_of, mark_of, normal_rows, normal_filling}
use Rattle.placing.specs.ListFits.{symbols_in, RowFits, FillingFits}
use Rattle.placing.proofs.Names.{rows-atoms, fusion-rows, rows-name}
use Rattle.placing.proofs.Standing.{in_cells, of-cells}
use Rattle.placing.proofs.NormalNets.{atom-nodes}

-- The S row of an atom among rows.
pub symbol-row : (r : List Row) (c : NetCell) → c ∈ symbols_in r → symbol_of c ∈ r
symbol-row [] c m = absurd (Memᴰ.not-nil m)
symbol-row (symbol_row a l ∷ r) c m = at (Memᴰ.cases_cons m) (symbol-row r c)
  where
    at : (c ≡ (a, l)) ⊎ (c ∈ symbols_in r) → (c ∈ symbols_in r → symbol_of c ∈ r) → symbol_of c ∈ (symbol_row a l ∷ r)
    at (inl e) f = Memᴰ.head (ap symbol_of e)
    at (inr k) f = Memᴰ.tail (f k)
symbol-row (point_row x y ∷ r) c m = Memᴰ.tail (symbol-row r c m)
symbol-row (edge_row x k ∷ r) c m = Memᴰ.tail (symbol-row r c m)

pub symbols-of-net : (a : List NetCell) (m : List (ℕ × ℕ)) → symbols_in (map symbol_of a ++ map mark_of m) ≡ a
symbols-of-net (c ∷ a) m = ap (λ l. c ∷ l) (symbols-of-net a m)
symbols-of-net [] [] = refl
symbols-of-net [] (e ∷ m) = symbols-of-net [] m

pub among-numbered : (f : Node ℕ → ℕ) (l : List NetCell)
    → atoms_among (map (map_cell (λ x. inner (f x))) (map atom_vertex l)) ≡ map (λ c. (c.0, map f (map inner c.1))) l
among-numbered f [] = refl
among-numbered f (c ∷ l) = ap₂ ◌∷◌ (ap (λ k. (c.0, k)) (map-map node_number (λ x. inner (f x)) (map inner c.1))) (among-numbered f l)

module _ (r : List Row) where
  N : Net
  N = net_of (normal_form (rows_graph r))

  number : Node ℕ → ℕ
  number = number_by (class_of (rows_graph r).fusions) (rows_graph r)

  numbered : NetCell → NetCell
  numbered c = (c.0, map number (map inner c.1))

  marking : ℕ → ℕ × ℕ
  marking m = (number (mark_node m), m)

  -- The atoms and the marks of the normal rows.
  normal-cells : N.atoms ≡ map numbered (symbols_in r)
  unfolding N number numbered normal_form normal_form_by
  normal-cells = ap (λ l. atoms_among (map (map_cell (λ x. inner (number x))) l)) (rows-atoms r) ∙ among-numbered number (symbols_in r)

  normal-edges : N.marks ≡ map marking (marks_of (rows_graph r))
  unfolding N number marking normal_form normal_form_by
  normal-edges = map-map edge_numbers (marked_by (class_of (rows_graph r).fusions) (rows_graph r)) (marks_of (rows_graph r))

  pub normal-symbols : length (symbols_in (normal_rows r)) ≡ length (symbols_in r)
  unfolding N
  normal-symbols = ap length (symbols-of-net N.atoms N.marks ∙ normal-cells) ∙ length-map (symbols_in r) numbered

  -- Every port of an atom and every mark is numbered.
  port-shown : (c : NetCell) (x : ℕ) → c ∈ symbols_in r → x ∈ c.1 → inner x ∈ shown (rows_graph r)
  port-shown c x i j =
      Memᴰ.append_left (map mark_node (marks_of (rows_graph r)))
      (subst (λ l. inner x ∈ l) (sym (ap port_nodes (rows-atoms r) ∙ atom-nodes (symbols_in r))) (Memᴰ.map inner (in_cells (symbols_in r) c x i j)))

  number-in : (x : Node ℕ) → x ∈ shown (rows_graph r) → number x ∈ up_to (class_total (rows_graph r))
  unfolding number
  number-in x i = let t = number-range (class_of (rows_graph r).fusions) (rows_graph r) x i in up_to-in (class_total (rows_graph r)) (number x) t.0 t.1

  -- No more classes than links in a list that has those of all rows.
  module _ (l : List ℕ) (all : (q : Row) → q ∈ r → (x : ℕ) → x ∈ row_links q → x ∈ l) where
    abbrev Reached : Node ℕ → Type 0
    Reached x = (n : ℕ) × (n ∈ l) × Connected (rows_graph r).fusions x (inner n)

    port-reached : (x : Node ℕ) → x ∈ port_nodes (rows_graph r).atoms → Reached x
    port-reached x i =
        let t : (n : ℕ) × (n ∈ cell_links (symbols_in r)) × (inner n ≡ x) = Memᴰ.of_map inner (cell_links (symbols_in r)) (subst (λ k. x ∈ k) (ap port_nodes (rows-atoms r) ∙ atom-nodes (symbols_in r)) i) in
        let u = of-cells (symbols_in r) t.0 t.1 in
        (t.0, all (symbol_of u.0) (symbol-row r u.0 u.1) t.0 u.2, connected-≡ _ (sym t.2))

    mark-reached : (m : ℕ) → m ∈ marks_of (rows_graph r) → Reached (mark_node m)
    mark-reached m i =
        let t = rows-name r (free m) (marks-of (nodes (rows_graph r)) m i) in
        (t.0, all (edge_row t.0 t.1) t.2 t.0 (Memᴰ.head refl), then (connected-≡ _ (ap name t.3)) (back (along (fusion-rows r t.0 t.1 t.2))))

    few-classes : class_total (rows_graph r) ≤ length l
    few-classes = classes-bound (rows_graph r) l (λ x i. at x (Memᴰ.append_cases (port_nodes (rows_graph r).atoms) i))
      where
        at : (x : Node ℕ) → (x ∈ port_nodes (rows_graph r).atoms) ⊎ (x ∈ map mark_node (marks_of (rows_graph r))) → Reached x
        at x (inl i) = port-reached x i
        at x (inr i) = let t : (m : ℕ) × (m ∈ marks_of (rows_graph r)) × (mark_node m ≡ x) = Memᴰ.of_map mark_node (marks_of (rows_graph r)) i in subst Reached t.2 (mark-reached t.0 t.1)

  module _ (n : ℕ) (exact : ExactMarks n r) where
    -- The marks are those of the ports.
    mark-port : (m : ℕ) → m ∈ marks_of (rows_graph r) → Range n m
    mark-port m i =
        let t = rows-name r (free m) (marks-of (nodes (rows_graph r)) m i) in
        let q : free m ≡ free t.1 = t.3 in
        subst (Range n) (let z : t.1 ≡ m = cc in z) (exact.within t.0 t.1 t.2)

    mark-in : (m : ℕ) → m ∈ marks_of (rows_graph r) → m ∈ up_to n
    mark-in m i = let t = mark-port m i in up_to-in n m t.0 t.1

    few-marks : length (marks_of (rows_graph r)) ≤ n
    few-marks = let h = once-length (marks_of (rows_graph r)) (up_to n) (normal-marks (rows_graph r)).1 mark-in in omega (arith, up_to-length n)

    -- At most one row for each atom and each port.
    pub normal-length : length (normal_rows r) ≤ length (symbols_in r) + n
    unfolding N
    normal-length =
        let a = length-append (map symbol_of N.atoms) (map mark_of N.marks) in
        let b = length-map N.atoms symbol_of in
        let c = length-map N.marks mark_of in
        let d = ap length normal-cells ∙ length-map (symbols_in r) numbered in
        let e = ap length normal-edges ∙ length-map (marks_of (rows_graph r)) marking in
        omega (arith, few-marks)

    abbrev Fit : Row → Type 0
    Fit q = RowFits (up_to (class_total (rows_graph r))) (up_to n) q

    -- Every row fits, where the names and link counts do.
    module _ (cells : (c : NetCell) → c ∈ symbols_in r → Within 1 c.0 most_name × (length c.1 ≤ most_links)) where
      symbol-fits : (c : NetCell) → c ∈ symbols_in r → Fit (symbol_of (numbered c))
      unfolding numbered
      symbol-fits c i =
          let w = cells c i in
          let a = length-map (map inner c.1) number in
          let b = length-map c.1 inner in
          record { name = w.0; count = omega (arith, w.1); known = λ x j. port x (Memᴰ.of_map number (map inner c.1) j) }
        where
          port : (x : ℕ) → (y : Node ℕ) × (y ∈ map inner c.1) × (number y ≡ x) → x ∈ up_to (class_total (rows_graph r))
          port x t =
              let u : (z : ℕ) × (z ∈ c.1) × (inner z ≡ t.0) = Memᴰ.of_map inner c.1 t.1 in
              Memᴰ.cast (sym t.2 ∙ ap number (sym u.2)) (number-in (inner u.0) (port-shown c u.0 i u.1))

      edge-fits : (m : ℕ) → m ∈ marks_of (rows_graph r) → Fit (mark_of (marking m))
      unfolding marking
      edge-fits m i = (number-in (mark_node m) (Memᴰ.append_right (port_nodes (rows_graph r).atoms) (Memᴰ.map mark_node i)), mark-in m i)

      rows_fit : (q : Row) → q ∈ normal_rows r → Fit q
      unfolding N
      rows_fit q i = at (Memᴰ.append_cases (map symbol_of N.atoms) i)
        where
          at : (q ∈ map symbol_of N.atoms) ⊎ (q ∈ map mark_of N.marks) → Fit q
          at (inl k) =
              let t : (c : NetCell) × (c ∈ N.atoms) × (symbol_of c ≡ q) = Memᴰ.of_map symbol_of N.atoms k in
              let u : (c : NetCell) × (c ∈ symbols_in r) × (numbered c ≡ t.0) = Memᴰ.of_map numbered (symbols_in r) (subst (λ l. t.0 ∈ l) normal-cells t.1) in
              subst Fit (ap symbol_of u.2 ∙ t.2) (symbol-fits u.0 u.1)
          at (inr k) =
              let t : (e : ℕ × ℕ) × (e ∈ N.marks) × (mark_of e ≡ q) = Memᴰ.of_map mark_of N.marks k in
              let u : (m : ℕ) × (m ∈ marks_of (rows_graph r)) × (marking m ≡ t.0) = Memᴰ.of_map marking (marks_of (rows_graph r)) (subst (λ l. t.0 ∈ l) normal-edges t.1) in
              subst Fit (ap mark_of u.2 ∙ t.2) (edge-fits u.0 u.1)

-- The filling as a whole.
pub normal-filling-fits : (f : Filling) → Within 1 f.number most_context → f.ports ≤ most_links → ExactMarks f.ports f.rows
    → ((c : NetCell) → c ∈ symbols_in f.rows → Within 1 c.0 most_name × (length c.1 ≤ most_links))
    → (l : List ℕ) → length l ≤ filling_links → ((q : Row) → q ∈ f.rows → (x : ℕ) → x ∈ row_links q → x ∈ l) → FillingFits (normal_filling f)
normal-filling-fits f number ports exact cells l few all =
    let k = few-classes f.rows l all in
    record {
      number = number;
      ports = ports;
      links = up_to (class_total (rows_graph f.rows));
      marks = up_to f.ports;
      stock = record {
        joint-range = λ x i. let t = up_to-of (class_total (rows_graph f.rows)) x i in (t.0, omega (arith, t.1));
        mark-range = λ m i. let t = up_to-of f.ports m i in (t.0, omega (arith, t.1));
        few-joints = omega (arith, up_to-length (class_total (rows_graph f.rows)));
        few-marks = omega (arith, up_to-length f.ports);
      };
      each = rows_fit f.rows f.ports exact cells;
    }
