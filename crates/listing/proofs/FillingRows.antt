-- The rows of a filling as normal text: its fusions only put each mark on a link, so its classes are its links, numbered by first
-- appearance, and its marks are 1, 2, ...
use Prim.Native.Nat.{ℕ, suc, ◌+◌, ◌-◌, ◌<◌, ◌≤◌}
use mathlib.Core.Path.{◌≡◌, refl, ap, ap₂, sym, ◌∙◌, subst}
use mathlib.Core.List.Memᴰ
use mathlib.Core.List.{List, [], ◌∷◌, ◌++◌, map, map-append, map-map, append_assoc}
use mathlib.Core.Logic.{◌⊎◌, inl, inr}
use native.Mathlib.Omega.{arith}
use borrow.Author.Tests.{lt-ltb}
use lib.ListN.{length, get_or, length-map}
use Rattle.hyperlmntal.specs.Link.{local, free, ◌∈◌}
use Rattle.hyperlmntal.specs.Hypergraph.{Node, inner, name, Flat, Connected, stay, along, back, then, port_nodes, end_nodes}
use Rattle.hyperlmntal.proofs.Connection.{connected-≡}
use Rattle.hyperlmntal.proofs.Lists.{map-agree}
use Rattle.rows.specs.Held.{index_of}
use Rattle.reading.specs.Graph.{edge_of}
use Rattle.reading.specs.Normal.{inserted, mark_node, marks_among, marks_of, shown, distinct, classes_by, number_by, marked_by, normal_form_by, normal_form}
use Rattle.reading.proofs.normal.NormalBy.{Labels, normal-by}
use Rattle.placing.specs.Net.{NetCell, atom_vertex, cell_links, edge_numbers, net_of}
use Rattle.placing.specs.Fillings.{Row, rows_graph, symbol_of, mark_of, net_rows, normal_rows}
use Rattle.placing.specs.ListText.{row_text, rows_text}
use Rattle.placing.proofs.NormalNets.{atom-nodes}
use Rattle.placing.proofs.NormalFillings.{rows-of-net}
use Rattle.placing.proofs.NormalRowsFit.{among-numbered}
use Rattle.listing.specs.Writing.{symbols_bytes, ports_bytes, appearing, number_among}

-- The marks of the links where ports stand, from mark i on.
abbrev pub marks_from : ℕ → List ℕ → List (ℕ × ℕ)
marks_from i [] = []
marks_from i (x ∷ l) = (x, i) ∷ marks_from (suc i) l

abbrev numbers_from : ℕ → List ℕ → List ℕ
numbers_from i [] = []
numbers_from i (x ∷ l) = i ∷ numbers_from (suc i) l

mark-place : (i : ℕ) (l : List ℕ) (e : ℕ × ℕ) → e ∈ marks_from i l → (e.0 ≡ get_or l (e.1 - i) 0) × (i ≤ e.1)
mark-place i [] e m = absurd (Memᴰ.not-nil m)
mark-place i (x ∷ l) e m = at (Memᴰ.cases_cons m) (mark-place (suc i) l e)
  where
    at : (e ≡ (x, i)) ⊎ (e ∈ marks_from (suc i) l) → (e ∈ marks_from (suc i) l → (e.0 ≡ get_or l (e.1 - suc i) 0) × (suc i ≤ e.1)) → (e.0 ≡ get_or (x ∷ l) (e.1 - i) 0) × (i ≤ e.1)
    at (inl q) f =
        let a : e.0 ≡ x = ap (λ z. z.0) q in
        let b : e.1 ≡ i = ap (λ z. z.1) q in
        let k : e.1 - i ≡ 0 = omega arith in
        (a ∙ rw k, omega arith)
    at (inr k) f =
        let t = f k in
        let low : suc i ≤ e.1 = t.1 in
        let q : e.1 - i ≡ suc (e.1 - suc i) = omega arith in
        (t.0 ∙ rw q, omega arith)

mark-there : (i : ℕ) (l : List ℕ) (m : ℕ) → m ∈ numbers_from i l → ((get_or l (m - i) 0, m) ∈ marks_from i l) × (i ≤ m)
mark-there i [] m k = absurd (Memᴰ.not-nil k)
mark-there i (x ∷ l) m k = at (Memᴰ.cases_cons k) (mark-there (suc i) l m)
  where
    at : (m ≡ i) ⊎ (m ∈ numbers_from (suc i) l) → (m ∈ numbers_from (suc i) l → ((get_or l (m - suc i) 0, m) ∈ marks_from (suc i) l) × (suc i ≤ m))
        → ((get_or (x ∷ l) (m - i) 0, m) ∈ marks_from i (x ∷ l)) × (i ≤ m)
    at (inl q) f =
        let z : m - i ≡ 0 = omega arith in
        let e : ◌≡◌ {A = ℕ × ℕ} (get_or (x ∷ l) (m - i) 0, m) (x, i) = rw (z, q) in
        (Memᴰ.head e, omega arith)
    at (inr j) f =
        let t = f j in
        let low : suc i ≤ m = t.1 in
        let q : m - i ≡ suc (m - suc i) = omega arith in
        let k : (get_or (x ∷ l) (m - i) 0, m) ∈ marks_from (suc i) l = rw q t.0 in
        (Memᴰ.tail k, omega arith)

-- The marks of such fusions.
inserted-first : (i : ℕ) (l : List ℕ) → inserted i (numbers_from (suc i) l) ≡ i ∷ numbers_from (suc i) l
unfolding inserted
inserted-first i [] = refl
inserted-first i (x ∷ l) = rw (lt-ltb i (suc i) (omega arith))

marks-from : (i : ℕ) (l : List ℕ) → marks_among (end_nodes (map edge_of (marks_from i l))) ≡ numbers_from i l
unfolding marks_among
marks-from i [] = refl
marks-from i (x ∷ l) = ap (inserted i) (marks-from (suc i) l) ∙ inserted-first i l

no-marks : (l : List ℕ) (k : List (Node ℕ)) → marks_among (map inner l ++ k) ≡ marks_among k
unfolding marks_among
no-marks [] k = refl
no-marks (x ∷ l) k = no-marks l k

-- A map on marks that finds the links.
found : (g : ℕ → ℕ) (i : ℕ) (l : List ℕ) → ((k : ℕ) → k < length l → g (i + k) ≡ get_or l k 0) → map g (numbers_from i l) ≡ l
found g i [] h = refl
found g i (x ∷ l) h =
    let a : i + 0 ≡ i = omega arith in
    ap₂ ◌∷◌ (subst (λ n. g n ≡ x) a (h 0 (omega arith)))
    (found g (suc i) l (λ k q. let b : suc i + k ≡ i + suc k = omega arith in rw b (h (suc k) (omega arith))))

abbrev pub rows_of : List NetCell → List ℕ → List Row
rows_of cells ports = map symbol_of cells ++ map mark_of (marks_from 1 ports)

-- The bytes of rows.
rows-text-append : (a b : List Row) → rows_text (a ++ b) ≡ rows_text a ++ rows_text b
unfolding rows_text
rows-text-append [] b = refl
rows-text-append (r ∷ a) b = ap (λ t. row_text r ++ t) (rows-text-append a b) ∙ sym (append_assoc (row_text r) (rows_text a) (rows_text b))

symbols-text : (f : ℕ → ℕ) (l : List NetCell) → rows_text (map symbol_of (map (λ c. (c.0, map f c.1)) l)) ≡ symbols_bytes f l
unfolding rows_text symbols_bytes
symbols-text f [] = refl
symbols-text f (c ∷ l) = rw (length-map c.1 f, symbols-text f l)

ports-text : (f g : ℕ → ℕ) (i : ℕ) (l : List ℕ) → ((k : ℕ) → k < length l → g (i + k) ≡ f (get_or l k 0)) → rows_text (map mark_of (map (λ m. (g m, m)) (numbers_from i l))) ≡ ports_bytes f i l
unfolding rows_text ports_bytes
ports-text f g i [] h = refl
ports-text f g i (x ∷ l) h =
    let a : i + 0 ≡ i = omega arith in
    let e : g i ≡ f x = subst (λ n. g n ≡ f x) a (h 0 (omega arith)) in
    rw (e, ports-text f g (suc i) l (λ k q. let b : suc i + k ≡ i + suc k = omega arith in rw b (h (suc k) (omega arith))))

module _ (cells : List NetCell) (ports : List ℕ) where
  graph : Flat ℕ
  graph = record { atoms = map atom_vertex cells; fusions = map edge_of (marks_from 1 ports) }

  -- A link is its own label, and a mark has that of the link where its port stands.
  label : Node ℕ → ℕ
  label (inner x) = x
  label (name (free m)) = get_or ports (m - 1) 0
  label (name (local n)) = 0

  marks-all : marks_of graph ≡ numbers_from 1 ports
  unfolding graph
  marks-all = ap (λ l. marks_among (l ++ end_nodes (map edge_of (marks_from 1 ports)))) (atom-nodes cells) ∙ no-marks (cell_links cells) (end_nodes (map edge_of (marks_from 1 ports))) ∙ marks-from 1 ports

  same-label : {a b : Node ℕ} → Connected graph.fusions a b → label a ≡ label b
  unfolding graph label
  same-label stay = refl
  same-label (along {a} {b} m) = at (Memᴰ.of_map edge_of (marks_from 1 ports) m)
    where
      at : (e : ℕ × ℕ) × (e ∈ marks_from 1 ports) × (edge_of e ≡ (a, b)) → label a ≡ label b
      at t = subst (λ z. label z.0 ≡ label z.1) t.2 (mark-place 1 ports t.0 t.1).0
  same-label (back c) = sym (same-label c)
  same-label (then c d) = same-label c ∙ same-label d

  reached : (x : Node ℕ) → x ∈ shown graph → Connected graph.fusions x (inner (label x))
  unfolding graph label
  reached x i = at (Memᴰ.append_cases (port_nodes (map atom_vertex cells)) i)
    where
      at : (x ∈ port_nodes (map atom_vertex cells)) ⊎ (x ∈ map mark_node (marks_of graph)) → Connected graph.fusions x (inner (label x))
      at (inl k) =
          let t : (n : ℕ) × (n ∈ cell_links cells) × (inner n ≡ x) = Memᴰ.of_map inner (cell_links cells) (subst (λ l. x ∈ l) (atom-nodes cells) k) in
          subst (λ z. Connected graph.fusions z (inner (label z))) t.2 stay
      at (inr k) =
          let t : (m : ℕ) × (m ∈ marks_of graph) × (mark_node m ≡ x) = Memᴰ.of_map mark_node (marks_of graph) k in
          subst (λ z. Connected graph.fusions z (inner (label z))) t.2 (back (along (Memᴰ.map edge_of (mark-there 1 ports t.0 (subst (λ l. t.0 ∈ l) marks-all t.1)).0)))

  labels : Labels graph label
  labels x y i j = (λ e. then (reached x i) (then (connected-≡ graph.fusions (ap inner e)) (back (reached y j))), λ c. same-label c)

  own-links : (l : List ℕ) → map label (map inner l) ≡ l
  unfolding label
  own-links [] = refl
  own-links (x ∷ l) = ap (λ k. x ∷ k) (own-links l)

  port-at : (k : ℕ) → k < length ports → get_or ports (1 + k - 1) 0 ≡ get_or ports k 0
  port-at k h = let e : 1 + k - 1 ≡ k = omega arith in rw e

  shown-labels : map label (shown graph) ≡ appearing cells ports
  unfolding graph label
  shown-labels =
      map-append label (port_nodes (map atom_vertex cells)) (map mark_node (marks_of graph))
      ∙ ap₂ ◌++◌ (ap (map label) (atom-nodes cells) ∙ own-links (cell_links cells))
      (ap (λ l. map label (map mark_node l)) marks-all ∙ map-map label mark_node (numbers_from 1 ports) ∙ found (λ m. get_or ports (m - 1) 0) 1 ports port-at)

  number-label : (x : Node ℕ) → number_by label graph x ≡ number_among (appearing cells ports) (label x)
  unfolding number_by classes_by
  number-label x = ap (λ l. suc (index_of (label x) (distinct l))) shown-labels

  abbrev number : ℕ → ℕ
  number = number_among (appearing cells ports)

  abbrev form : Flat ℕ
  form = normal_form_by label graph

  form-same : normal_form (rows_graph (rows_of cells ports)) ≡ form
  unfolding graph
  form-same = ap normal_form (rows-of-net cells (marks_from 1 ports)) ∙ normal-by graph label labels

  form-atoms : (net_of form).atoms ≡ map (λ c. (c.0, map number c.1)) cells
  unfolding graph normal_form_by label
  form-atoms =
      among-numbered (number_by label graph) cells
      ∙ map-agree (λ (c : NetCell). (c.0, map (number_by label graph) (map inner c.1))) (λ c. (c.0, map number c.1)) cells
      (λ c i. ap (λ (k : List ℕ). (c.0, k)) (map-map (number_by label graph) inner c.1 ∙ map-agree (λ x. number_by label graph (inner x)) number c.1 (λ x m. number-label (inner x))))

  form-marks : (net_of form).marks ≡ map (λ m. (number_by label graph (mark_node m), m)) (numbers_from 1 ports)
  unfolding graph normal_form_by
  form-marks = map-map edge_numbers (marked_by label graph) (marks_of graph) ∙ ap (map (λ m. (number_by label graph (mark_node m), m))) marks-all

  -- The atoms of the normal rows, and where their marks stand.
  pub filling-atoms : (net_of (normal_form (rows_graph (rows_of cells ports)))).atoms ≡ map (λ c. (c.0, map number c.1)) cells
  filling-atoms = ap (λ G. (net_of G).atoms) form-same ∙ form-atoms

  pub filling-marked : map (λ e. e.0) (net_of (normal_form (rows_graph (rows_of cells ports)))).marks ≡ map number ports
  unfolding label
  filling-marked =
      ap (λ G. map (λ e. e.0) (net_of G).marks) form-same ∙ ap (map (λ (e : ℕ × ℕ). e.0)) form-marks
      ∙ map-map (λ (e : ℕ × ℕ). e.0) (λ m. (number_by label graph (mark_node m), m)) (numbers_from 1 ports)
      ∙ map-agree (λ m. number_by label graph (mark_node m)) (λ m. number (get_or ports (m - 1) 0)) (numbers_from 1 ports) (λ m i. number-label (mark_node m))
      ∙ sym (map-map number (λ m. get_or ports (m - 1) 0) (numbers_from 1 ports)) ∙ ap (map number) (found (λ m. get_or ports (m - 1) 0) 1 ports port-at)

  symbols : rows_text (map symbol_of (net_of form).atoms) ≡ symbols_bytes number cells
  symbols = ap (λ l. rows_text (map symbol_of l)) form-atoms ∙ symbols-text number cells

  marks : rows_text (map mark_of (net_of form).marks) ≡ ports_bytes number 1 ports
  unfolding label
  marks =
      ap (λ l. rows_text (map mark_of l)) form-marks
      ∙ ports-text number (λ m. number_by label graph (mark_node m)) 1 ports (λ k h. number-label (mark_node (1 + k)) ∙ ap number (port-at k h))

  -- The text of the normal rows.
  pub rows-text : rows_text (normal_rows (rows_of cells ports)) ≡ symbols_bytes number cells ++ ports_bytes number 1 ports
  rows-text =
      ap (λ G. rows_text (net_rows (net_of G))) form-same
      ∙ rows-text-append (map symbol_of (net_of form).atoms) (map mark_of (net_of form).marks)
      ∙ ap₂ ◌++◌ symbols marks
