-- Fillings as normal texts of their own: they fit as well, and the figure holding them is congruent.
use Prim.Native.Nat.{ℕ, ◌≤◌}
use mathlib.Core.Path.{◌≡◌, refl, ap, ap₂, sym, ◌∙◌, subst}
use mathlib.Core.Logic.{◌⊎◌, inl, inr}
use mathlib.Core.List.Memᴰ
use mathlib.Core.List.{List, [], ◌∷◌, ◌++◌, map, map-map}
use Rattle.hyperlmntal.specs.Link.{free, ◌∈◌}
use Rattle.hyperlmntal.specs.Template.{Template}
use Rattle.hyperlmntal.specs.Congruence.{◌≅◌, ≅-refl}
use Rattle.hyperlmntal.specs.GraphSubstitution.{AllCongruent}
use Rattle.hyperlmntal.specs.Hypergraph.{Node, inner, name, Cell, Flat, nodes, map_cell}
use Rattle.hyperlmntal.specs.TermOf.{term_of}
use Rattle.hyperlmntal.proofs.Flats.{flat-≡, cell-≡, on-atoms, on-fusions, ends-in}
use Rattle.hyperlmntal.proofs.Theorems.{fillings-congruent}
use Rattle.reading.specs.Graph.{edge_of}
use Rattle.reading.specs.Normal.{class_of, marks_of, number_by, marked_by, normal_form_by, normal_form}
use Rattle.normalising.specs.NormalText.{node_number}
use Rattle.reading.proofs.normal.NormalBounds.{normal-range}
use Rattle.texts.proofs.NormalIso.{normal-names, normal-congruent}
use Rattle.placing.specs.Net.{NetCell, Net, Range, atoms_among, edge_numbers, net_of, atom_vertex}
use Rattle.placing.specs.Fillings.{Row, edge_row, row_links, rows_graph, rows_term, Filling, ExactMarks, Fits, symbol_of, mark_of, normal_rows, normal_filling}
use Rattle.placing.specs.Holding.{substitution_of, holding_term}
use Rattle.placing.specs.ListFits.{symbols_in}
use Rattle.placing.proofs.Names.{rows-atoms, rows-name, name-rows, rows-marked, all-exact}
use Rattle.placing.proofs.Standing.{in_cells}
use Rattle.placing.proofs.NormalNets.{atom-nodes}

-- The hypergraph of a net's rows.
pub rows-of-net : (a : List NetCell) (m : List (ℕ × ℕ)) → rows_graph (map symbol_of a ++ map mark_of m) ≡ record { atoms = map atom_vertex a; fusions = map edge_of m }
rows-of-net (c ∷ a) m = flat-≡ (ap (λ G. atom_vertex c ∷ G.atoms) (rows-of-net a m)) (ap (λ G. G.fusions) (rows-of-net a m))
rows-of-net [] [] = refl
rows-of-net [] (e ∷ m) = flat-≡ (ap (λ G. G.atoms) (rows-of-net [] m)) (ap (λ G. edge_of e ∷ G.fusions) (rows-of-net [] m))

module _ (f : Node ℕ → ℕ) where
  abbrev placed : Node ℕ → Node ℕ
  placed x = inner (f x)

  atoms-back : (l : List NetCell) → map atom_vertex (atoms_among (map (map_cell placed) (map atom_vertex l))) ≡ map (map_cell placed) (map atom_vertex l)
  atoms-back [] = refl
  atoms-back (c ∷ l) = ap₂ ◌∷◌ (cell-≡ refl (ap (map inner) (map-map node_number placed (map inner c.1)) ∙ map-map inner f (map inner c.1))) (atoms-back l)

  split-back : (l : List (Cell ℕ)) (k : List NetCell) → l ≡ map (map_cell placed) (map atom_vertex k) → map atom_vertex (atoms_among l) ≡ l
  split-back l k e = ap (λ z. map atom_vertex (atoms_among z)) e ∙ atoms-back k ∙ sym e

-- The hypergraph of the normal rows is the normal form of the rows' hypergraph.
pub normal-rows-graph : (r : List Row) → rows_graph (normal_rows r) ≡ normal_form (rows_graph r)
unfolding normal_form normal_form_by
normal-rows-graph r =
    rows-of-net (net_of (normal_form (rows_graph r))).atoms (net_of (normal_form (rows_graph r))).marks
    ∙ flat-≡ (split-back number (normal_form (rows_graph r)).atoms (symbols_in r) (ap (map (map_cell (λ x. inner (number x)))) (rows-atoms r))) (marks (marks_of (rows_graph r)))
  where
    number : Node ℕ → ℕ
    number = number_by (class_of (rows_graph r).fusions) (rows_graph r)

    marks : (l : List ℕ) → map edge_of (map edge_numbers (map (marked_by (class_of (rows_graph r).fusions) (rows_graph r)) l)) ≡ map (marked_by (class_of (rows_graph r).fusions) (rows_graph r)) l
    marks [] = refl
    marks (m ∷ l) = ap (λ k. marked_by (class_of (rows_graph r).fusions) (rows_graph r) m ∷ k) (marks l)

pub normal-rows-congruent : (r : List Row) → rows_term r ≅ rows_term (normal_rows r)
normal-rows-congruent r = subst (λ G. rows_term r ≅ term_of G) (sym (normal-rows-graph r)) (normal-congruent (rows_graph r) (rows-marked r))

-- The same marks.
normal-exact : (n : ℕ) (r : List Row) → ExactMarks n r → ExactMarks n (normal_rows r)
normal-exact n r e = record { within = within; every = every }
  where
    within : (x m : ℕ) → edge_row x m ∈ normal_rows r → Range n m
    within x m i =
        let k = (normal-names (rows_graph r) (rows-marked r) (free m)).1 (subst (λ G. name (free m) ∈ nodes G) (normal-rows-graph r) (name-rows (normal_rows r) x m i)) in
        let t = rows-name r (free m) k in
        let q : free m ≡ free t.1 = t.3 in
        subst (Range n) (let z : t.1 ≡ m = cc in z) (e.within t.0 t.1 t.2)

    every : (m : ℕ) → Range n m → (x : ℕ) × (edge_row x m ∈ normal_rows r)
    every m h =
        let t = e.every m h in
        let k = (normal-names (rows_graph r) (rows-marked r) (free m)).0 (name-rows r t.0 m t.1) in
        let u = rows-name (normal_rows r) (free m) (subst (λ G. name (free m) ∈ nodes G) (sym (normal-rows-graph r)) k) in
        let q : free m ≡ free u.1 = u.3 in
        (u.0, Memᴰ.cast (ap (edge_row u.0) (let z : m ≡ u.1 = cc in z)) u.2)

-- The links are numbered from 1.
normal-from-one : (r : List Row) (q : Row) → q ∈ normal_rows r → (x : ℕ) → x ∈ row_links q → 1 ≤ x
normal-from-one r q i x m = side (Memᴰ.append_cases (map symbol_of N.atoms) i)
  where
    N : Net
    N = net_of (normal_form (rows_graph r))

    G : Flat ℕ
    G = record { atoms = map atom_vertex N.atoms; fusions = map edge_of N.marks }

    there : ◌∈◌ {A = Node ℕ} (inner x) (nodes G) → 1 ≤ x
    there k = (normal-range (rows_graph r) x (subst (λ K. inner x ∈ nodes K) (sym (rows-of-net N.atoms N.marks) ∙ normal-rows-graph r) k)).0

    one : (e : ℕ × ℕ) → e ∈ N.marks → (x ≡ e.0) ⊎ (x ∈ []) → 1 ≤ x
    one e k (inl p) = there (Memᴰ.cast (ap inner p) (on-fusions G (ends-in {e = edge_of e} (Memᴰ.map edge_of k)).0))
    one e k (inr n) = absurd (Memᴰ.not-nil n)

    side : (q ∈ map symbol_of N.atoms) ⊎ (q ∈ map mark_of N.marks) → 1 ≤ x
    side (inl k) =
        let t : (c : NetCell) × (c ∈ N.atoms) × (symbol_of c ≡ q) = Memᴰ.of_map symbol_of N.atoms k in
        there (on-atoms G (subst (λ l. inner x ∈ l) (sym (atom-nodes N.atoms)) (Memᴰ.map inner (in_cells N.atoms t.0 x t.1 (subst (λ z. x ∈ row_links z) (sym t.2) m)))))
    side (inr k) = let t : (e : ℕ × ℕ) × (e ∈ N.marks) × (mark_of e ≡ q) = Memᴰ.of_map mark_of N.marks k in one t.0 t.1 (Memᴰ.cases_cons (subst (λ z. x ∈ row_links z) (sym t.2) m))

-- Normal fillings fit where the fillings do.
module _ (F : Net) (θ : List Filling) (fit : Fits F θ) where
  abbrev From : Filling → Type 0
  From g = (f : Filling) × (f ∈ θ) × (normal_filling f ≡ g)

  from : (g : Filling) → g ∈ map normal_filling θ → From g
  from g i = Memᴰ.of_map normal_filling θ i

  pub normal-fit : Fits F (map normal_filling θ)
  normal-fit = record {
    for-each = λ c i. let t = fit.for-each c i in (normal_filling t.0, Memᴰ.map normal_filling t.1, t.2, t.3);
    one = λ g h i j e. one g h (from g i) (from h j) e;
    exact = λ g i. let t = from g i in subst (λ z. ExactMarks z.ports z.rows) t.2 (normal-exact t.0.ports t.0.rows (fit.exact t.0 t.1));
    from_one = λ g i. let t = from g i in subst (λ z. (q : Row) → q ∈ z.rows → (x : ℕ) → x ∈ row_links q → 1 ≤ x) t.2 (normal-from-one t.0.rows);
  }
    where
      one : (g h : Filling) → From g → From h → g.number ≡ h.number → g ≡ h
      one g h t u e = sym t.2 ∙ ap normal_filling (fit.one t.0 u.0 t.1 u.1 (ap (λ z. z.number) t.2 ∙ e ∙ sym (ap (λ z. z.number) u.2))) ∙ u.2

all-congruent : (θ : List Filling) → AllCongruent (substitution_of θ) (substitution_of (map normal_filling θ))
all-congruent [] = tt
all-congruent (f ∷ θ) = (refl, refl, normal-rows-congruent f.rows, all-congruent θ)

-- A term holding fillings is congruent to the term holding them as normal texts.
pub normal-holding : (F : Net) (θ : List Filling) → Fits F θ → (T : Template) → holding_term T θ ≅ holding_term T (map normal_filling θ)
normal-holding F θ fit T = fillings-congruent (substitution_of θ) (substitution_of (map normal_filling θ)) (all-exact F θ fit) (all-congruent θ) {T = T} {U = T} ≅-refl
