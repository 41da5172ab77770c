-- The atoms and fusions of a figure's net filled with fillings.
use Prim.Native.Nat.{ℕ, suc, ◌+◌, ◌-◌, ◌≤◌, ◌<◌}
use mathlib.Core.Path.{◌≡◌, refl, ap, ap₂, sym, ◌∙◌, subst}
use mathlib.Core.Logic.{◌⊎◌, inl, inr}
use mathlib.Core.List.Memᴰ
use mathlib.Core.List.{List, [], ◌∷◌, ◌++◌, map, map-map, append-nil}
use mathlib.Core.Option.{some}
use native.Mathlib.Omega.{arith}
use native.Mathlib.Decide.{ℕ_discrete, dec_lt}
use lib.ListN.{length, get_or, get_elem?, length-map}
use Rattle.hyperlmntal.specs.Link.{free, ◌≟◌, select, ◌∈◌}
use Rattle.hyperlmntal.specs.GraphSubstitution.{same_functor, lookup}
use Rattle.hyperlmntal.specs.Hypergraph.{Node, inner, name, symbol, Cell, Fusion, map_cell, map_fusion}
use Rattle.hyperlmntal.specs.DenotedSubstitution.{Spot, outer, within, outer_node, connect, plug, fill_with, fill_cells}
use Rattle.hyperlmntal.proofs.Links.{select_yes, select_no}
use Rattle.hyperlmntal.proofs.Flats.{cell-≡}
use Rattle.hyperlmntal.proofs.Positions.{some-injective}
use Rattle.hyperlmntal.proofs.Filling.{fill_cells-append}
use Rattle.hyperlmntal.proofs.Slots.{body_of, ports_of, entry_at, plug_at, fill_flat-all, fill_flat-slot, fill_flat-outer}
use Rattle.reading.specs.Graph.{edge_of}
use Rattle.placing.specs.Net.{NetCell, Net, Range, atom_vertex, context_vertex, net_graph}
use Rattle.placing.specs.Placing.{number_at}
use Rattle.placing.specs.Fillings.{Row, point_row, edge_row, rows_graph, Filling, Fits}
use Rattle.placing.specs.Holding.{marks_from}
use Rattle.placing.specs.Filled.{flat_entry}
use Rattle.placing.specs.ListFits.{symbols_in}
use Rattle.placing.proofs.Lists.{at_left, at_right, at_map, at-of-map, at-member}
use Rattle.placing.proofs.Names.{rows-atoms, FusionOf, of-point, of-edge, rows-fusion, fusion-rows, marks-length}
use Rattle.placing.proofs.Reduction.{filled}

-- Nodes: a figure link, link n of the filling of the vertex at position k, a mark.
abbrev pub FilledNode : Type 0
FilledNode = Node (Spot ℕ ℕ)

abbrev pub fig_n : ℕ → FilledNode
fig_n x = inner (outer x)

abbrev pub own_n : ℕ → ℕ → FilledNode
own_n k n = inner (within k n)

abbrev pub mark_n : ℕ → FilledNode
mark_n m = name (free m)

abbrev pub fig_cell : NetCell → Cell (Spot ℕ ℕ)
fig_cell c = record { label = symbol c.0; ports = map fig_n c.1 }

abbrev pub own_cell : ℕ → NetCell → Cell (Spot ℕ ℕ)
own_cell k c = record { label = symbol c.0; ports = map (own_n k) c.1 }

-- The rows of the filling of number x with n ports.
abbrev pub rows_with : ℕ → ℕ → List Filling → List Row
rows_with x n [] = []
rows_with x n (f ∷ θ) = select (same_functor x n (flat_entry f)) f.rows (rows_with x n θ)

-- The filling of a context, found in the list.
pub record FoundIn (θ : List Filling) (x n : ℕ) : Type 0 where
  pub filling : Filling
  pub listed : filling ∈ θ
  pub number : filling.number ≡ x
  pub ports : filling.ports ≡ n
  pub rows : filling.rows ≡ rows_with x n θ
  pub found : lookup x n (map flat_entry θ) ≡ some (flat_entry filling)

found_in_lem : (θ : List Filling) (x n : ℕ) (f : Filling) → f ∈ θ → f.number ≡ x → f.ports ≡ n → FoundIn θ x n
found_in_lem [] x n f i p q = absurd (Memᴰ.not-nil i)
found_in_lem (g ∷ θ) x n f i p q = at (same_functor x n (flat_entry g)) refl (Memᴰ.cases_cons i) (λ j. found_in_lem θ x n f j p q)
  where
    at : (d : Dec ((x ≡ g.number) × (n ≡ length (marks_from 1 g.ports)))) → same_functor x n (flat_entry g) ≡ d → (f ≡ g) ⊎ (f ∈ θ) → (f ∈ θ → FoundIn θ x n) → FoundIn (g ∷ θ) x n
    at (yes t) e c h = record { filling = g; listed = Memᴰ.head refl; number = sym t.0; ports = sym (t.1 ∙ marks-length 1 g.ports); rows = sym (ap (λ d. select d g.rows (rows_with x n θ)) e); found = ap (λ d. select d (some (flat_entry g)) (lookup x n (map flat_entry θ))) e }
    at (no k) e (inl r) h = absurd (k (sym p ∙ ap (λ z. z.number) r, sym q ∙ ap (λ z. z.ports) r ∙ sym (marks-length 1 g.ports)))
    at (no k) e (inr j) h = let t = h j in record { filling = t.filling; listed = Memᴰ.tail t.listed; number = t.number; ports = t.ports; rows = t.rows ∙ sym (ap (λ d. select d g.rows (rows_with x n θ)) e); found = ap (λ d. select d (some (flat_entry g)) (lookup x n (map flat_entry θ))) e ∙ t.found }

-- Port i of a context is its i-th link.
pub connect-port : (l : List ℕ) (s i : ℕ) → s ≤ i → i < s + length l → connect {P = ℕ} {Q = ℕ} (map inner l) (marks_from s (length l)) (free i) ≡ fig_n (get_or l (i - s) 0)
unfolding connect
connect-port [] s i p q = absurd (omega arith)
connect-port (x ∷ l) s i p q = at (ℕ_discrete i s) (λ h. connect-port l (suc s) i h (omega arith))
  where
    at : Dec (i ≡ s) → (suc s ≤ i → connect {P = ℕ} {Q = ℕ} (map inner l) (marks_from (suc s) (length l)) (free i) ≡ fig_n (get_or l (i - suc s) 0)) → select (free i ≟ free s) (fig_n x) (connect (map inner l) (marks_from (suc s) (length l)) (free i)) ≡ fig_n (get_or (x ∷ l) (i - s) 0)
    at (yes e) f = select_yes (free i ≟ free s) (fig_n x) (connect (map inner l) (marks_from (suc s) (length l)) (free i)) (ap free e) ∙ ap (λ j. fig_n (get_or (x ∷ l) j 0)) (let z : 0 ≡ i - s = omega arith in z)
    at (no k) f = select_no (free i ≟ free s) (fig_n x) (connect (map inner l) (marks_from (suc s) (length l)) (free i)) (λ e. k cc) ∙ f (omega arith) ∙ ap (λ j. fig_n (get_or (x ∷ l) j 0)) (let z : suc (i - suc s) ≡ i - s = omega arith in z)

-- What stands at a position among the vertices of a net: an atom or, after them, a context.
pub data VertexAt (F : Net) (i : ℕ) (v : Cell ℕ) : Type 0 where
  an-atom : (c : NetCell) → v ≡ atom_vertex c → VertexAt F i v
  a-context : (j : ℕ) (c : NetCell) → i ≡ length F.atoms + j → get_elem? F.contexts j ≡ some c → v ≡ context_vertex c → VertexAt F i v

vertex-at : (F : Net) (i : ℕ) (v : Cell ℕ) → get_elem? (net_graph F).atoms i ≡ some v → VertexAt F i v
vertex-at F i v e = at (dec_lt i (length F.atoms))
  where
    size : length (map atom_vertex F.atoms) ≡ length F.atoms
    size = length-map F.atoms atom_vertex

    at : Dec (i < length F.atoms) → VertexAt F i v
    at (yes h) = let t = at-of-map atom_vertex F.atoms i v (sym (at_left (map atom_vertex F.atoms) (map context_vertex F.contexts) i (let q = size in omega arith)) ∙ e) in an-atom t.0 (sym t.2)
    at (no h) =
        let j = i - length F.atoms in
        let q : length (map atom_vertex F.atoms) + j ≡ i = let r = size in omega arith in
        let t = at-of-map context_vertex F.contexts j v (sym (at_right (map atom_vertex F.atoms) (map context_vertex F.contexts) j) ∙ ap (get_elem? (net_graph F).atoms) q ∙ e) in
        a-context j t.0 (omega arith) t.1 (sym t.2)

pub context-at : (F : Net) (j : ℕ) (c : NetCell) → get_elem? F.contexts j ≡ some c → get_elem? (net_graph F).atoms (length F.atoms + j) ≡ some (context_vertex c)
context-at F j c e = ap (λ n. get_elem? (net_graph F).atoms (n + j)) (sym (length-map F.atoms atom_vertex)) ∙ at_right (map atom_vertex F.atoms) (map context_vertex F.contexts) j ∙ at_map context_vertex F.contexts j c e

module _ (F : Net) (θ : List Filling) (fit : Fits F θ) where
  -- The rows of the filling of a context.
  abbrev pub rows_for : NetCell → List Row
  rows_for c = rows_with c.0 (length c.1) θ

  -- Context c at position k.
  abbrev pub Slot : ℕ → NetCell → Type 0
  Slot k c = (j : ℕ) × (k ≡ length F.atoms + j) × (get_elem? F.contexts j ≡ some c)

  pub slot-member : {k : ℕ} {c : NetCell} → Slot k c → c ∈ F.contexts
  slot-member {k} {c} s = at-member F.contexts s.0 c s.2

  pub slot-one : {k : ℕ} {c d : NetCell} → Slot k c → Slot k d → c ≡ d
  slot-one s t = some-injective (sym s.2 ∙ ap (get_elem? F.contexts) (let a = s.1 in let b = t.1 in let q : s.0 ≡ t.0 = omega arith in q) ∙ t.2)

  pub found-for : (c : NetCell) → c ∈ F.contexts → FoundIn θ c.0 (length c.1)
  found-for c i = let t = fit.for-each c i in found_in_lem θ c.0 (length c.1) t.0 t.1 t.2 t.3

  pub entry-at : (c : NetCell) (i : c ∈ F.contexts) → entry_at (map flat_entry θ) (context_vertex c) ≡ some (flat_entry (found-for c i).filling)
  entry-at c i = ap (λ n. lookup c.0 n (map flat_entry θ)) (length-map c.1 inner) ∙ (found-for c i).found

  pub exact-for : (c : NetCell) → c ∈ F.contexts → (x m : ℕ) → edge_row x m ∈ rows_for c → Range (length c.1) m
  exact-for c i x m j = let f = found-for c i in subst (λ n. Range n m) f.ports ((fit.exact f.filling f.listed).within x m (subst (λ r. edge_row x m ∈ r) (sym f.rows) j))

  -- A fusion of the filled hypergraph: a mark of the figure, a point of a filling, or a port of a filling at its figure link.
  pub data Edge (e : Fusion (Spot ℕ ℕ)) : Type 0 where
    at_mark : (x m : ℕ) → (x, m) ∈ F.marks → (fig_n x, mark_n m) ≡ e → Edge e
    at-point : (k : ℕ) (c : NetCell) → Slot k c → (a b : ℕ) → point_row a b ∈ rows_for c → (own_n k a, own_n k b) ≡ e → Edge e
    at-port : (k : ℕ) (c : NetCell) → Slot k c → (a i : ℕ) → edge_row a i ∈ rows_for c → (own_n k a, fig_n (number_at c.1 i)) ≡ e → Edge e

  port-is : (c : NetCell) → c ∈ F.contexts → (i : ℕ) → Range (length c.1) i → (f : Filling) → f.ports ≡ length c.1 → connect {P = ℕ} {Q = ℕ} (map inner c.1) (marks_from 1 f.ports) (free i) ≡ fig_n (number_at c.1 i)
  port-is c j i h f p = let b : i ≤ length c.1 = h.1 in ap (λ n. connect (map inner c.1) (marks_from 1 n) (free i)) p ∙ connect-port c.1 1 i h.0 (omega arith)

  pub edge-of : (e : Fusion (Spot ℕ ℕ)) → e ∈ (filled F θ).fusions → Edge e
  edge-of = fill_flat-all (map flat_entry θ) (net_graph F) Edge slot (λ e i. outers e i)
    where
      outers : (e : Fusion ℕ) → e ∈ map edge_of F.marks → Edge (map_fusion outer_node e)
      outers e i = let t : (q : ℕ × ℕ) × (q ∈ F.marks) × (edge_of q ≡ e) = Memᴰ.of_map edge_of F.marks i in at_mark t.0.0 t.0.1 t.1 (ap (map_fusion outer_node) t.2)

      one : (k : ℕ) (c : NetCell) (s : Slot k c) (f : Filling) → f.ports ≡ length c.1 → f.rows ≡ rows_for c → (d : Fusion ℕ) → FusionOf f.rows d → Edge (map_fusion (plug k (map inner c.1) (marks_from 1 f.ports)) d)
      one k c s f p q d (of-point a b i e) = at-point k c s a b (subst (λ r. point_row a b ∈ r) q i) (ap (map_fusion (plug k (map inner c.1) (marks_from 1 f.ports))) (sym e))
      one k c s f p q d (of-edge a m i e) =
          let j = subst (λ r. edge_row a m ∈ r) q i in
          at-port k c s a m j (ap (λ n. (own_n k a, n)) (sym (port-is c (slot-member s) m (exact-for c (slot-member s) a m j) f p)) ∙ ap (map_fusion (plug k (map inner c.1) (marks_from 1 f.ports))) (sym e))

      found : (k : ℕ) (c : NetCell) → Slot k c → (d : Fusion ℕ) → d ∈ (body_of (entry_at (map flat_entry θ) (context_vertex c))).fusions → Edge (map_fusion (plug_at (map flat_entry θ) k (context_vertex c)) d)
      found k c s d i =
          let f = found-for c (slot-member s) in
          let e = entry-at c (slot-member s) in
          subst (λ o. Edge (map_fusion (plug k (map inner c.1) (ports_of o)) d)) (sym e)
          (one k c s f.filling f.ports f.rows d (rows-fusion f.filling.rows d (subst (λ o. d ∈ (body_of o).fusions) e i)))

      slot : (k : ℕ) (v : Cell ℕ) → get_elem? (net_graph F).atoms k ≡ some v → (d : Fusion ℕ) → d ∈ (body_of (entry_at (map flat_entry θ) v)).fusions → Edge (map_fusion (plug_at (map flat_entry θ) k v) d)
      slot k v e d i = at (vertex-at F k v e)
        where
          at : VertexAt F k v → Edge (map_fusion (plug_at (map flat_entry θ) k v) d)
          at (an-atom c q) = absurd (Memᴰ.not-nil (subst (λ v. d ∈ (body_of (entry_at (map flat_entry θ) v)).fusions) q i))
          at (a-context j c p r q) = subst (λ v. Edge (map_fusion (plug_at (map flat_entry θ) k v) d)) (sym q) (found k c (j, p, r) d (subst (λ v. d ∈ (body_of (entry_at (map flat_entry θ) v)).fusions) q i))

  pub mark-edge : (x m : ℕ) → (x, m) ∈ F.marks → (fig_n x, mark_n m) ∈ (filled F θ).fusions
  mark-edge x m i = fill_flat-outer (map flat_entry θ) (net_graph F) (edge_of (x, m)) (Memᴰ.map edge_of i)

  pub port-edge : (k : ℕ) (c : NetCell) → Slot k c → (a i : ℕ) → edge_row a i ∈ rows_for c → (own_n k a, fig_n (number_at c.1 i)) ∈ (filled F θ).fusions
  port-edge k c s a i j =
      let f = found-for c (slot-member s) in
      let e = entry-at c (slot-member s) in
      let there : edge_of (a, i) ∈ (body_of (entry_at (map flat_entry θ) (context_vertex c))).fusions = subst (λ o. edge_of (a, i) ∈ (body_of o).fusions) (sym e) (fusion-rows f.filling.rows a i (subst (λ r. edge_row a i ∈ r) (sym f.rows) j)) in
      Memᴰ.cast (ap (λ n. (own_n k a, n)) (sym (ap (λ o. plug k (map inner c.1) (ports_of o) (name (free i))) e ∙ port-is c (slot-member s) i (exact-for c (slot-member s) a i j) f.filling f.ports)))
      (fill_flat-slot (map flat_entry θ) (net_graph F) k (context_vertex c) (ap (get_elem? (net_graph F).atoms) s.1 ∙ context-at F s.0 c s.2) (edge_of (a, i)) there)

  -- The atoms: those of the figure, then those of the fillings.
  abbrev pub own_cells : ℕ → List NetCell → List (Cell (Spot ℕ ℕ))
  own_cells k [] = []
  own_cells k (c ∷ l) = map (own_cell k) (symbols_in (rows_for c)) ++ own_cells (suc k) l

  figure-cells : (i : ℕ) (l : List NetCell) → (fill_cells (map flat_entry θ) i (map atom_vertex l)).atoms ≡ map fig_cell l
  figure-cells i [] = refl
  figure-cells i (c ∷ l) = ap₂ ◌∷◌ (cell-≡ refl (map-map outer_node inner c.1)) (figure-cells (suc i) l)

  part-cells : (k : ℕ) (c : NetCell) (f : Filling) → f.rows ≡ rows_for c → (g : Node ℕ → FilledNode) → ((n : ℕ) → g (inner n) ≡ own_n k n) → map (map_cell g) (rows_graph f.rows).atoms ≡ map (own_cell k) (symbols_in (rows_for c))
  part-cells k c f q g h = ap (map (map_cell g)) (rows-atoms f.rows ∙ ap (λ r. map atom_vertex (symbols_in r)) q) ∙ cells (symbols_in (rows_for c))
    where
      ports : (l : List ℕ) → map g (map inner l) ≡ map (own_n k) l
      ports [] = refl
      ports (n ∷ l) = ap₂ ◌∷◌ (h n) (ports l)

      cells : (l : List NetCell) → map (map_cell g) (map atom_vertex l) ≡ map (own_cell k) l
      cells [] = refl
      cells (d ∷ l) = ap₂ ◌∷◌ (cell-≡ refl (ports d.1)) (cells l)

  context-cells : (k : ℕ) (l : List NetCell) → ((c : NetCell) → c ∈ l → c ∈ F.contexts) → (fill_cells (map flat_entry θ) k (map context_vertex l)).atoms ≡ own_cells k l
  context-cells k [] h = refl
  context-cells k (c ∷ l) h =
      let i = h c (Memᴰ.head refl) in
      let f = found-for c i in
      ap₂ ◌++◌ (ap (λ o. (fill_with o k (context_vertex c)).atoms) (entry-at c i) ∙ part-cells k c f.filling f.rows (plug k (map inner c.1) (marks_from 1 f.filling.ports)) (λ n. refl)) (context-cells (suc k) l (λ d j. h d (Memᴰ.tail j)))

  pub filled-atoms : (filled F θ).atoms ≡ map fig_cell F.atoms ++ own_cells (length F.atoms) F.contexts
  filled-atoms =
      append-nil (fill_cells (map flat_entry θ) 0 (net_graph F).atoms).atoms
      ∙ ap (λ G. G.atoms) (fill_cells-append (map flat_entry θ) 0 (map atom_vertex F.atoms) (map context_vertex F.contexts))
      ∙ ap₂ ◌++◌ (figure-cells 0 F.atoms) (context-cells (0 + length (map atom_vertex F.atoms)) F.contexts (λ c i. i) ∙ ap (λ n. own_cells n F.contexts) (let q = length-map F.atoms atom_vertex in let r : 0 + length (map atom_vertex F.atoms) ≡ length F.atoms = omega arith in r))
