-- The net of a normal form is normal, and its hypergraph is that normal form.
use Prim.Native.Nat.{ℕ, zero, suc, ◌-◌, ◌≤◌, ◌<◌, max}
use mathlib.Core.Path.{◌≡◌, refl, ap, ap₂, sym, ◌∙◌, subst}
use mathlib.Core.Logic.{◌⊎◌, inl, inr}
use mathlib.Core.Bool.{Bool, true, false}
use mathlib.Core.List.Memᴰ
use mathlib.Core.List.{List, [], ◌∷◌, ◌++◌, map, map-map, map-append}
use native.Mathlib.Omega.{arith}
use borrow.Author.Tests.{eqb-true, eqb-false}
use lib.Dec.{eqb}
use lib.ListN.{length, get_or, take}
use Rattle.hyperlmntal.specs.Link.{◌∈◌}
use Rattle.hyperlmntal.specs.Hypergraph.{Node, inner, name, Cell, Flat, port_nodes, end_nodes, nodes, map_cell}
use Rattle.hyperlmntal.proofs.Flats.{flat-≡, cell-≡, port_nodes-append, on-atoms, on-fusions, ends-in}
use Rattle.rows.specs.Pick.{pick}
use Rattle.rows.specs.Held.{Held, index_of}
use Rattle.rows.specs.declared.Atom.{Atom}
use Rattle.rows.specs.declared.Context.{Context}
use Rattle.reading.specs.Graph.{atom_cell, context_cell, edge_of, graph_of}
use Rattle.reading.specs.Normal.{class_of, mark_node, marks_of, shown, distinct, classes_by, number_by, numbered_by, marked_by, normal_form_by, normal_form}
use Rattle.normalising.specs.NormalText.{node_number}
use Rattle.reading.proofs.normal.Distinct.{Once, distinct_of, distinct-once}
use Rattle.reading.proofs.normal.NormalNodes.{form-ports}
use Rattle.reading.proofs.normal.NormalBounds.{class_total, normal-range}
use Rattle.placing.specs.Net.{NetCell, Net, Range, cell_links, mark_links, standing, greatest, atoms_among, contexts_among, edge_numbers, normal_net, atom_vertex, context_vertex, net_graph, Normal}
use Rattle.placing.proofs.Standing.{of-marks}
use Rattle.reading.proofs.normal.Merging.{get_d-in}

-- The links that stand in a net are the local links of its hypergraph.
pub atom-nodes : (l : List NetCell) → port_nodes (map atom_vertex l) ≡ map inner (cell_links l)
atom-nodes [] = refl
atom-nodes (c ∷ l) = ap (λ k. map inner c.1 ++ k) (atom-nodes l) ∙ sym (map-append inner c.1 (cell_links l))

context-nodes : (l : List NetCell) → port_nodes (map context_vertex l) ≡ map inner (cell_links l)
context-nodes [] = refl
context-nodes (c ∷ l) = ap (λ k. map inner c.1 ++ k) (context-nodes l) ∙ sym (map-append inner c.1 (cell_links l))

net-ports : (N : Net) → port_nodes (net_graph N).atoms ≡ map inner (cell_links N.atoms) ++ map inner (cell_links N.contexts)
net-ports N = port_nodes-append (map atom_vertex N.atoms) (map context_vertex N.contexts) ∙ ap₂ ◌++◌ (atom-nodes N.atoms) (context-nodes N.contexts)

of_inner : (l : List ℕ) (x : ℕ) → ◌∈◌ {A = Node ℕ} (inner x) (map inner l) → x ∈ l
of_inner l x m = let t : (n : ℕ) × (n ∈ l) × (◌≡◌ {A = Node ℕ} (inner n) (inner x)) = Memᴰ.of_map inner l m in let e : ◌≡◌ {A = Node ℕ} (inner t.0) (inner x) = t.2 in Memᴰ.cast (let q : x ≡ t.0 = cc in q) t.1

mark-ends : (l : List (ℕ × ℕ)) (x : ℕ) → x ∈ mark_links l → ◌∈◌ {A = Node ℕ} (inner x) (end_nodes (map edge_of l))
mark-ends l x m = let t = of-marks l x m in (ends-in {e = edge_of (x, t.0)} (Memᴰ.map edge_of t.1)).0

ends-marks : (l : List (ℕ × ℕ)) (x : ℕ) → ◌∈◌ {A = Node ℕ} (inner x) (end_nodes (map edge_of l)) → x ∈ mark_links l
ends-marks [] x m = absurd (Memᴰ.not-nil m)
ends-marks (e ∷ l) x m = first (Memᴰ.cases_cons m) (ends-marks l x)
  where
    second : (◌≡◌ {A = Node ℕ} (inner x) (mark_node e.1)) ⊎ (◌∈◌ {A = Node ℕ} (inner x) (end_nodes (map edge_of l))) → (◌∈◌ {A = Node ℕ} (inner x) (end_nodes (map edge_of l)) → x ∈ mark_links l) → x ∈ (e.0 ∷ mark_links l)
    second (inl p) f = absurd (let z : ◌≡◌ {A = ℕ} 0 1 = cc in omega arith)
    second (inr k) f = Memᴰ.tail (f k)

    first : (◌≡◌ {A = Node ℕ} (inner x) (inner e.0)) ⊎ (◌∈◌ {A = Node ℕ} (inner x) (mark_node e.1 ∷ end_nodes (map edge_of l))) → (◌∈◌ {A = Node ℕ} (inner x) (end_nodes (map edge_of l)) → x ∈ mark_links l) → x ∈ (e.0 ∷ mark_links l)
    first (inl p) f = Memᴰ.head (let q : x ≡ e.0 = cc in q)
    first (inr k) f = second (Memᴰ.cases_cons k) f

pub standing-node : (N : Net) (x : ℕ) → x ∈ standing N → ◌∈◌ {A = Node ℕ} (inner x) (nodes (net_graph N))
standing-node N x m = first (Memᴰ.append_cases (cell_links N.atoms) m)
  where
    ports : ◌∈◌ {A = Node ℕ} (inner x) (map inner (cell_links N.atoms) ++ map inner (cell_links N.contexts)) → ◌∈◌ {A = Node ℕ} (inner x) (nodes (net_graph N))
    ports k = on-atoms (net_graph N) (subst (λ l. inner x ∈ l) (sym (net-ports N)) k)

    second : (x ∈ cell_links N.contexts) ⊎ (x ∈ mark_links N.marks) → ◌∈◌ {A = Node ℕ} (inner x) (nodes (net_graph N))
    second (inl k) = ports (Memᴰ.append_right (map inner (cell_links N.atoms)) (Memᴰ.map inner k))
    second (inr k) = on-fusions (net_graph N) (mark-ends N.marks x k)

    first : (x ∈ cell_links N.atoms) ⊎ (x ∈ cell_links N.contexts ++ mark_links N.marks) → ◌∈◌ {A = Node ℕ} (inner x) (nodes (net_graph N))
    first (inl k) = ports (Memᴰ.append_left (map inner (cell_links N.contexts)) (Memᴰ.map inner k))
    first (inr k) = second (Memᴰ.append_cases (cell_links N.contexts) k)

pub node-standing : (N : Net) (x : ℕ) → ◌∈◌ {A = Node ℕ} (inner x) (nodes (net_graph N)) → x ∈ standing N
node-standing N x m = side (Memᴰ.append_cases (port_nodes (net_graph N).atoms) m)
  where
    port : (◌∈◌ {A = Node ℕ} (inner x) (map inner (cell_links N.atoms))) ⊎ (◌∈◌ {A = Node ℕ} (inner x) (map inner (cell_links N.contexts))) → x ∈ standing N
    port (inl k) = Memᴰ.append_left (cell_links N.contexts ++ mark_links N.marks) (of_inner (cell_links N.atoms) x k)
    port (inr k) = Memᴰ.append_right (cell_links N.atoms) (Memᴰ.append_left (mark_links N.marks) (of_inner (cell_links N.contexts) x k))

    side : (◌∈◌ {A = Node ℕ} (inner x) (port_nodes (net_graph N).atoms)) ⊎ (◌∈◌ {A = Node ℕ} (inner x) (end_nodes (net_graph N).fusions)) → x ∈ standing N
    side (inl k) = port (Memᴰ.append_cases (map inner (cell_links N.atoms)) (subst (λ l. inner x ∈ l) (net-ports N) k))
    side (inr k) = Memᴰ.append_right (cell_links N.atoms) (Memᴰ.append_right (cell_links N.contexts) (ends-marks N.marks x k))

-- The greatest number of a list.
below-greatest : (l : List ℕ) (x : ℕ) → x ∈ l → x ≤ greatest l
below-greatest [] x m = absurd (Memᴰ.not-nil m)
below-greatest (y ∷ l) x m = at (Memᴰ.cases_cons m) (below-greatest l x)
  where
    at : (x ≡ y) ⊎ (x ∈ l) → (x ∈ l → x ≤ greatest l) → x ≤ max y (greatest l)
    at (inl e) f = omega arith
    at (inr k) f = let h = f k in omega arith

greatest-below : (l : List ℕ) (n : ℕ) → ((x : ℕ) → x ∈ l → x ≤ n) → greatest l ≤ n
greatest-below [] n h = omega arith
greatest-below (y ∷ l) n h = let a = h y (Memᴰ.head refl) in let b = greatest-below l n (λ x m. h x (Memᴰ.tail m)) in omega arith

index_at : (l : List ℕ) → Once l → (i : ℕ) → i < length l → index_of (get_or l i 0) l ≡ i
unfolding index_of
index_at [] o i h = absurd (omega arith)
index_at (x ∷ l) o zero h = at (eqb x x) refl
  where
    at : (t : Bool) → eqb x x ≡ t → pick t 0 (suc (index_of x l)) ≡ 0
    at true e = refl
    at false e = absurd (eqb-false x x e refl)
index_at (x ∷ l) o (suc i) h = at (eqb x (get_or l i 0)) refl (index_at l o.1 i (omega arith))
  where
    at : (t : Bool) → eqb x (get_or l i 0) ≡ t → index_of (get_or l i 0) l ≡ i → pick t 0 (suc (index_of (get_or l i 0) l)) ≡ suc i
    at true e q = absurd (o.0 (Memᴰ.cast (eqb-true x (get_or l i 0) e) (get_d-in l i 0 (omega arith))))
    at false e q = ap suc q

-- The number of each node that is shown is there.
pub shown-node : (label : Node ℕ → ℕ) (F : Flat ℕ) (x : Node ℕ) → x ∈ shown F → inner (number_by label F x) ∈ nodes (normal_form_by label F)
unfolding normal_form_by
shown-node label F x m = side (Memᴰ.append_cases (port_nodes F.atoms) m)
  where
    side : (x ∈ port_nodes F.atoms) ⊎ (x ∈ map mark_node (marks_of F)) → inner (number_by label F x) ∈ nodes (normal_form_by label F)
    side (inl k) = on-atoms (normal_form_by label F) (subst (λ l. inner (number_by label F x) ∈ l) (sym (form-ports label F)) (Memᴰ.map (numbered_by label F) k))
    side (inr k) =
        let t : (m : ℕ) × (m ∈ marks_of F) × (mark_node m ≡ x) = Memᴰ.of_map mark_node (marks_of F) k in
        on-fusions (normal_form_by label F) (Memᴰ.cast (ap (λ y. inner (number_by label F y)) (sym t.2)) (ends-in {e = marked_by label F t.0} (Memᴰ.map (marked_by label F) t.1)).0)

-- So every number up to the number of classes is there.
pub number-used : (F : Flat ℕ) (n : ℕ) → Range (class_total F) n → inner n ∈ nodes (normal_form F)
unfolding normal_form classes_by number_by
number-used F n h =
    let label = class_of F.fusions in
    let l = distinct (map label (shown F)) in
    let a : 1 ≤ n = h.0 in
    let b : n ≤ length l = h.1 in
    let t : (x : Node ℕ) × (x ∈ shown F) × (label x ≡ get_or l (n - 1) 0) = Memᴰ.of_map label (shown F) (distinct_of (get_or l (n - 1) 0) (map label (shown F)) (get_d-in l (n - 1) 0 (omega arith))) in
    let e : suc (index_of (label t.0) l) ≡ n = ap (λ k. suc (index_of k l)) t.2 ∙ ap suc (index_at l (distinct-once (map label (shown F))) (n - 1) (omega arith)) ∙ (let q : suc (n - 1) ≡ n = omega arith in q) in
    Memᴰ.cast (ap inner (sym e)) (shown-node label F t.0 t.1)

-- The vertices of a text's normal form, split.
module _ (f : Node ℕ → ℕ) where
  abbrev placed : Node ℕ → Node ℕ
  placed x = inner (f x)

  abbrev pub atom_numbers : Atom → NetCell
  atom_numbers a = (a.name, map f (map inner (take a.count a.links)))

  abbrev pub context_numbers : Context → NetCell
  context_numbers c = (c.number, map f (map inner (take c.count c.links)))

  no-atoms : (B : List Context) → atoms_among (map (map_cell placed) (map context_cell B)) ≡ []
  no-atoms [] = refl
  no-atoms (c ∷ B) = no-atoms B

  atoms-among : (A : List Atom) (B : List Context) → atoms_among (map (map_cell placed) (map atom_cell A ++ map context_cell B)) ≡ map atom_numbers A
  atoms-among [] B = no-atoms B
  atoms-among (a ∷ A) B = ap₂ ◌∷◌ (ap (λ l. (a.name, l)) (map-map node_number placed (map inner (take a.count a.links)))) (atoms-among A B)

  pub contexts-among : (A : List Atom) (B : List Context) → contexts_among (map (map_cell placed) (map atom_cell A ++ map context_cell B)) ≡ map context_numbers B
  contexts-among (a ∷ A) B = contexts-among A B
  contexts-among [] [] = refl
  contexts-among [] (c ∷ B) = ap₂ ◌∷◌ (ap (λ l. (c.number, l)) (map-map node_number placed (map inner (take c.count c.links)))) (contexts-among [] B)

  atoms-back : (A : List Atom) → map atom_vertex (map atom_numbers A) ≡ map (map_cell placed) (map atom_cell A)
  atoms-back [] = refl
  atoms-back (a ∷ A) = ap₂ ◌∷◌ (cell-≡ refl (map-map inner f (map inner (take a.count a.links)))) (atoms-back A)

  contexts-back : (B : List Context) → map context_vertex (map context_numbers B) ≡ map (map_cell placed) (map context_cell B)
  contexts-back [] = refl
  contexts-back (c ∷ B) = ap₂ ◌∷◌ (cell-≡ refl (map-map inner f (map inner (take c.count c.links)))) (contexts-back B)

  split-back : (A : List Atom) (B : List Context) (l : List (Cell ℕ)) → l ≡ map (map_cell placed) (map atom_cell A ++ map context_cell B) → map atom_vertex (atoms_among l) ++ map context_vertex (contexts_among l) ≡ l
  split-back A B l e =
      ap₂ ◌++◌ (ap (λ k. map atom_vertex (atoms_among k)) e ∙ ap (map atom_vertex) (atoms-among A B) ∙ atoms-back A) (ap (λ k. map context_vertex (contexts_among k)) e ∙ ap (map context_vertex) (contexts-among A B) ∙ contexts-back B)
      ∙ sym (map-append (map_cell placed) (map atom_cell A) (map context_cell B)) ∙ sym e

module _ (h : Held) where
  abbrev pub link_number : Node ℕ → ℕ
  link_number = number_by (class_of (graph_of h).fusions) (graph_of h)

  -- The net of a normal text, as a hypergraph, is its normal form.
  pub normal-graph : net_graph (normal_net h) ≡ normal_form (graph_of h)
  unfolding normal_form normal_form_by
  normal-graph = flat-≡ (split-back link_number h.atoms h.contexts (normal_form (graph_of h)).atoms refl) (marks (marks_of (graph_of h)))
    where
      marks : (l : List ℕ) → map edge_of (map edge_numbers (map (marked_by (class_of (graph_of h).fusions) (graph_of h)) l)) ≡ map (marked_by (class_of (graph_of h).fusions) (graph_of h)) l
      marks [] = refl
      marks (m ∷ l) = ap (λ k. marked_by (class_of (graph_of h).fusions) (graph_of h) m ∷ k) (marks l)

  pub normal-atoms : (normal_net h).atoms ≡ map (atom_numbers link_number) h.atoms
  unfolding normal_form normal_form_by
  normal-atoms = atoms-among link_number h.atoms h.contexts

  pub normal-contexts : (normal_net h).contexts ≡ map (context_numbers link_number) h.contexts
  unfolding normal_form normal_form_by
  normal-contexts = contexts-among link_number h.atoms h.contexts

  in-range : (x : ℕ) → x ∈ standing (normal_net h) → Range (class_total (graph_of h)) x
  in-range x m = normal-range (graph_of h) x (subst (λ G. inner x ∈ nodes G) normal-graph (standing-node (normal_net h) x m))

  marked : (x m : ℕ) → (x, m) ∈ (normal_net h).marks → x ≡ link_number (mark_node m)
  unfolding normal_form normal_form_by
  marked x m i = at (marks_of (graph_of h)) i
    where
      at : (l : List ℕ) → (x, m) ∈ map edge_numbers (map (marked_by (class_of (graph_of h).fusions) (graph_of h)) l) → x ≡ link_number (mark_node m)
      at [] i = absurd (Memᴰ.not-nil i)
      at (k ∷ l) i = side (Memᴰ.cases_cons i) (at l)
        where
          side : (◌≡◌ {A = ℕ × ℕ} (x, m) (link_number (mark_node k), k)) ⊎ ((x, m) ∈ map edge_numbers (map (marked_by (class_of (graph_of h).fusions) (graph_of h)) l)) → ((x, m) ∈ map edge_numbers (map (marked_by (class_of (graph_of h).fusions) (graph_of h)) l) → x ≡ link_number (mark_node m)) → x ≡ link_number (mark_node m)
          side (inl e) f = ap (λ q. q.0) e ∙ ap (λ n. link_number (mark_node n)) (sym (ap (λ q. q.1) e))
          side (inr j) f = f j

  pub normal-net : Normal (normal_net h)
  normal-net = record {
    numbered = λ x m. ((in-range x m).0, below-greatest (standing (normal_net h)) x m);
    used = λ x r. let b : x ≤ greatest (standing (normal_net h)) = r.1 in let c = greatest-below (standing (normal_net h)) (class_total (graph_of h)) (λ y m. (in-range y m).1) in node-standing (normal_net h) x (subst (λ G. inner x ∈ nodes G) (sym normal-graph) (number-used (graph_of h) x (r.0, omega arith)));
    one_link = one_link;
  }
    where
      one_link : (x y m : ℕ) → (x, m) ∈ (normal_net h).marks → (y, m) ∈ (normal_net h).marks → x ≡ y
      one_link x y m i j = marked x m i ∙ sym (marked y m j)
