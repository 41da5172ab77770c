-- A figure and the fillings put in, part by part: where their nodes are in the filled figure.
use Prim.Native.Nat.{ℕ, zero, suc, ◌+◌, ◌-◌, ◌<◌, ◌≤◌}
use mathlib.Core.Path.{◌≡◌, ap, sym, ◌∙◌, subst}
use mathlib.Core.Bool.{true}
use mathlib.Core.List.{List, map}
use mathlib.Core.Option.{some}
use native.Mathlib.Omega.{arith}
use native.Mathlib.Decide.{dec_lt}
use lib.ListN.{length, get_or, get_elem?, take, length-map}
use lib.Seq.{length-take-le}
use Rattle.hyperlmntal.specs.Link.{free, ◌∈◌}
use Rattle.hyperlmntal.specs.GraphSubstitution.{Entry, lookup}
use Rattle.hyperlmntal.specs.Hypergraph.{Node, inner, Cell, Fusion, Flat, Connected, along, map_fusion}
use Rattle.hyperlmntal.specs.DenotedSubstitution.{Spot, outer_node, connect, plug, fill_flat}
use Rattle.hyperlmntal.proofs.Connection.{connected-map}
use Rattle.hyperlmntal.proofs.Slots.{body_of, ports_of as ports_put, entry_at, fill_flat-slot, fill_flat-outer}
use Rattle.hyperlmntal.proofs.Positions.{some_below}
use Rattle.rows.specs.Held.{Held}
use Rattle.rows.specs.Packed.{ports_of}
use Rattle.rows.specs.declared.Atom.{Atom}
use Rattle.rows.specs.declared.Context.{Context}
use Rattle.reading.specs.Graph.{atom_cell, context_cell, graph_of}
use Rattle.reading.specs.Normal.{mark_node, marks_of, shown}
use Rattle.reading.specs.NormalSheet.{number_in}
use Rattle.normalising.specs.NormalRows.{past_contexts}
use Rattle.sheet.specs.declared.kind.Kind.TheVariants.{Figure, Fillings}
use Rattle.sheet.specs.HeldLimits.{ContextRange}
use Rattle.sheet.proofs.read.Every.{every-at}
use Rattle.reading.proofs.normal.Merging.{get_d-in}
use Rattle.texts.proofs.BuiltRows.{every_in}
use Rattle.placing.specs.Holding.{marks_from}
use Rattle.placing.specs.Filled.{flat_entry}
use Rattle.placing.specs.Smallest.{numbers_to}
use Rattle.placing.proofs.Lists.{at_left, at_right, at_map, at-of-map, at-get_d, get_d_of}
use Rattle.placing.proofs.Filled.{fig_n, connect-port}
use Rattle.filling.specs.Read.{list_held, part_held, filling_read, fillings_read}
use Rattle.filling.specs.Fill.{figure_held, is_exact}
use Rattle.filling.specs.Right.{Right}
use Rattle.filling.specs.Parts.{without_heads, part_room}
use Rattle.filling.proofs.Rows.{read-graph}
use Rattle.filling.proofs.Parts.{figure-within, figure-agrees, part-within, part-agrees, number-low}
use Rattle.filling.proofs.Found.{filling_at, entry_found, head-exact, exact-numbers}

module _ (figure list : List ℕ) where
  abbrev pub figure_graph : Flat ℕ
  figure_graph = graph_of (figure_held figure)

  abbrev pub entries : List (Entry (Flat ℕ))
  entries = map flat_entry (fillings_read list)

  abbrev pub filled_spots : Flat (Spot ℕ ℕ)
  filled_spots = fill_flat entries figure_graph

  abbrev pub atom_total : ℕ
  atom_total = length (figure_held figure).atoms

  abbrev pub part_count : ℕ
  part_count = length (figure_held figure).contexts

  abbrev pub context_at : ℕ → Context
  context_at j = get_or (figure_held figure).contexts j past_contexts

  abbrev pub links_at : ℕ → List ℕ
  links_at j = take (context_at j).count (context_at j).links

  -- Part 0 is the figure, part j + 1 the filling put for context j.
  abbrev pub held_at : ℕ → Held
  held_at zero = figure_held figure
  held_at (suc j) = without_heads (part_held list (context_at j).number)

  abbrev pub node_at : ℕ → Node ℕ → Node (Spot ℕ ℕ)
  node_at zero a = outer_node a
  node_at (suc j) a = plug (atom_total + j) (map inner (links_at j)) (marks_from 1 (context_at j).count) a

  pub context-range : (j : ℕ) → j < part_count → ContextRange Figure (context_at j)
  context-range j h = every-at (ContextRange Figure) past_contexts (figure_held figure).contexts (figure-within figure).ranges.contexts j h

  pub links-size : (j : ℕ) → j < part_count → length (links_at j) ≡ (context_at j).count
  links-size j h = let r = context-range j h in length-take-le (context_at j).count (context_at j).links (omega (arith, r.count, r.ports.width))

  pub low-at : (p : ℕ) (a : Node ℕ) → a ∈ shown (graph_of (held_at p)) → (1 ≤ number_in (held_at p) a) × (number_in (held_at p) a < part_room)
  low-at zero a m = number-low Figure (figure_held figure) (figure-within figure) (figure-agrees figure) a m
  low-at (suc j) a m = number-low Fillings (without_heads (part_held list (context_at j).number)) (part-within list (context_at j).number) (part-agrees list (context_at j).number) a m

  -- What stands at a position among the figure's vertices.
  pub data VertexAt (i : ℕ) (v : Cell ℕ) : Type 0 where
    an-atom : (a : Atom) → v ≡ atom_cell a → VertexAt i v
    a-context : (j : ℕ) → j < part_count → i ≡ atom_total + j → v ≡ context_cell (context_at j) → VertexAt i v

  pub vertex-at : (i : ℕ) (v : Cell ℕ) → get_elem? figure_graph.atoms i ≡ some v → VertexAt i v
  vertex-at i v e = at (dec_lt i atom_total)
    where
      size : length (map atom_cell (figure_held figure).atoms) ≡ atom_total
      size = length-map (figure_held figure).atoms atom_cell

      at : Dec (i < atom_total) → VertexAt i v
      at (yes h) = let t = at-of-map atom_cell (figure_held figure).atoms i v (sym (at_left (map atom_cell (figure_held figure).atoms) (map context_cell (figure_held figure).contexts) i (let q = size in omega arith)) ∙ e) in an-atom t.0 (sym t.2)
      at (no h) =
          let j = i - atom_total in
          let q : length (map atom_cell (figure_held figure).atoms) + j ≡ i = let r = size in omega arith in
          let t = at-of-map context_cell (figure_held figure).contexts j v (sym (at_right (map atom_cell (figure_held figure).atoms) (map context_cell (figure_held figure).contexts) j) ∙ ap (get_elem? figure_graph.atoms) q ∙ e) in
          a-context j (some_below (figure_held figure).contexts j t.0 t.1) (omega arith) (sym t.2 ∙ ap context_cell (sym (get_d_of (figure_held figure).contexts j past_contexts t.0 t.1)))

  pub slot_at : (j : ℕ) → j < part_count → get_elem? figure_graph.atoms (atom_total + j) ≡ some (context_cell (context_at j))
  slot_at j h =
      ap (λ n. get_elem? figure_graph.atoms (n + j)) (sym (length-map (figure_held figure).atoms atom_cell))
      ∙ at_right (map atom_cell (figure_held figure).atoms) (map context_cell (figure_held figure).contexts) j
      ∙ at_map context_cell (figure_held figure).contexts j (context_at j) (at-get_d (figure_held figure).contexts j past_contexts h)

  module _ (right : Right figure list) where
    pub ported-at : (j : ℕ) → j < part_count → ports_of (list_held list).contexts (context_at j).number ≡ suc (context_at j).count
    ported-at j h = right.ported (context_at j) (get_d-in (figure_held figure).contexts j past_contexts h)

    -- The entry that is put for a context, and its marks.
    pub entry-at : (j : ℕ) → j < part_count → entry_at entries (context_cell (context_at j)) ≡ some (flat_entry (filling_at list (context_at j).number (context_at j).count))
    entry-at j h =
        ap (λ n. lookup (context_at j).number n entries) (length-map (links_at j) inner ∙ links-size j h)
        ∙ entry_found list (list_held list).contexts (context_at j).number (context_at j).count (ported-at j h)

    pub marks-at : (j : ℕ) → j < part_count → marks_of (graph_of (held_at (suc j))) ≡ numbers_to (context_at j).count
    marks-at j h = exact-numbers list (context_at j).number (context_at j).count (head-exact list (list_held list).contexts (context_at j).number (context_at j).count (ported-at j h) (every_in (λ (c : Context). is_exact (filling_read list c) ≡ true) (list_held list).contexts right.exact))

    -- The fusions of a filling are in the filled figure.
    part-fusion : (j : ℕ) → j < part_count → (d : Fusion ℕ) → d ∈ (graph_of (held_at (suc j))).fusions → map_fusion (node_at (suc j)) d ∈ filled_spots.fusions
    part-fusion j h d m =
        let e = entry-at j h in
        let there : d ∈ (body_of (entry_at entries (context_cell (context_at j)))).fusions = subst (λ o. d ∈ (body_of o).fusions) (sym e) (subst (λ (G : Flat ℕ). d ∈ G.fusions) (sym (read-graph (part_held list (context_at j).number))) m) in
        subst (λ o. map_fusion (plug (atom_total + j) (map inner (links_at j)) (ports_put o)) d ∈ filled_spots.fusions) e
        (fill_flat-slot entries figure_graph (atom_total + j) (context_cell (context_at j)) (slot_at j h) d there)

    -- What is connected in a part is connected in the filled figure.
    pub part-connected : (p : ℕ) → p ≤ part_count → {a b : Node ℕ} → Connected (graph_of (held_at p)).fusions a b → Connected filled_spots.fusions (node_at p a) (node_at p b)
    part-connected zero h c = connected-map figure_graph.fusions filled_spots.fusions outer_node (λ e m. along (fill_flat-outer entries figure_graph e m)) c
    part-connected (suc j) h c = connected-map (graph_of (held_at (suc j))).fusions filled_spots.fusions (node_at (suc j)) (λ e m. along (part-fusion j (omega arith) e m)) c

    -- Mark k of a filling is link k of its context.
    pub port-at : (j : ℕ) → j < part_count → (k : ℕ) → k < (context_at j).count → node_at (suc j) (mark_node (suc k)) ≡ node_at 0 (inner (get_or (links_at j) k 0))
    port-at j h k l =
        let n = links-size j h in
        ap (λ n. connect (map inner (links_at j)) (marks_from 1 n) (free (suc k))) (sym n) ∙ connect-port (links_at j) 1 (suc k) (omega arith) (omega arith)
        ∙ ap (λ i. fig_n (get_or (links_at j) i 0)) (let z : suc k - 1 ≡ k = omega arith in z)
