-- The labels of a filled figure are equal exactly where its fusions connect.
use Prim.Native.Nat.{ℕ, suc, ◌+◌, ◌-◌, ◌*◌, ◌<◌, ◌≤◌}
use mathlib.Core.Path.{◌≡◌, refl, ap, ap₂, sym, ◌∙◌, subst}
use mathlib.Core.List.Memᴰ
use mathlib.Core.List.{List, map}
use mathlib.Core.Option.{some}
use native.Mathlib.Omega.{arith}
use lib.ListN.{length, get_or, get_elem?, take, length-map}
use Rattle.hyperlmntal.specs.Link.{◌∈◌}
use Rattle.hyperlmntal.specs.Hypergraph.{Node, inner, name, Cell, Fusion, Flat, Connected, stay, along, back, then, port_nodes, nodes}
use Rattle.hyperlmntal.specs.DenotedSubstitution.{Spot, outer, within, outer_node, plug}
use Rattle.hyperlmntal.proofs.Connection.{connected-≡}
use Rattle.hyperlmntal.proofs.Flats.{ends-in, on-fusions}
use Rattle.hyperlmntal.proofs.Slots.{body_of, ports_of as ports_put, entry_at, plug_at, fill_flat-all}
use Rattle.rows.specs.Limits.{mark_room}
use Rattle.rows.specs.Packed.{padded}
use Rattle.rows.specs.declared.Context.{Context}
use Rattle.rows.proofs.Lists.{get_d-mapped}
use Rattle.reading.specs.Graph.{atom_cell, context_cell, edge_of, graph_of}
use Rattle.reading.specs.Normal.{mark_node, marks_of, shown}
use Rattle.reading.specs.NormalSheet.{number_in, normal_context}
use Rattle.normalising.specs.NormalRows.{past_contexts}
use Rattle.reading.proofs.normal.Marks.{marks-in}
use Rattle.normalising.proofs.normal_text.NormalWritten.{used-links, taken-padded}
use Rattle.reading.proofs.normal.Connected.{ports-in}
use Rattle.reading.proofs.normal.Merging.{get_d-in}
use Rattle.texts.proofs.NormalIso.{number-of-connected, connected-of-number}
use Rattle.placing.specs.Fillings.{rows_graph}
use Rattle.placing.specs.Smallest.{numbers_to}
use Rattle.placing.proofs.Names.{FusionOf, of-point, of-edge, rows-fusion}
use Rattle.placing.proofs.Joined.{numbers-length, numbers-at}
use Rattle.filling.specs.Read.{rows_read, part_held}
use Rattle.filling.specs.Fill.{figure_held}
use Rattle.filling.specs.Parts.{part_normal, part_room, places}
use Rattle.filling.specs.Glued.{place_of, Own, joined_all, port_pairs, context_pairs, all_pairs}
use Rattle.filling.proofs.Rows.{read-graph}
use Rattle.filling.proofs.Exact.{numbers_of, numbers-in}
use Rattle.filling.proofs.Parts.{figure-within}
use Rattle.filling.proofs.Join.{Tells, Pair, all_tell, pair_same, port-pair, pair-port, pair-at, at_pair}
use Rattle.filling.specs.Right.{Right}
use Rattle.filling.proofs.Located.{figure_graph, entries, filled_spots, atom_total, part_count, context_at, links_at, held_at, node_at, context-range, links-size, low-at, VertexAt, an-atom, a-context, vertex-at, entry-at, marks-at, part-connected, port-at}

module _ (figure list : List ℕ) (right : Right figure list) (own : List ℕ) (O : Own own) where
  -- The figure's contexts with the numbers of their classes.
  abbrev pub normal_contexts : List Context
  normal_contexts = map (normal_context (figure_held figure)) (figure_held figure).contexts

  abbrev pub pairs : List (ℕ × ℕ)
  pairs = all_pairs list 1 normal_contexts

  abbrev pub labels : List ℕ
  labels = joined_all own pairs

  -- Class numbers of the links of context j, and of the marks of its filling.
  abbrev link_numbers : ℕ → List ℕ
  link_numbers j = map (λ x. number_in (figure_held figure) (inner x)) (links_at figure list j)

  abbrev mark_numbers : ℕ → List ℕ
  mark_numbers j = map (λ m. number_in (held_at figure list (suc j)) (mark_node m)) (numbers_to (context_at figure list j).count)

  pairs-are : (j : ℕ) → j < part_count figure list → (p : ℕ) → context_pairs list p (normal_context (figure_held figure) (context_at figure list j)) ≡ port_pairs p (link_numbers j) (mark_numbers j)
  pairs-are j h p =
      let c = context_at figure list j in
      let r = context-range figure list j h in
      let e : take c.count (part_normal list c.number).marked ≡ mark_numbers j =
      ap (λ l. take c.count (padded mark_room 0 (map (λ m. number_in (held_at figure list (suc j)) (mark_node m)) l))) (marks-at figure list right j h)
      ∙ taken-padded mark_room (mark_numbers j) c.count (length-map (numbers_to c.count) (λ m. number_in (held_at figure list (suc j)) (mark_node m)) ∙ numbers-length 1 c.count) in
      ap₂ (port_pairs p) (used-links (figure_held figure) c.count c.links (omega (arith, r.count, r.ports.width))) e

  abbrev pub At : Type 0
  At = ℕ × Node ℕ

  abbrev pub Known : At → Type 0
  Known x = (x.0 ≤ part_count figure list) × (x.1 ∈ shown (graph_of (held_at figure list x.0)))

  abbrev pub code : At → ℕ
  code x = place_of x.0 (number_in (held_at figure list x.0) x.1)

  abbrev pub Joint : At → At → Type 0
  Joint x y = Connected (filled_spots figure list).fusions (node_at figure list x.0 x.1) (node_at figure list y.0 y.1)

  code-low : (x : At) → Known x → code x < places
  code-low x k = let n = (low-at figure list x.0 x.1 k.1).1 in let c = (figure-within figure).contexts in let p : x.0 ≤ part_count figure list = k.0 in omega arith

  -- A port of a blank, and a mark of its filling.
  port-known : (j : ℕ) → j < part_count figure list → (k : ℕ) → k < (context_at figure list j).count → Known (0, inner (get_or (links_at figure list j) k 0))
  port-known j h k l =
      let n = links-size figure list j h in (
        omega arith,
        Memᴰ.append_left (map mark_node (marks_of (figure_graph figure list)))
            (ports-in (context_cell (context_at figure list j)) (inner (get_or (links_at figure list j) k 0)) (Memᴰ.append_right (map atom_cell (figure_held figure).atoms) (Memᴰ.map context_cell (get_d-in (figure_held figure).contexts j past_contexts h)))
            (Memᴰ.map inner (get_d-in (links_at figure list j) k 0 (omega arith)))),
      )

  mark-known : (j : ℕ) → j < part_count figure list → (k : ℕ) → k < (context_at figure list j).count → Known (suc j, mark_node (suc k))
  mark-known j h k l = (
    omega arith,
    Memᴰ.append_right (port_nodes (graph_of (held_at figure list (suc j))).atoms)
        (Memᴰ.map mark_node (subst (λ t. suc k ∈ t) (sym (marks-at figure list right j h)) (numbers-in 1 (context_at figure list j).count (suc k) (omega arith) (omega arith)))),
  )

  link-number : (j : ℕ) → j < part_count figure list → (k : ℕ) → k < (context_at figure list j).count → get_or (link_numbers j) k 0 ≡ number_in (figure_held figure) (inner (get_or (links_at figure list j) k 0))
  link-number j h k l = let n = links-size figure list j h in get_d-mapped (λ x. number_in (figure_held figure) (inner x)) (links_at figure list j) k 0 0 (omega arith)

  mark-number : (j k : ℕ) → k < (context_at figure list j).count → get_or (mark_numbers j) k 0 ≡ number_in (held_at figure list (suc j)) (mark_node (suc k))
  mark-number j k l =
      let n = numbers-length 1 (context_at figure list j).count in
      get_d-mapped (λ m. number_in (held_at figure list (suc j)) (mark_node m)) (numbers_to (context_at figure list j).count) k 0 0 (omega arith)
      ∙ ap (λ m. number_in (held_at figure list (suc j)) (mark_node m)) (numbers-at 1 (context_at figure list j).count k l ∙ (let z : 1 + k ≡ suc k = omega arith in z))

  -- Each pair is of a blank's port and the mark that is put there.
  port-pair-known : (j : ℕ) → j < part_count figure list → (k : ℕ) → k < (context_at figure list j).count
      → (e : ℕ × ℕ) → e ≡ (get_or (link_numbers j) k 0, place_of (1 + j) (get_or (mark_numbers j) k 0)) → Pair Known code Joint (λ x y c. back c) (λ x y z c d. then c d) e
  port-pair-known j h k l e q =
      let x : ℕ = get_or (links_at figure list j) k 0 in
      let a : 0 * part_room + number_in (figure_held figure) (inner x) ≡ number_in (figure_held figure) (inner x) = omega arith in
      let b : suc j ≡ 1 + j = omega arith in (
        (0, inner x),
        (suc j, mark_node (suc k)),
        port-known j h k l,
        mark-known j h k l,
        a ∙ sym (link-number j h k l) ∙ ap (λ (d : ℕ × ℕ). d.0) (sym q),
        ap₂ place_of b (sym (mark-number j k l)) ∙ ap (λ (d : ℕ × ℕ). d.1) (sym q),
        connected-≡ (filled_spots figure list).fusions (sym (port-at figure list right j h k l)),
      )

  at-context : (j : ℕ) → j < part_count figure list → get_or normal_contexts j (normal_context (figure_held figure) past_contexts) ≡ normal_context (figure_held figure) (context_at figure list j)
  at-context j h = get_d-mapped (normal_context (figure_held figure)) (figure_held figure).contexts j past_contexts (normal_context (figure_held figure) past_contexts) h

  context-pair-known : (j : ℕ) → j < length normal_contexts → (e : ℕ × ℕ) → e ∈ context_pairs list (1 + j) (get_or normal_contexts j (normal_context (figure_held figure) past_contexts)) → Pair Known code Joint (λ x y c. back c) (λ x y z c d. then c d) e
  context-pair-known j g e m =
      let h : j < part_count figure list = omega (arith, length-map (figure_held figure).contexts (normal_context (figure_held figure))) in
      let u = pair-port (1 + j) (link_numbers j) (mark_numbers j) e (subst (λ l. e ∈ l) (ap (context_pairs list (1 + j)) (at-context j h) ∙ pairs-are j h (1 + j)) m) in
      let b : u.0 < length (link_numbers j) = u.1 in
      port-pair-known j h u.0 (omega (arith, length-map (links_at figure list j) (λ x. number_in (figure_held figure) (inner x)), links-size figure list j h)) e u.3

  pair-known : (e : ℕ × ℕ) → e ∈ pairs → Pair Known code Joint (λ x y c. back c) (λ x y z c d. then c d) e
  pair-known e m = let t = pair-at list 1 normal_contexts (normal_context (figure_held figure) past_contexts) e m in context-pair-known t.0 t.1 e t.2

  -- Without pairs, equal labels are those of one part's class.
  same-part : (p : ℕ) (a : Node ℕ) (q : ℕ) → p ≡ q → (b : Node ℕ) → p ≤ part_count figure list → a ∈ shown (graph_of (held_at figure list p)) → number_in (held_at figure list p) a ≡ number_in (held_at figure list q) b → Joint (p, a) (q, b)
  same-part p a q e = subst (λ q. (b : Node ℕ) → p ≤ part_count figure list → a ∈ shown (graph_of (held_at figure list p)) → number_in (held_at figure list p) a ≡ number_in (held_at figure list q) b → Joint (p, a) (q, b)) e
      (λ b h m n. part-connected figure list right p h (connected-of-number (graph_of (held_at figure list p)) a b m n))

  own-tells : Tells Known code Joint (λ x y c. back c) (λ x y z c d. then c d) own
  own-tells x y kx ky e =
      let a = (low-at figure list x.0 x.1 kx.1).1 in
      let b = (low-at figure list y.0 y.1 ky.1).1 in
      let c : code x ≡ code y = sym (O.own (code x) (code-low x kx)) ∙ e ∙ O.own (code y) (code-low y ky) in
      same-part x.0 x.1 y.0 (omega arith) y.1 kx.0 kx.1 (omega arith)

  pub labels-tell : Tells Known code Joint (λ x y c. back c) (λ x y z c d. then c d) labels
  labels-tell = all_tell Known code Joint (λ x y c. back c) (λ x y z c d. then c d) pairs own (λ x k. let s = O.size in let h = code-low x k in omega arith) pair-known own-tells

  -- The label of a node of the filled figure.
  abbrev pub label_at : ℕ → Node ℕ → ℕ
  label_at p a = get_or labels (place_of p (number_in (held_at figure list p) a)) 0

  abbrev pub label : Node (Spot ℕ ℕ) → ℕ
  label (inner (outer x)) = label_at 0 (inner x)
  label (inner (within i x)) = label_at (suc (i - atom_total figure list)) (inner x)
  label (name X) = label_at 0 (name X)

  pub label-outer : (a : Node ℕ) → label (outer_node a) ≡ label_at 0 a
  label-outer (inner x) = refl
  label-outer (name X) = refl

  pub label-within : (j : ℕ) (x : ℕ) → label (inner (within (atom_total figure list + j) x)) ≡ label_at (suc j) (inner x)
  label-within j x = ap (λ p. label_at (suc p) (inner x)) (let z : atom_total figure list + j - atom_total figure list ≡ j = omega arith in z)

  connected-label : (p : ℕ) {a b : Node ℕ} → Connected (graph_of (held_at figure list p)).fusions a b → label_at p a ≡ label_at p b
  connected-label p c = ap (λ n. get_or labels (place_of p n) 0) (number-of-connected (graph_of (held_at figure list p)) c)

  -- The label of a mark of a filling is that of its port.
  port-label : (j : ℕ) → j < part_count figure list → (k : ℕ) → k < (context_at figure list j).count → label_at (suc j) (mark_node (suc k)) ≡ label_at 0 (inner (get_or (links_at figure list j) k 0))
  port-label j h k l =
      let x : At = (0, inner (get_or (links_at figure list j) k 0)) in
      let y : At = (suc j, mark_node (suc k)) in
      let a = code-low x (port-known j h k l) in
      let b = code-low y (mark-known j h k l) in
      let s = O.size in
      let n = links-size figure list j h in
      let there : (get_or (link_numbers j) k 0, place_of (1 + j) (get_or (mark_numbers j) k 0)) ∈ pairs =
      at_pair list 1 normal_contexts (normal_context (figure_held figure) past_contexts) (get_or (link_numbers j) k 0, place_of (1 + j) (get_or (mark_numbers j) k 0)) j (omega (arith, length-map (figure_held figure).contexts (normal_context (figure_held figure))))
      (subst (λ l. (get_or (link_numbers j) k 0, place_of (1 + j) (get_or (mark_numbers j) k 0)) ∈ l)
      (sym (ap (context_pairs list (1 + j)) (get_d-mapped (normal_context (figure_held figure)) (figure_held figure).contexts j past_contexts (normal_context (figure_held figure) past_contexts) h) ∙ pairs-are j h (1 + j)))
      (port-pair (1 + j) (link_numbers j) (mark_numbers j) k (omega (arith, length-map (links_at figure list j) (λ x. number_in (figure_held figure) (inner x)))) (omega (arith, length-map (numbers_to (context_at figure list j).count) (λ m. number_in (held_at figure list (suc j)) (mark_node m)), numbers-length 1 (context_at figure list j).count)))) in
      let p : get_or (link_numbers j) k 0 ≡ code x = link-number j h k l ∙ (let z : number_in (figure_held figure) (inner (get_or (links_at figure list j) k 0)) ≡ 0 * part_room + number_in (figure_held figure) (inner (get_or (links_at figure list j) k 0)) = omega arith in z) in
      let q : place_of (1 + j) (get_or (mark_numbers j) k 0) ≡ code y = ap₂ place_of (let z : 1 + j ≡ suc j = omega arith in z) (mark-number j k l) in
      let moved : (code x, code y) ∈ pairs = subst (λ (u : ℕ). (u, code y) ∈ pairs) p (subst (λ (u : ℕ). (get_or (link_numbers j) k 0, u) ∈ pairs) q there) in
      sym (pair_same pairs own (code x) (code y) (omega arith) (omega arith) moved)

  -- A fusion has one label at its ends.
  part-ends : (j : ℕ) → j < part_count figure list → (d : Fusion ℕ) → FusionOf (rows_read (part_held list (context_at figure list j).number)) d → d ∈ (graph_of (held_at figure list (suc j))).fusions
      → label (node_at figure list (suc j) d.0) ≡ label (node_at figure list (suc j) d.1)
  part-ends j h d (of-point a b i e) m =
      subst (λ (f : Fusion ℕ). label (node_at figure list (suc j) f.0) ≡ label (node_at figure list (suc j) f.1)) (sym e)
      (label-within j a ∙ connected-label (suc j) (along (subst (λ (f : Fusion ℕ). f ∈ (graph_of (held_at figure list (suc j))).fusions) e m)) ∙ sym (label-within j b))
  part-ends j h d (of-edge a m i e) k =
      let G = graph_of (held_at figure list (suc j)) in
      let there : edge_of (a, m) ∈ G.fusions = subst (λ (f : Fusion ℕ). f ∈ G.fusions) e k in
      let known : m ∈ marks_of G = marks-in (nodes G) m (on-fusions G (ends-in {e = edge_of (a, m)} there).1) in
      let r = numbers_of 1 (context_at figure list j).count m (subst (λ l. m ∈ l) (marks-at figure list right j h) known) in
      let low : 1 ≤ m = r.0 in
      let high : m < 1 + (context_at figure list j).count = r.1 in
      let s : suc (m - 1) ≡ m = omega arith in
      subst (λ (f : Fusion ℕ). label (node_at figure list (suc j) f.0) ≡ label (node_at figure list (suc j) f.1)) (sym e)
      (label-within j a ∙ connected-label (suc j) (along there)
      ∙ subst (λ n. label_at (suc j) (mark_node n) ≡ label (node_at figure list (suc j) (mark_node n))) s (port-label j h (m - 1) (omega arith) ∙ ap label (sym (port-at figure list right j h (m - 1) (omega arith)))))

  ends_label : (e : Fusion (Spot ℕ ℕ)) → e ∈ (filled_spots figure list).fusions → label e.0 ≡ label e.1
  ends_label = fill_flat-all (entries figure list) (figure_graph figure list) (λ e. label e.0 ≡ label e.1) slot outers
    where
      outers : (e : Fusion ℕ) → e ∈ (figure_graph figure list).fusions → label (outer_node e.0) ≡ label (outer_node e.1)
      outers e m = label-outer e.0 ∙ connected-label 0 (along m) ∙ sym (label-outer e.1)

      put : (j : ℕ) → j < part_count figure list → (d : Fusion ℕ) → d ∈ (body_of (entry_at (entries figure list) (context_cell (context_at figure list j)))).fusions
          → label (plug_at (entries figure list) (atom_total figure list + j) (context_cell (context_at figure list j)) d.0) ≡ label (plug_at (entries figure list) (atom_total figure list + j) (context_cell (context_at figure list j)) d.1)
      put j h d m =
          let e = entry-at figure list right j h in
          let i : d ∈ (rows_graph (rows_read (part_held list (context_at figure list j).number))).fusions = subst (λ o. d ∈ (body_of o).fusions) e m in
          subst (λ o. label (plug (atom_total figure list + j) (map inner (links_at figure list j)) (ports_put o) d.0) ≡ label (plug (atom_total figure list + j) (map inner (links_at figure list j)) (ports_put o) d.1)) (sym e)
          (part-ends j h d (rows-fusion (rows_read (part_held list (context_at figure list j).number)) d i) (subst (λ (G : Flat ℕ). d ∈ G.fusions) (read-graph (part_held list (context_at figure list j).number)) i))

      slot : (i : ℕ) (c : Cell ℕ) → get_elem? (figure_graph figure list).atoms i ≡ some c → (d : Fusion ℕ) → d ∈ (body_of (entry_at (entries figure list) c)).fusions
          → label (plug_at (entries figure list) i c d.0) ≡ label (plug_at (entries figure list) i c d.1)
      slot i c e d m = at (vertex-at figure list i c e)
        where
          at : VertexAt figure list i c → label (plug_at (entries figure list) i c d.0) ≡ label (plug_at (entries figure list) i c d.1)
          at (an-atom a q) = absurd (Memᴰ.not-nil (subst (λ v. d ∈ (body_of (entry_at (entries figure list) v)).fusions) q m))
          at (a-context j h p q) =
              subst (λ n. label (plug_at (entries figure list) n c d.0) ≡ label (plug_at (entries figure list) n c d.1)) (sym p)
              (subst (λ v. label (plug_at (entries figure list) (atom_total figure list + j) v d.0) ≡ label (plug_at (entries figure list) (atom_total figure list + j) v d.1)) (sym q)
              (put j h d (subst (λ v. d ∈ (body_of (entry_at (entries figure list) v)).fusions) q m)))

  pub connected-same : {x y : Node (Spot ℕ ℕ)} → Connected (filled_spots figure list).fusions x y → label x ≡ label y
  connected-same stay = refl
  connected-same (along {a} {b} m) = ends_label (a, b) m
  connected-same (back c) = sym (connected-same c)
  connected-same (then c d) = connected-same c ∙ connected-same d
