-- The atoms of a filled figure, one by one, and the nodes by whose order its classes are numbered.
use Prim.Native.Nat.{ℕ, zero, suc, ◌+◌, ◌*◌, ◌<◌, ◌≤◌}
use mathlib.Core.Path.{◌≡◌, refl, ap, ap₂, sym, ◌∙◌, subst}
use mathlib.Core.Logic.{◌⊎◌, inl, inr}
use mathlib.Core.List.Memᴰ
use mathlib.Core.List.{List, [], ◌∷◌, ◌++◌, map, map-map, map-append, append-nil}
use native.Mathlib.Omega.{arith}
use lib.ListN.{length, get_or, take, length-map}
use lib.Seq.{length-take-le}
use Rattle.hyperlmntal.specs.Link.{free, ◌∈◌}
use Rattle.hyperlmntal.specs.Hypergraph.{Node, inner, name, symbol, Cell, Flat, port_nodes, map_cell}
use Rattle.hyperlmntal.specs.DenotedSubstitution.{Spot, outer_node, fill_with, fill_cells}
use Rattle.hyperlmntal.proofs.Lists.{map-agree, Each, done, more, each_append, each_maps, all_append, all_map}
use Rattle.hyperlmntal.proofs.Filling.{fill_cells-append}
use Rattle.hyperlmntal.proofs.Slots.{entry_at}
use Rattle.rows.specs.Format.{most_links, most_name}
use Rattle.rows.specs.Limits.{atom_room, context_room, mark_room}
use Rattle.rows.specs.Held.{Held}
use Rattle.rows.specs.Packed.{padded, no_atom, no_context}
use Rattle.rows.specs.declared.Atom.{Atom}
use Rattle.rows.specs.declared.Context.{Context}
use Rattle.rows.proofs.Padding.{take-padded}
use Rattle.reading.specs.Graph.{atom_cell, context_cell, graph_of}
use Rattle.reading.specs.Normal.{mark_node, marks_of}
use Rattle.reading.specs.NormalSheet.{number_in, normal_atom, normal_context, normal_marks, packed_normal}
use Rattle.normalising.specs.NormalRows.{past_contexts}
use Rattle.sheet.specs.HeldLimits.{Every, AtomRange}
use Rattle.reading.proofs.normal.Connected.{ports-in}
use Rattle.normalising.proofs.normal_text.NormalWritten.{used-links, taken-padded}
use Rattle.texts.proofs.NormalFits.{every-member}
use Rattle.filling.specs.Read.{part_held}
use Rattle.filling.specs.Fill.{figure_held}
use Rattle.filling.specs.Parts.{part_normal, part_room}
use Rattle.filling.specs.Glued.{place_of, Own}
use Rattle.filling.specs.Whole.{placed_atom, part_atoms, context_atoms, labelled_atom, all_atoms}
use Rattle.filling.specs.Classes.{links_in, mark_labels}
use Rattle.filling.proofs.Rows.{read-graph}
use Rattle.filling.proofs.Parts.{taken-map, figure-within, part-within}
use Rattle.filling.specs.Right.{Right}
use Rattle.filling.proofs.Located.{figure_graph, entries, filled_spots, atom_total, part_count, context_at, held_at, node_at, entry-at}
use Rattle.filling.proofs.Labelled.{labels, Known, label_at, label, label-within}

module _ (figure list : List ℕ) (right : Right figure list) (own : List ℕ) (O : Own own) where
  -- A node that is a port of a part's atom, or a mark of the figure.
  abbrev pub Stands : Node (Spot ℕ ℕ) → Type 0
  Stands x = (p : ℕ) × (a : Node ℕ) × Known figure list right own O (p, a) × (node_at figure list p a ≡ x) × (label figure list right own O x ≡ label_at figure list right own O p a)

  -- An atom with labels, and the vertex that it is.
  pub record Like (α : Atom) (κ : Cell (Spot ℕ ℕ)) : Type 0 where
    pub name : κ.label ≡ symbol α.name
    pub ports : take α.count α.links ≡ map (label figure list right own O) κ.ports
    pub size : α.count ≡ length κ.ports
    pub range : (1 ≤ α.name) × (α.name ≤ most_name) × (α.count ≤ most_links)
    pub stands : (x : Node (Spot ℕ ℕ)) → x ∈ κ.ports → Stands x

  abbrev part_cells : ℕ → List (Cell (Spot ℕ ℕ))
  part_cells p = map (λ a. map_cell (node_at figure list p) (atom_cell a)) (held_at figure list p).atoms

  label-node : (p x : ℕ) → label figure list right own O (node_at figure list p (inner x)) ≡ label_at figure list right own O p (inner x)
  label-node zero x = refl
  label-node (suc j) x = label-within figure list right own O j x

  atoms-in-range : (p : ℕ) → Every AtomRange (held_at figure list p).atoms
  atoms-in-range zero = (figure-within figure).ranges.atoms
  atoms-in-range (suc j) = (part-within list (context_at figure list j).number).ranges.atoms

  -- Atoms with their labels, and those of a part.
  abbrev tagged : List Atom → List Atom
  tagged l = map (labelled_atom (labels figure list right own O)) l

  abbrev labelled : ℕ → Atom → Atom
  labelled p a = labelled_atom (labels figure list right own O) (placed_atom p (normal_atom (held_at figure list p) a))

  one-like : (p : ℕ) → p ≤ part_count figure list → (a : Atom) → a ∈ (held_at figure list p).atoms → Like (labelled p a) (map_cell (node_at figure list p) (atom_cell a))
  one-like p h a i =
      let r = every-member AtomRange (held_at figure list p).atoms a (atoms-in-range p) i in
      let G : ℕ → ℕ = λ x. get_or (labels figure list right own O) x 0 in
      let L : ℕ → ℕ = λ x. G (place_of p x) in
      let links = take a.count a.links in
      let w : a.count ≤ length a.links = omega (arith, r.count, r.ports.width) in
      let size : length links ≡ a.count = length-take-le a.count a.links w in
      let numbers = map (λ x. number_in (held_at figure list p) (inner x)) links in
      let u : take a.count (normal_atom (held_at figure list p) a).links ≡ numbers = used-links (held_at figure list p) a.count a.links w in
      let t : take a.count (labelled p a).links ≡ map L numbers =
      ap (λ l. take a.count (padded most_links 0 (map G l))) (taken-map (place_of p) a.count (normal_atom (held_at figure list p) a).links ∙ ap (map (place_of p)) u)
      ∙ ap (λ l. take a.count (padded most_links 0 l)) (map-map G (place_of p) numbers) ∙ taken-padded most_links (map L numbers) a.count (length-map numbers L ∙ length-map links (λ x. number_in (held_at figure list p) (inner x)) ∙ size) in
      record {
        name = refl;
        ports = t ∙ map-map L (λ x. number_in (held_at figure list p) (inner x)) links
            ∙ map-agree (λ x. label_at figure list right own O p (inner x)) (λ x. label figure list right own O (node_at figure list p (inner x))) links (λ x j. sym (label-node p x))
            ∙ sym (map-map (λ b. label figure list right own O (node_at figure list p b)) inner links) ∙ sym (map-map (label figure list right own O) (node_at figure list p) (map inner links));
        size = sym (length-map (map inner links) (node_at figure list p) ∙ length-map links inner ∙ size);
        range = (r.name.0, r.name.1, r.count);
        stands = all_map (node_at figure list p) (map inner links) Stands (all_map inner links (λ b. Stands (node_at figure list p b)) (λ x j.
            (p, inner x, (h, Memᴰ.append_left (map mark_node (marks_of (graph_of (held_at figure list p)))) (ports-in (atom_cell a) (inner x) (Memᴰ.append_left (map context_cell (held_at figure list p).contexts) (Memᴰ.map atom_cell i)) (Memᴰ.map inner j))), refl, label-node p x)));
      }

  taken-atoms : (h : Held) → take (length h.atoms) (packed_normal h).atoms ≡ map (normal_atom h) h.atoms
  taken-atoms h = ap (λ n. take n (packed_normal h).atoms) (sym (length-map h.atoms (normal_atom h))) ∙ take-padded atom_room no_atom (map (normal_atom h) h.atoms)

  part-like : (p : ℕ) → p ≤ part_count figure list → Each Like (tagged (part_atoms p (packed_normal (held_at figure list p)))) (part_cells p)
  part-like p h =
      subst (λ l. Each Like l (part_cells p))
      (sym (ap (λ (k : List Atom). tagged (map (placed_atom p) k)) (taken-atoms (held_at figure list p)) ∙ ap tagged (map-map (placed_atom p) (normal_atom (held_at figure list p)) (held_at figure list p).atoms)
      ∙ map-map (labelled_atom (labels figure list right own O)) (λ a. placed_atom p (normal_atom (held_at figure list p) a)) (held_at figure list p).atoms))
      (each_maps (labelled p) (λ a. map_cell (node_at figure list p) (atom_cell a)) Like (held_at figure list p).atoms (one-like p h))

  figure-cells : (i : ℕ) (l : List Atom) → (fill_cells (entries figure list) i (map atom_cell l)).atoms ≡ map (λ a. map_cell (node_at figure list 0) (atom_cell a)) l
  figure-cells i [] = refl
  figure-cells i (a ∷ l) = ap (λ k. map_cell outer_node (atom_cell a) ∷ k) (figure-cells (suc i) l)

  -- What is put for context j.
  put-cells : (j : ℕ) → j < part_count figure list → (fill_with (entry_at (entries figure list) (context_cell (context_at figure list j))) (atom_total figure list + j) (context_cell (context_at figure list j))).atoms ≡ part_cells (suc j)
  put-cells j h =
      let held = part_held list (context_at figure list j).number in
      ap (λ o. (fill_with o (atom_total figure list + j) (context_cell (context_at figure list j))).atoms) (entry-at figure list right j h)
      ∙ ap (λ (G : Flat ℕ). map (map_cell (node_at figure list (suc j))) G.atoms) (read-graph held)
      ∙ ap (map (map_cell (node_at figure list (suc j)))) (append-nil (map atom_cell held.atoms))
      ∙ map-map (map_cell (node_at figure list (suc j))) atom_cell held.atoms

  contexts-like : (l : List Context) (j p i : ℕ) → p ≡ suc j → i ≡ atom_total figure list + j → ((k : ℕ) → k < length l → get_or l k past_contexts ≡ context_at figure list (j + k)) → j + length l ≤ part_count figure list
      → Each Like (tagged (context_atoms list p (map (normal_context (figure_held figure)) l))) (fill_cells (entries figure list) i (map context_cell l)).atoms
  unfolding context_atoms
  contexts-like [] j p i e f g h = done
  contexts-like (c ∷ l) j p i e f g h =
      let q : c ≡ context_at figure list j = g 0 (omega arith) ∙ ap (context_at figure list) (let z : j + 0 ≡ j = omega arith in z) in
      subst (λ (k : List Atom). Each Like k (fill_cells (entries figure list) i (map context_cell (c ∷ l))).atoms)
      (sym (map-append (labelled_atom (labels figure list right own O)) (part_atoms p (part_normal list c.number)) (context_atoms list (p + 1) (map (normal_context (figure_held figure)) l))))
      (each_append
      (subst (λ (d : Context). Each Like (tagged (part_atoms p (part_normal list d.number))) (fill_with (entry_at (entries figure list) (context_cell d)) i (context_cell d)).atoms) (sym q)
      (subst (λ n. Each Like (tagged (part_atoms p (part_normal list (context_at figure list j).number))) (fill_with (entry_at (entries figure list) (context_cell (context_at figure list j))) n (context_cell (context_at figure list j))).atoms) (sym f)
      (subst (λ n. Each Like (tagged (part_atoms n (part_normal list (context_at figure list j).number))) (fill_with (entry_at (entries figure list) (context_cell (context_at figure list j))) (atom_total figure list + j) (context_cell (context_at figure list j))).atoms) (sym e)
      (subst (Each Like (tagged (part_atoms (suc j) (part_normal list (context_at figure list j).number)))) (sym (put-cells j (omega arith))) (part-like (suc j) (omega arith))))))
      (contexts-like l (suc j) (p + 1) (suc i) (omega arith) (omega arith) (λ k m. g (suc k) (omega arith) ∙ ap (context_at figure list) (let z : j + suc k ≡ suc j + k = omega arith in z)) (omega arith)))

  pub taken-contexts : take (length (figure_held figure).contexts) (packed_normal (figure_held figure)).contexts ≡ map (normal_context (figure_held figure)) (figure_held figure).contexts
  taken-contexts =
      ap (λ n. take n (packed_normal (figure_held figure)).contexts) (sym (length-map (figure_held figure).contexts (normal_context (figure_held figure))))
      ∙ take-padded context_room no_context (map (normal_context (figure_held figure)) (figure_held figure).contexts)

  -- The atoms that the code makes are those of the filled figure.
  pub atoms-like : Each Like (all_atoms list (labels figure list right own O) (packed_normal (figure_held figure))) (filled_spots figure list).atoms
  atoms-like =
      subst (λ (l : List Context). Each Like (tagged (part_atoms 0 (packed_normal (figure_held figure)) ++ context_atoms list 1 l)) (filled_spots figure list).atoms) (sym taken-contexts)
      (subst (λ (k : List Atom). Each Like k (filled_spots figure list).atoms)
      (sym (map-append (labelled_atom (labels figure list right own O)) (part_atoms 0 (packed_normal (figure_held figure))) (context_atoms list 1 (map (normal_context (figure_held figure)) (figure_held figure).contexts))))
      (subst (Each Like (tagged (part_atoms 0 (packed_normal (figure_held figure))) ++ tagged (context_atoms list 1 (map (normal_context (figure_held figure)) (figure_held figure).contexts))))
      (sym (append-nil (fill_cells (entries figure list) 0 (figure_graph figure list).atoms).atoms ∙ ap (λ (G : Flat (Spot ℕ ℕ)). G.atoms) (fill_cells-append (entries figure list) 0 (map atom_cell (figure_held figure).atoms) (map context_cell (figure_held figure).contexts))))
      (each_append
      (subst (Each Like (tagged (part_atoms 0 (packed_normal (figure_held figure))))) (sym (figure-cells 0 (figure_held figure).atoms)) (part-like 0 (omega arith)))
      (contexts-like (figure_held figure).contexts 0 1 (0 + length (map atom_cell (figure_held figure).atoms)) (omega arith) (omega (arith, length-map (figure_held figure).atoms atom_cell))
      (λ k m. ap (context_at figure list) (let z : k ≡ 0 + k = omega arith in z)) (omega arith)))))

  -- The nodes that are shown: the ports in order, then the figure's marks.
  abbrev pub spot_mark : ℕ → Node (Spot ℕ ℕ)
  spot_mark m = name (free m)

  abbrev pub shown_spots : List (Node (Spot ℕ ℕ))
  shown_spots = port_nodes (filled_spots figure list).atoms ++ map spot_mark (normal_marks (figure_held figure))

  like-links : {l : List Atom} {k : List (Cell (Spot ℕ ℕ))} → Each Like l k → links_in l ≡ map (label figure list right own O) (port_nodes k)
  unfolding links_in
  like-links done = refl
  like-links (more {b = κ} {k = k} r e) = ap₂ ◌++◌ r.ports (like-links e) ∙ sym (map-append (label figure list right own O) κ.ports (port_nodes k))

  like-stands : {l : List Atom} {k : List (Cell (Spot ℕ ℕ))} → Each Like l k → (x : Node (Spot ℕ ℕ)) → x ∈ port_nodes k → Stands x
  like-stands done x i = absurd (Memᴰ.not-nil i)
  like-stands (more {b = κ} {k = k} r e) x i = at (Memᴰ.append_cases κ.ports i) (like-stands e x)
    where
      at : (x ∈ κ.ports) ⊎ (x ∈ port_nodes k) → (x ∈ port_nodes k → Stands x) → Stands x
      at (inl j) f = r.stands x j
      at (inr j) f = f j

  marks-size : take (length (normal_marks (figure_held figure))) (packed_normal (figure_held figure)).marked ≡ map (λ m. number_in (figure_held figure) (mark_node m)) (normal_marks (figure_held figure))
  marks-size = taken-padded mark_room (map (λ m. number_in (figure_held figure) (mark_node m)) (normal_marks (figure_held figure))) (length (normal_marks (figure_held figure))) (length-map (normal_marks (figure_held figure)) (λ m. number_in (figure_held figure) (mark_node m)))

  pub mark-labels : mark_labels (labels figure list right own O) (packed_normal (figure_held figure)) ≡ map (label figure list right own O) (map spot_mark (normal_marks (figure_held figure)))
  mark-labels =
      let L = labels figure list right own O in
      let h = figure_held figure in
      ap (map (λ x. get_or L x 0)) marks-size ∙ map-map (λ x. get_or L x 0) (λ m. number_in h (mark_node m)) (normal_marks h)
      ∙ map-agree (λ m. get_or L (number_in h (mark_node m)) 0) (λ m. label figure list right own O (spot_mark m)) (normal_marks h) (λ m i. ap (λ n. get_or L n 0) (let z : number_in h (mark_node m) ≡ 0 * part_room + number_in h (mark_node m) = omega arith in z))
      ∙ sym (map-map (label figure list right own O) spot_mark (normal_marks h))

  -- Their labels, in the order of the code.
  pub shown-labels : links_in (all_atoms list (labels figure list right own O) (packed_normal (figure_held figure))) ++ mark_labels (labels figure list right own O) (packed_normal (figure_held figure)) ≡ map (label figure list right own O) shown_spots
  shown-labels = ap₂ ◌++◌ (like-links atoms-like) mark-labels ∙ sym (map-append (label figure list right own O) (port_nodes (filled_spots figure list).atoms) (map spot_mark (normal_marks (figure_held figure))))

  pub shown-stands : (x : Node (Spot ℕ ℕ)) → x ∈ shown_spots → Stands x
  shown-stands =
      all_append (port_nodes (filled_spots figure list).atoms) (map spot_mark (normal_marks (figure_held figure))) Stands (like-stands atoms-like)
      (all_map spot_mark (normal_marks (figure_held figure)) Stands (λ m i. (0, mark_node m, (omega arith, Memᴰ.append_right (port_nodes (figure_graph figure list).atoms) (Memᴰ.map mark_node i)), refl, refl)))
