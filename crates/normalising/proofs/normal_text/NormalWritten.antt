-- What a text holds, in a `Normal`: its rows are the normal text, they fit a slip, and each number fits its columns.
use Prim.Native.Nat.{ℕ, ◌+◌, ◌*◌, ◌<◌, ◌≤◌}
use mathlib.Core.Path.{◌≡◌, ap, ◌∙◌, sym}
use mathlib.Core.List.Memᴰ
use mathlib.Core.List.{List, ◌++◌, map, map-map, map-append}
use native.Mathlib.Omega.{arith}
use lib.ListN.{length, get_or, take, length-map}
use lib.Seq.{length-take-le, get_or-take}
use Rattle.hyperlmntal.specs.Link.{free, ◌∈◌}
use Rattle.hyperlmntal.specs.Hypergraph.{Node, inner, map_cell, port_nodes, nodes}
use Rattle.rows.specs.Format.{most_links, row_width, most_number}
use Rattle.rows.specs.Limits.{sheet_marks, atom_room, context_room, mark_room}
use Rattle.rows.specs.Held.{Held, index_of}
use Rattle.rows.specs.Packed.{padded, no_atom, no_context}
use Rattle.rows.specs.declared.Atom.{Atom}
use Rattle.rows.specs.declared.Context.{Context}
use Rattle.rows.proofs.Lists.{get_d-mapped}
use Rattle.rows.proofs.Padding.{take-padded, get_d-padded}
use Rattle.reading.specs.Graph.{graph_of, atom_cell, context_cell}
use Rattle.reading.specs.Normal.{class_of, mark_node, shown, numbered_by, marked_by, normal_form_by, normal_form}
use Rattle.reading.specs.NormalSheet.{number_in, normal_atom, normal_context, normal_marks, packed_normal}
use Rattle.normalising.specs.NormalText.{node_number, cell_bytes, edge_bytes, joined, text_of, slip_length}
use Rattle.normalising.specs.NormalRows.{past_atoms, past_contexts, symbol_row, blank_row, atom_row, context_row, mark_row, normal_rows, Narrow, Writable}
use Rattle.sheet.specs.declared.kind.Kind.{Kind}
use Rattle.sheet.specs.HeldLimits.{MarkRange, AtomRange, ContextRange, WithinLimits}
use Rattle.reading.specs.Agrees.{Agrees}
use Rattle.reading.proofs.normal.Merging.{at-index_of, get_d-in, among_in}
use Rattle.sheet.proofs.read.Every.{every-at}
use Rattle.sheet.proofs.read.Room.{limits-most}
use Rattle.reading.proofs.normal.Marks.{marks-of}
use Rattle.reading.proofs.normal.TextGraph.{Linked, graph-name}
use Rattle.reading.proofs.normal.NormalBounds.{number-range, text-links, text-marks}
use Rattle.reading.proofs.normal.Connected.{atom-port, context-port, atom-links, context-links, edge-links}
use Rattle.normalising.proofs.normal_text.NormalRows.{rows-joined, joined-append}

-- the element of a mapped list with padding after it
pub mapped_at : {A B : Type 0} (f : A → B) (n : ℕ) (p : B) (l : List A) (k : ℕ) (d : A) (e : B) → k < length l → get_or (padded n p (map f l)) k e ≡ f (get_or l k d)
mapped_at f n p l k d e h = get_d-padded n p (map f l) k e (rw (length-map l f) h) ∙ get_d-mapped f l k d e h

pub taken-padded : (n : ℕ) (l : List ℕ) (k : ℕ) → length l ≡ k → take k (padded n 0 l) ≡ l
taken-padded n l k e = rw (← e) (take-padded n 0 l)

two-mapped : {A B C D : Type 0} (f : D → List ℕ) (g : C → D) (a : A → C) (b : B → C) (l : List A) (m : List B)
    → joined (map f (map g (map a l ++ map b m))) ≡ joined (map (λ x. f (g (a x))) l) ++ joined (map (λ x. f (g (b x))) m)
two-mapped f g a b l m = simp (map-append, map-map, joined-append)

module _ (h : Held) where
  abbrev pub label : Node ℕ → ℕ
  label = class_of (graph_of h).fusions

  abbrev pub numbered : Node ℕ → Node ℕ
  numbered = numbered_by label (graph_of h)

  abbrev pub number : ℕ → ℕ
  number x = number_in h (inner x)

  -- the numbers of the links that are used
  module _ (count : ℕ) (links : List ℕ) (w : count ≤ length links) where
    pub used-links : take count (padded most_links 0 (map number (take count links))) ≡ map number (take count links)
    used-links = taken-padded most_links (map number (take count links)) count (length-map (take count links) number ∙ length-take-le count links w)

    pub used-ports : map node_number (map numbered (map inner (take count links))) ≡ map number (take count links)
    used-ports = ap (map node_number) (map-map numbered inner (take count links)) ∙ map-map node_number (λ x. numbered (inner x)) (take count links)

    pub used-count : length (map numbered (map inner (take count links))) ≡ count
    used-count = length-map (map inner (take count links)) numbered ∙ length-map (take count links) inner ∙ length-take-le count links w

  -- the row of an atom, of a context and of a mark in the normal form
  abbrev pub symbol_form : Atom → List ℕ
  symbol_form a = cell_bytes (map_cell numbered (atom_cell a))

  abbrev pub blank_form : Context → List ℕ
  blank_form c = cell_bytes (map_cell numbered (context_cell c))

  abbrev pub edge_form : ℕ → List ℕ
  edge_form m = edge_bytes (marked_by label (graph_of h) m)

  pub symbol-form : (a : Atom) → a.count ≤ length a.links → symbol_row (normal_atom h a) ≡ symbol_form a
  symbol-form a w = rw (used-links a.count a.links w, used-ports a.count a.links w, used-count a.count a.links w)

  pub blank-form : (c : Context) → c.count ≤ length c.links → blank_row (normal_context h c) ≡ blank_form c
  blank-form c w = rw (used-links c.count c.links w, used-ports c.count c.links w, used-count c.count c.links w)

  pub text-form : text_of (normal_form (graph_of h)) ≡ joined (map symbol_form h.atoms) ++ joined (map blank_form h.contexts) ++ joined (map edge_form (normal_marks h))
  unfolding normal_form normal_form_by
  text-form =
      ap (λ (t : List ℕ). t ++ joined (map edge_bytes (map (marked_by label (graph_of h)) (normal_marks h)))) (two-mapped cell_bytes (map_cell numbered) atom_cell context_cell h.atoms h.contexts)
      ∙ ap (λ (t : List (List ℕ)). joined (map symbol_form h.atoms) ++ joined (map blank_form h.contexts) ++ joined t) (map-map edge_bytes (marked_by label (graph_of h)) (normal_marks h))

  -- what stands at a place
  pub atom-at : (k : ℕ) → k < length h.atoms → get_or (packed_normal h).atoms k past_atoms ≡ normal_atom h (get_or h.atoms k past_atoms)
  atom-at k p = mapped_at (normal_atom h) atom_room no_atom h.atoms k past_atoms past_atoms p

  pub context-at : (k : ℕ) → k < length h.contexts → get_or (packed_normal h).contexts k past_contexts ≡ normal_context h (get_or h.contexts k past_contexts)
  context-at k p = mapped_at (normal_context h) context_room no_context h.contexts k past_contexts past_contexts p

  pub mark-at : (k : ℕ) → k < length (normal_marks h) → get_or (packed_normal h).marks k 0 ≡ get_or (normal_marks h) k 0
  mark-at k p = get_d-padded mark_room 0 (normal_marks h) k 0 p

  pub marked-at : (k : ℕ) → k < length (normal_marks h) → get_or (packed_normal h).marked k 0 ≡ number_in h (mark_node (get_or (normal_marks h) k 0))
  marked-at k p = mapped_at (λ m. number_in h (mark_node m)) mark_room 0 (normal_marks h) k 0 0 p

module _ (kind : Kind) (h : Held) (w : WithinLimits kind h) where
  pub atom-range : (k : ℕ) → k < length h.atoms → AtomRange (get_or h.atoms k past_atoms)
  atom-range k p = every-at AtomRange past_atoms h.atoms w.ranges.atoms k p

  pub context-range : (k : ℕ) → k < length h.contexts → ContextRange kind (get_or h.contexts k past_contexts)
  context-range k p = every-at (ContextRange kind) past_contexts h.contexts w.ranges.contexts k p

  pub atom-room : (k : ℕ) → k < length h.atoms → (get_or h.atoms k past_atoms).count ≤ length (get_or h.atoms k past_atoms).links
  atom-room k p = let r = atom-range k p in omega (arith, r.count, r.ports.width)

  pub context-room : (k : ℕ) → k < length h.contexts → (get_or h.contexts k past_contexts).count ≤ length (get_or h.contexts k past_contexts).links
  context-room k p = let r = context-range k p in omega (arith, r.count, r.ports.width)

  -- The rows are the normal text.
  pub normal-rows : normal_rows (packed_normal h) ≡ text_of (normal_form (graph_of h))
  unfolding normal_rows
  normal-rows =
      rw (rows-joined past_atoms (symbol_form h) (atom_row (packed_normal h)) h.atoms (λ k p. rw (atom-at h k p) (symbol-form h (get_or h.atoms k past_atoms) (atom-room k p))))
      (rw (rows-joined past_contexts (blank_form h) (context_row (packed_normal h)) h.contexts (λ k p. rw (context-at h k p) (blank-form h (get_or h.contexts k past_contexts) (context-room k p))))
      (rw (rows-joined 0 (edge_form h) (mark_row (packed_normal h)) (normal_marks h) (λ k p. rw (mark-at h k p, marked-at h k p))) (sym (text-form h))))

module _ (kind : Kind) (h : Held) (w : WithinLimits kind h) (A : Agrees h) where
  pub links-known : Linked h h.wiring.links
  links-known =
      record {
        atoms = λ a p x m. among_in x h.wiring.links (atom-links h A a p x m);
        contexts = λ c p x m. among_in x h.wiring.links (context-links h A c p x m);
        edges = λ e p. among_in e.0 h.wiring.links (edge-links h A e p).0;
      }

  pub number-narrow : (x : Node ℕ) → x ∈ shown (graph_of h) → number_in h x ≤ most_number
  number-narrow x i = omega (arith, (number-range (class_of (graph_of h).fusions) (graph_of h) x i).1, text-links h links-known, w.links, (limits-most kind).1)

  pub few-marks : length (normal_marks h) ≤ sheet_marks
  few-marks = omega (arith, text-marks h h.wiring.marks (λ e p. among_in e.1 h.wiring.marks (edge-links h A e p).1), w.marks)

  port-narrow : (count : ℕ) (links : List ℕ) → count ≤ length links → (j : ℕ) → j < count → inner (get_or links j 0) ∈ port_nodes (graph_of h).atoms
      → get_or (padded most_links 0 (map (number h) (take count links))) j 0 ≤ most_number
  port-narrow count links r j q i =
      let n : length (take count links) ≡ count = length-take-le count links r in
      rw (mapped_at (number h) most_links 0 (take count links) j 0 0 (omega arith), get_or-take count links j 0 q)
      (number-narrow (inner (get_or links j 0)) (Memᴰ.append_left (map mark_node (normal_marks h)) i))

  mark-narrow : (m : ℕ) → m ∈ normal_marks h → m ≤ most_number
  mark-narrow m i =
      let t = graph-name h (free m) (marks-of (nodes (graph_of h)) m i) in
      let p : free m ≡ free t.0.1 = t.2 in
      let q : m ≡ t.0.1 = cc in
      let a = (edge-links h A t.0 t.1).1 in
      let r : MarkRange t.0.1 = rw (at-index_of t.0.1 h.wiring.marks a) at (every-at MarkRange 0 h.wiring.marks w.ranges.marks (index_of t.0.1 h.wiring.marks) a) in
      omega arith

  atom-narrow : (k : ℕ) → k < length h.atoms → let a = normal_atom h (get_or h.atoms k past_atoms) in Narrow a.name a.count a.links
  atom-narrow k p =
      let r = atom-range kind h w k p in
      let a = get_or h.atoms k past_atoms in
      let m = atom-room kind h w k p in
      record {
        named = omega (arith, r.name);
        counted = r.count;
        linked = λ j q. port-narrow a.count a.links m j q (atom-port h k j past_atoms p q (omega arith));
      }

  context-narrow : (k : ℕ) → k < length h.contexts → let c = normal_context h (get_or h.contexts k past_contexts) in Narrow c.number c.count c.links
  context-narrow k p =
      let r = context-range kind h w k p in
      let c = get_or h.contexts k past_contexts in
      let m = context-room kind h w k p in
      record {
        named = omega (arith, r.number);
        counted = r.count;
        linked = λ j q. port-narrow c.count c.links m j q (context-port h k j past_contexts p q (omega arith));
      }

  pub normal-writable : Writable (packed_normal h)
  normal-writable =
      record {
        atoms = omega (arith, w.atoms, (limits-most kind).0);
        contexts = w.contexts;
        marks = few-marks;
        atom_numbers = λ k p. rw (atom-at h k p) (atom-narrow k p);
        context_numbers = λ k p. rw (context-at h k p) (context-narrow k p);
        mark_numbers = λ k p.
            let i = get_d-in (normal_marks h) k 0 p in
            rw (marked-at h k p, mark-at h k p) (number-narrow (mark_node (get_or (normal_marks h) k 0)) (Memᴰ.append_right (port_nodes (graph_of h).atoms) (Memᴰ.map mark_node i)), mark-narrow (get_or (normal_marks h) k 0) i);
      }

  -- The rows fit a slip of the full length.
  pub rows_fit : (length h.atoms + length h.contexts + length (normal_marks h)) * row_width ≤ slip_length
  rows_fit = omega (arith, w.atoms, (limits-most kind).0, w.contexts, few-marks)
