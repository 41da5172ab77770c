-- What the steps of making a normal form come to: the normal form of what the sheet holds.
use Prim.Native.Nat.{ℕ, suc, ◌+◌, ◌<◌}
use mathlib.Core.Path.{◌≡◌, refl, sym, subst, ap, ◌∙◌}
use mathlib.Core.List.Memᴰ
use mathlib.Core.List.{List, [], ◌∷◌, ◌++◌, map, map-map, map-append}
use mathlib.Core.Bool.{Bool, true, false}
use mathlib.Core.Logic.{inr, ⊎_elim}
use native.Mathlib.Omega.{arith}
use borrow.Author.Tests.{eq-eqb}
use lib.Dec.{eqb}
use lib.ListN.{length, take, get_or}
use Rattle.hyperlmntal.specs.Link.{local, free, ◌∈◌}
use Rattle.hyperlmntal.specs.Hypergraph.{Node, inner, name, port_nodes, end_nodes, nodes}
use Rattle.hyperlmntal.proofs.Lists.{map-agree, all_map, all_append}
use Rattle.hyperlmntal.proofs.Flats.{port_nodes-append}
use Rattle.rows.specs.Pick.{pick}
use Rattle.rows.specs.Format.{most_links}
use Rattle.rows.specs.Limits.{atom_room, context_room, link_room, mark_room}
use Rattle.rows.specs.Held.{Held, index_of}
use Rattle.linking.specs.Steps.{Distinct}
use Rattle.rows.specs.Packed.{padded, no_atom, no_context}
use Rattle.rows.specs.TextArrays.{packed, TextArrays}
use Rattle.rows.specs.declared.Atom.{Atom}
use Rattle.rows.specs.declared.Context.{Context}
use Rattle.rows.proofs.Padding.{take-padded, get_d-padding, mapped-padded}
use Rattle.rows.proofs.Lists.{mapped}
use Rattle.reading.specs.Graph.{atom_cell, context_cell, graph_of}
use Rattle.reading.specs.Labels.{label_in}
use Rattle.reading.specs.Agrees.{Agrees}
use Rattle.reading.specs.Normal.{class_of, mark_node, marks_of, shown, classes_by, number_by}
use Rattle.numbering.specs.Numbering.{Numbering, Numberable, label_at, mark_label_at, number_room, no_numbers, with_classes, link_labels, atom_labels, context_labels, atom_numbered, context_numbered, marks_by, sorted_into}
use Rattle.reading.specs.Made.{sorted_marks, numbering_of, normal_made}
use Rattle.reading.specs.NormalSheet.{number_in, normal_atom, normal_context, packed_normal}
use Rattle.rows.specs.declared.Sheet.{Sheet as Normal}
use Rattle.reading.proofs.normal.Merging.{at-index_of, among_in}
use Rattle.reading.proofs.normal.Classes.{class-connected}
use Rattle.reading.proofs.normal.Distinct.{Once, Agree, index_below, length-agree}
use Rattle.reading.proofs.normal.Marks.{marks-in, marks-of, marks-ascending, ascending-same}
use Rattle.reading.proofs.normal.NormalBy.{port-shown, mark-shown, number-agree}
use Rattle.reading.proofs.normal.Connected.{ports-in, node-connected}
use Rattle.numbering.proofs.Turns.{with-classes-append}
use Rattle.numbering.proofs.Carrying.{sorted-length}
use Rattle.reading.proofs.normal.ClassNumbers.{classes-count, classes-number}
use Rattle.reading.proofs.normal.Sorting.{sorted-ascending}

-- A list in which each number is found at its place has none twice.
once-list : (l : List ℕ) → Distinct l → Once l
unfolding index_of
once-list [] o = tt
once-list (x ∷ l) o = (first, once-list l rest)
  where
    first : ¬ (x ∈ l)
    first m =
        let k = index_below x l m in
        let e : index_of (get_or l (index_of x l) 0) (x ∷ l) ≡ suc (index_of x l) = o (suc (index_of x l)) (omega arith) in
        let z : pick (eqb x x) 0 (suc (index_of x l)) ≡ suc (index_of x l) = subst (λ v. index_of v (x ∷ l) ≡ suc (index_of x l)) (at-index_of x l k) e in
        let y : 0 ≡ suc (index_of x l) = rw (eq-eqb x x refl) at z in
        omega arith

    rest : Distinct l
    rest k h = go (eqb x (get_or l k 0)) (o (suc k) (omega arith))
      where
        go : (t : Bool) → pick t 0 (suc (index_of (get_or l k 0) l)) ≡ suc k → index_of (get_or l k 0) l ≡ k
        go true e = absurd (omega arith)
        go false e = omega arith

module _ (h : Held) where
  label-at : (x : ℕ) → label_at (packed h) x ≡ label_in h.wiring (inner x)
  label-at x = rw (take-padded link_room 0 h.wiring.links) (get_d-padding link_room 0 h.wiring.classes (index_of x h.wiring.links))

  mark-at : (m : ℕ) → mark_label_at (packed h) m ≡ label_in h.wiring (mark_node m)
  mark-at m =
      rw (take-padded mark_room 0 h.wiring.marks) (rw (get_d-padding mark_room 0 h.wiring.marked (index_of m h.wiring.marks))
      (get_d-padding link_room 0 h.wiring.classes (get_or h.wiring.marked (index_of m h.wiring.marks) 0)))

  link-labels : (count : ℕ) (links : List ℕ) → link_labels (label_at (packed h)) count links ≡ map (label_in h.wiring) (map inner (take count links))
  link-labels count links =
      map-agree (label_at (packed h)) (λ x. label_in h.wiring (inner x)) (take count links) (λ x i. label-at x) ∙ sym (map-map (label_in h.wiring) inner (take count links))

  atom-labels : (l : List Atom) → atom_labels (label_at (packed h)) l ≡ map (label_in h.wiring) (port_nodes (map atom_cell l))
  unfolding atom_labels
  atom-labels [] = refl
  atom-labels (a ∷ l) = rw (link-labels a.count a.links) (rw (atom-labels l) (sym (map-append (label_in h.wiring) (map inner (take a.count a.links)) (port_nodes (map atom_cell l)))))

  context-labels : (l : List Context) → context_labels (label_at (packed h)) l ≡ map (label_in h.wiring) (port_nodes (map context_cell l))
  unfolding context_labels
  context-labels [] = refl
  context-labels (c ∷ l) = rw (link-labels c.count c.links) (rw (context-labels l) (sym (map-append (label_in h.wiring) (map inner (take c.count c.links)) (port_nodes (map context_cell l)))))

  mark-labels : (l : List ℕ) → map (mark_label_at (packed h)) l ≡ map (label_in h.wiring) (map mark_node l)
  mark-labels l = map-agree (mark_label_at (packed h)) (λ m. label_in h.wiring (mark_node m)) l (λ m i. mark-at m) ∙ sym (map-map (label_in h.wiring) mark_node l)

  all-labels : (atom_labels (label_at (packed h)) h.atoms ++ context_labels (label_at (packed h)) h.contexts) ++ map (mark_label_at (packed h)) (marks_of (graph_of h)) ≡ map (label_in h.wiring) (shown (graph_of h))
  all-labels =
      rw (atom-labels h.atoms) (rw (context-labels h.contexts) (rw (mark-labels (marks_of (graph_of h)))
      (sym (map-append (label_in h.wiring) (port_nodes (graph_of h).atoms) (map mark_node (marks_of (graph_of h)))
      ∙ ap (λ r. map (label_in h.wiring) r ++ map (label_in h.wiring) (map mark_node (marks_of (graph_of h)))) (port_nodes-append (map atom_cell h.atoms) (map context_cell h.contexts))
      ∙ ap (λ r. r ++ map (label_in h.wiring) (map mark_node (marks_of (graph_of h)))) (map-append (label_in h.wiring) (port_nodes (map atom_cell h.atoms)) (port_nodes (map context_cell h.contexts)))))))

module _ (h : Held) (A : Agrees h) where
  marks-sorted : sorted_into [] h.wiring.marks ≡ marks_of (graph_of h)
  marks-sorted =
      let s = sorted-ascending [] h.wiring.marks tt (once-list h.wiring.marks A.labels.marks) (λ m i j. Memᴰ.not-nil j) in
      ascending-same (sorted_into [] h.wiring.marks) (marks_of (graph_of h)) s.0 (marks-ascending (nodes (graph_of h)))
      (λ m. (
        λ i. marks-in (nodes (graph_of h)) m ((A.exact (mark_node m)).0 (index_below m h.wiring.marks (⊎_elim (λ j. absurd (Memᴰ.not-nil j)) (λ j. j) ((s.1 m).0 i)))),
        λ i. (s.1 m).1 (inr (among_in m h.wiring.marks ((A.exact (mark_node m)).1 (marks-of (nodes (graph_of h)) m i)))),
      ))

  marks-count : length h.wiring.marks ≡ length (marks_of (graph_of h))
  marks-count = omega (arith, sorted-length [] h.wiring.marks, ap length marks-sorted)

  marks-made : sorted_marks (packed h) ≡ padded mark_room 0 (marks_of (graph_of h))
  marks-made = rw (take-padded mark_room 0 h.wiring.marks) (rw marks-sorted)

  pub marks-taken : take (length h.wiring.marks) (sorted_marks (packed h)) ≡ marks_of (graph_of h)
  marks-taken = rw marks-made (rw marks-count (take-padded mark_room 0 (marks_of (graph_of h))))

  numbering-made : numbering_of (length h.atoms) (length h.contexts) (packed h) ≡ with_classes no_numbers (map (label_in h.wiring) (shown (graph_of h)))
  numbering-made =
      rw marks-taken (rw (take-padded atom_room no_atom h.atoms) (rw (take-padded context_room no_context h.contexts)
      (rw (← all-labels h) (sym
      (with-classes-append no_numbers (atom_labels (label_at (packed h)) h.atoms ++ context_labels (label_at (packed h)) h.contexts) (map (mark_label_at (packed h)) (marks_of (graph_of h)))
      ∙ ap (λ n. with_classes n (map (mark_label_at (packed h)) (marks_of (graph_of h)))) (with-classes-append no_numbers (atom_labels (label_at (packed h)) h.atoms) (context_labels (label_at (packed h)) h.contexts)))))))

normal-≡ : (n k : ℕ) {a a' : List Atom} {c c' : List Context} {m m' p p' : List ℕ} {i i' j j' : ℕ} → a ≡ a' → c ≡ c' → m ≡ m' → p ≡ p' → i ≡ i' → j ≡ j'
    → ◌≡◌ {A = Normal} (record { atoms = a; atom_count = n; contexts = c; context_count = k; marks = m; marked = p; mark_count = i; class_count = j })
    (record { atoms = a'; atom_count = n; contexts = c'; context_count = k; marks = m'; marked = p'; mark_count = i'; class_count = j' })
normal-≡ n k ea ec em ep ei ej t = record { atoms = ea t; atom_count = n; contexts = ec t; context_count = k; marks = em t; marked = ep t; mark_count = ei t; class_count = ej t }

-- The steps of `normal_from`, each after the one before: the classes of the atoms are numbered, then those of the contexts, then
-- those of the marks, and what is made of the atoms and contexts holds whatever is numbered later.
pub normal-steps : (i k : ℕ) (s : TextArrays) (a b n : Numbering) (atoms : List Atom) (contexts : List Context) (marks marked : List ℕ)
    → a ≡ with_classes no_numbers (atom_labels (label_at s) (take i s.atoms))
    → ((later : List ℕ) → atoms ≡ mapped (atom_numbered (with_classes a later).numbers (label_at s)) i s.atoms)
    → b ≡ with_classes a (context_labels (label_at s) (take k s.contexts))
    → ((later : List ℕ) → contexts ≡ mapped (context_numbered (with_classes b later).numbers (label_at s)) k s.contexts)
    → marks ≡ sorted_marks s
    → n ≡ with_classes b (map (mark_label_at s) (take s.mark_count marks))
    → marked ≡ marks_by n.numbers (mark_label_at s) (take s.mark_count marks)
    → ◌≡◌ {A = Normal} (record { atoms = atoms; atom_count = s.atom_count; contexts = contexts; context_count = s.context_count; marks = marks; marked = marked; mark_count = s.mark_count; class_count = n.count })
    (normal_made i k s)
normal-steps i k s a b n atoms contexts marks marked ea fa eb fb em en ep =
    normal-≡ s.atom_count s.context_count
    (fa (C ++ M) ∙ ap (λ u. mapped (atom_numbered u.numbers (label_at s)) i s.atoms) (with-classes-append a C M ∙ ap (λ u. with_classes u M) (sym eb) ∙ all))
    (fb M ∙ ap (λ u. mapped (context_numbered u.numbers (label_at s)) k s.contexts) all)
    em (ep ∙ rw (em, end)) refl (rw end)
  where
    C : List ℕ
    C = context_labels (label_at s) (take k s.contexts)

    M : List ℕ
    M = map (mark_label_at s) (take s.mark_count (sorted_marks s))

    all : with_classes b M ≡ numbering_of i k s
    all = rw (eb, ea)

    end : n ≡ numbering_of i k s
    end = en ∙ rw em all

-- Each node that is shown gets the number of its class.
module _ (h : Held) (A : Agrees h) (N : Numberable (packed h)) where
  class_low : (k : ℕ) → get_or h.wiring.classes k 0 < number_room
  class_low k = omega (arith, N.labels k, get_d-padding link_room 0 h.wiring.classes k)

  label-low : (x : Node ℕ) → label_in h.wiring x < number_room
  label-low (inner x) = class_low (index_of x h.wiring.links)
  label-low (name (free m)) = class_low (get_or h.wiring.marked (index_of m h.wiring.marks) 0)
  label-low (name (local n)) = omega arith

  shown-node : (x : Node ℕ) → x ∈ shown (graph_of h) → x ∈ nodes (graph_of h)
  shown-node =
      all_append (port_nodes (graph_of h).atoms) (map mark_node (marks_of (graph_of h))) (λ x. x ∈ nodes (graph_of h)) (λ x i. Memᴰ.append_left (end_nodes (graph_of h).fusions) i)
      (all_map mark_node (marks_of (graph_of h)) (λ x. x ∈ nodes (graph_of h)) (λ m i. marks-of (nodes (graph_of h)) m i))

  labels-agree : Agree (shown (graph_of h)) (label_in h.wiring) (class_of (graph_of h).fusions)
  labels-agree x y i j =
      let n = node-connected h A x y (shown-node x i) (shown-node y j) in
      let c = class-connected (graph_of h).fusions x y in
      (λ e. c.1 (n.0 e), λ e. n.1 (c.0 e))

  low : (c : ℕ) → c ∈ map (label_in h.wiring) (shown (graph_of h)) → c < number_room
  low = all_map (label_in h.wiring) (shown (graph_of h)) (λ c. c < number_room) (λ x i. label-low x)

  number-made : (x : Node ℕ) → x ∈ shown (graph_of h) → get_or (numbering_of (length h.atoms) (length h.contexts) (packed h)).numbers (label_in h.wiring x) 0 ≡ number_in h x
  unfolding number_by classes_by
  number-made x i =
      rw (numbering-made h A) (classes-number (map (label_in h.wiring) (shown (graph_of h))) low (label_in h.wiring x) (Memᴰ.map (label_in h.wiring) i)
      ∙ number-agree (graph_of h) (label_in h.wiring) (class_of (graph_of h).fusions) labels-agree x i)

  count-made : (numbering_of (length h.atoms) (length h.contexts) (packed h)).count ≡ length (classes_by (class_of (graph_of h).fusions) (graph_of h))
  unfolding classes_by
  count-made =
      rw (numbering-made h A) (classes-count (map (label_in h.wiring) (shown (graph_of h))) low
      ∙ length-agree (shown (graph_of h)) (label_in h.wiring) (class_of (graph_of h).fusions) labels-agree)

  links-made : (l : List ℕ) → ((x : ℕ) → x ∈ l → inner x ∈ port_nodes (graph_of h).atoms)
      → padded most_links 0 (map (λ x. get_or (numbering_of (length h.atoms) (length h.contexts) (packed h)).numbers (label_at (packed h) x) 0) l) ≡ padded most_links 0 (map (λ x. number_in h (inner x)) l)
  links-made l p =
      ap (padded most_links 0)
      (map-agree (λ x. get_or (numbering_of (length h.atoms) (length h.contexts) (packed h)).numbers (label_at (packed h) x) 0) (λ x. number_in h (inner x)) l
      (λ x i. ap (λ c. get_or (numbering_of (length h.atoms) (length h.contexts) (packed h)).numbers c 0) (label-at h x) ∙ number-made (inner x) (port-shown (graph_of h) (p x i))))

  atoms-made : mapped (atom_numbered (numbering_of (length h.atoms) (length h.contexts) (packed h)).numbers (label_at (packed h))) (length h.atoms) (packed h).atoms ≡ (packed_normal h).atoms
  atoms-made =
      mapped-padded atom_room no_atom h.atoms (atom_numbered (numbering_of (length h.atoms) (length h.contexts) (packed h)).numbers (label_at (packed h))) (length h.atoms) refl
      ∙ ap (padded atom_room no_atom) (map-agree (atom_numbered (numbering_of (length h.atoms) (length h.contexts) (packed h)).numbers (label_at (packed h))) (normal_atom h) h.atoms
      (λ a i. ap (λ (l : List ℕ). record { name = a.name; count = a.count; links = l }) (links-made (take a.count a.links)
      (λ x j. ports-in (atom_cell a) (inner x) (Memᴰ.append_left (map context_cell h.contexts) (Memᴰ.map atom_cell i)) (Memᴰ.map inner j)))))

  contexts-made : mapped (context_numbered (numbering_of (length h.atoms) (length h.contexts) (packed h)).numbers (label_at (packed h))) (length h.contexts) (packed h).contexts ≡ (packed_normal h).contexts
  contexts-made =
      mapped-padded context_room no_context h.contexts (context_numbered (numbering_of (length h.atoms) (length h.contexts) (packed h)).numbers (label_at (packed h))) (length h.contexts) refl
      ∙ ap (padded context_room no_context) (map-agree (context_numbered (numbering_of (length h.atoms) (length h.contexts) (packed h)).numbers (label_at (packed h))) (normal_context h) h.contexts
      (λ c i. ap (λ (l : List ℕ). record { number = c.number; count = c.count; links = l; row = c.row }) (links-made (take c.count c.links)
      (λ x j. ports-in (context_cell c) (inner x) (Memᴰ.append_right (map atom_cell h.atoms) (Memᴰ.map context_cell i)) (Memᴰ.map inner j)))))

  marked-made : marks_by (numbering_of (length h.atoms) (length h.contexts) (packed h)).numbers (mark_label_at (packed h)) (take (length h.wiring.marks) (sorted_marks (packed h))) ≡ (packed_normal h).marked
  marked-made =
      ap (marks_by (numbering_of (length h.atoms) (length h.contexts) (packed h)).numbers (mark_label_at (packed h))) (marks-taken h A)
      ∙ ap (padded mark_room 0) (map-agree (λ m. get_or (numbering_of (length h.atoms) (length h.contexts) (packed h)).numbers (mark_label_at (packed h) m) 0) (λ m. number_in h (mark_node m)) (marks_of (graph_of h))
      (λ m i. ap (λ c. get_or (numbering_of (length h.atoms) (length h.contexts) (packed h)).numbers c 0) (mark-at h m) ∙ number-made (mark_node m) (mark-shown (graph_of h) m i)))

  pub normal-made : normal_made (length h.atoms) (length h.contexts) (packed h) ≡ packed_normal h
  normal-made = normal-≡ (length h.atoms) (length h.contexts) atoms-made contexts-made (marks-made h A) marked-made (marks-count h A) count-made
