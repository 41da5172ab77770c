-- A filled text is a sheet: it is read back as the filled figure's normal form, and is what graph substitution makes of the figure.
use Prim.Native.Nat.{ℕ, zero, suc, ◌+◌, ◌<◌, ◌≤◌}
use mathlib.Core.Path.{◌≡◌, refl, ap, ap₂, sym, ◌∙◌, subst}
use mathlib.Core.List.Memᴰ
use mathlib.Core.List.{List, [], ◌∷◌, map, map-map, append-nil}
use native.Mathlib.Omega.{arith}
use lib.ListN.{length, get_or, take, length-map}
use Rattle.hyperlmntal.specs.Link.{free, ◌∈◌}
use Rattle.hyperlmntal.specs.Congruence.{◌≅◌}
use Rattle.hyperlmntal.specs.Hypergraph.{Node, inner, Cell, Flat, port_nodes, nodes, map_cell}
use Rattle.hyperlmntal.specs.TermOf.{term_of}
use Rattle.hyperlmntal.specs.DenotedSubstitution.{Spot}
use Rattle.hyperlmntal.proofs.Lists.{map-agree, Each, done, more, all_map}
use Rattle.hyperlmntal.proofs.Flats.{flat-≡, cell-≡}
use Rattle.rows.specs.Format.{most_name}
use Rattle.rows.specs.Limits.{sheet_atom_limit, sheet_link_limit}
use Rattle.rows.specs.declared.Atom.{Atom}
use Rattle.reading.specs.Graph.{edge_of, graph_of, term_of_text}
use Rattle.reading.specs.Normal.{class_of, marked_by, normal_form_by, normal_form}
use Rattle.reading.specs.NormalSheet.{normal_marks}
use Rattle.normalising.specs.NormalText.{text_of}
use Rattle.sheet.specs.Reading.{outcome_of, no_ports}
use Rattle.sheet.specs.declared.kind.Kind.TheVariants.{Plain, Figure}
use Rattle.sheet.specs.declared.answer.Answer.TheVariants.{Passed}
use Rattle.sheet.specs.HeldLimits.{Every, MarkRange, EdgeRange}
use Rattle.reading.proofs.normal.Marks.{marks-of}
use Rattle.reading.proofs.normal.Distinct.{index_below, distinct-in}
use Rattle.reading.proofs.normal.TextGraph.{graph-name}
use Rattle.normalising.proofs.normal_text.NormalWritten.{few-marks}
use Rattle.texts.proofs.NormalFits.{every-member, up_to, up_to-length, up_to-in, up_to-of}
use Rattle.texts.specs.Fitting.{Vertex, Fitting}
use Rattle.texts.proofs.BuiltRows.{symbol_cell, every_in}
use Rattle.texts.proofs.ReadBack.{built_graph, EdgeAmong, Readable, read_back, graph-back}
use Rattle.placing.specs.Filled.{spot_node, filled_normal}
use Rattle.placing.specs.Holding.{holding_term}
use Rattle.placing.proofs.FilledText.{filled-text}
use Rattle.filling.specs.Read.{fillings_read}
use Rattle.filling.specs.Fill.{figure_held, filled_by, filled_text}
use Rattle.filling.specs.Parts.{places}
use Rattle.filling.specs.Glued.{Own}
use Rattle.filling.specs.Classes.{number_in}
use Rattle.filling.proofs.Parts.{figure-within, figure-agrees}
use Rattle.filling.specs.Right.{Right}
use Rattle.filling.proofs.Located.{filled_spots}
use Rattle.filling.proofs.Labelled.{label}
use Rattle.filling.proofs.Shown.{Like, atoms-like, spot_mark, shown_spots}
use Rattle.filling.proofs.Result.{exact-fillings, marks-same, classes, class-number}
use Rattle.filling.proofs.Written.{made_atoms, numbered}

-- Places with labels of their own.
unfoldable count_from : ℕ → ℕ → List ℕ
count_from s zero = []
count_from s (suc n) = s ∷ count_from (suc s) n

count-size : (s n : ℕ) → length (count_from s n) ≡ n
unfolding count_from
count-size s zero = refl
count-size s (suc n) = ap suc (count-size (suc s) n)

count_at : (s n k : ℕ) → k < n → get_or (count_from s n) k 0 ≡ s + k
unfolding count_from
count_at s zero k h = absurd (omega arith)
count_at s (suc n) zero h = omega arith
count_at s (suc n) (suc k) h = count_at (suc s) n k (omega arith) ∙ (let z : suc s + k ≡ s + suc k = omega arith in z)

pub own_labels : List ℕ
own_labels = count_from 0 places

pub own-labels : Own own_labels
unfolding own_labels
own-labels = record { size = count-size 0 places; own = λ k h. count_at 0 places k h ∙ (let z : 0 + k ≡ k = omega arith in z) }

module _ (figure list : List ℕ) (right : Right figure list) where
  abbrev D : List ℕ
  D = classes figure list right own_labels own-labels

  abbrev lab : Node (Spot ℕ ℕ) → ℕ
  lab = label figure list right own_labels own-labels

  abbrev atoms : List Atom
  atoms = made_atoms figure list right own_labels own-labels

  abbrev marks : List ℕ
  marks = normal_marks (figure_held figure)

  abbrev mark : ℕ → Node (Spot ℕ ℕ)
  mark = spot_mark figure list right own_labels own-labels

  abbrev vertex : Atom → Vertex
  vertex α = (α.name, map (number_in D) (take α.count α.links))

  abbrev edge : ℕ → ℕ × ℕ
  edge m = (number_in D (lab (mark m)), m)

  number-in : (x : Node (Spot ℕ ℕ)) → x ∈ shown_spots figure list right own_labels own-labels → number_in D (lab x) ∈ up_to (length D)
  number-in x i =
      let h = index_below (lab x) D (distinct-in (lab x) (map lab (shown_spots figure list right own_labels own-labels)) (Memᴰ.map lab i)) in
      up_to-in (length D) (number_in D (lab x)) (omega arith) (omega arith)

  -- The vertices of the normal form, one by one.
  built-cells : {l : List Atom} {k : List (Cell (Spot ℕ ℕ))} → Each (Like figure list right own_labels own-labels) l k → ((x : Node (Spot ℕ ℕ)) → x ∈ port_nodes k → x ∈ shown_spots figure list right own_labels own-labels)
      → map (map_cell (numbered figure list right own_labels own-labels)) (map (map_cell spot_node) k) ≡ map symbol_cell (map vertex l)
  built-cells done shown = refl
  built-cells (more {a = α} {b = κ} {k = k} r e) shown =
      ap₂ ◌∷◌
      (cell-≡ r.name
      (map-map (numbered figure list right own_labels own-labels) spot_node κ.ports
      ∙ map-agree (λ x. numbered figure list right own_labels own-labels (spot_node x)) (λ x. inner (number_in D (lab x))) κ.ports (λ x i. ap inner (class-number figure list right own_labels own-labels x (shown x (Memᴰ.append_left (port_nodes k) i))))
      ∙ sym (map-map inner (λ x. number_in D (lab x)) κ.ports) ∙ ap (map inner) (sym (map-map (number_in D) lab κ.ports) ∙ ap (map (number_in D)) (sym r.ports))))
      (built-cells e (λ x i. shown x (Memᴰ.append_right κ.ports i)))

  pub filled-built : filled_normal (graph_of (figure_held figure)) (fillings_read list) ≡ built_graph (map vertex atoms) [] (map edge marks)
  unfolding normal_form normal_form_by
  filled-built =
      flat-≡
      (built-cells (atoms-like figure list right own_labels own-labels) (λ x i. Memᴰ.append_left (map mark marks) i) ∙ sym (append-nil (map symbol_cell (map vertex atoms))))
      (ap (map (marked_by (class_of (filled_by figure list).fusions) (filled_by figure list))) (marks-same figure list right)
      ∙ map-agree (marked_by (class_of (filled_by figure list).fusions) (filled_by figure list)) (λ m. edge_of (edge m)) marks
      (λ m i. ap (λ n. edge_of (n, m)) (class-number figure list right own_labels own-labels (mark m) (Memᴰ.append_right (port_nodes (filled_spots figure list).atoms) (Memᴰ.map mark i))))
      ∙ sym (map-map edge_of edge marks))

  mark-range : (m : ℕ) → m ∈ marks → MarkRange m
  mark-range m i =
      let t = graph-name (figure_held figure) (free m) (marks-of (nodes (graph_of (figure_held figure))) m i) in
      let p : free m ≡ free t.0.1 = t.2 in
      let q : m ≡ t.0.1 = cc in
      subst MarkRange (sym q) (every-member EdgeRange (figure_held figure).edges t.0 (figure-within figure).ranges.edges t.1).1

  module _ (small : length atoms ≤ sheet_atom_limit) (narrow : length D ≤ sheet_link_limit) where
    fitting : {l : List Atom} {k : List (Cell (Spot ℕ ℕ))} → Each (Like figure list right own_labels own-labels) l k → ((x : Node (Spot ℕ ℕ)) → x ∈ port_nodes k → x ∈ shown_spots figure list right own_labels own-labels)
        → Every (Fitting (up_to (length D)) most_name) (map vertex l)
    fitting done shown = tt
    fitting (more {a = α} {b = κ} {k = k} r e) shown = (
      record {
        name = (r.range.0, r.range.1);
        count = omega (arith, length-map (take α.count α.links) (number_in D), ap length r.ports, length-map κ.ports lab, r.size, r.range.2);
        known = all_map (number_in D) (take α.count α.links) (λ n. n ∈ up_to (length D))
            (λ y i. all_map lab κ.ports (λ n. number_in D n ∈ up_to (length D)) (λ x j. number-in x (shown x (Memᴰ.append_left (port_nodes k) j))) y (subst (λ l. y ∈ l) r.ports i));
      },
      fitting e (λ x i. shown x (Memᴰ.append_right κ.ports i)),
    )

    readable : Readable Plain no_ports (map vertex atoms) [] (map edge marks)
    readable =
        let f = few-marks Figure (figure_held figure) (figure-within figure) (figure-agrees figure) in
        let n = up_to-length (length D) in
        let a = length-map atoms vertex in
        let b = length-map marks edge in
        record {
          single = refl;
          joints = up_to (length D);
          marks = marks;
          stock = record {
            joint-range = λ x i. let t = up_to-of (length D) x i in let u : x ≤ length D = t.1 in (t.0, omega arith);
            mark-range = mark-range;
            few-joints = omega arith;
            few-marks = f;
          };
          symbol-rows = fitting (atoms-like figure list right own_labels own-labels) (λ x i. Memᴰ.append_left (map mark marks) i);
          blank-rows = tt;
          figure = tt;
          edge-rows = every_in (EdgeAmong (up_to (length D)) marks) (map edge marks)
              (all_map edge marks (EdgeAmong (up_to (length D)) marks) (λ m i. (number-in (mark m) (Memᴰ.append_right (port_nodes (filled_spots figure list).atoms) (Memᴰ.map mark i)), i)));
          few-symbols = omega arith;
          few-blanks = omega arith;
          few-rows = omega arith;
          clear = tt;
        }

    pub text-passes : (outcome_of Plain no_ports (filled_text figure list)).answer ≡ Passed
    text-passes = subst (λ (G : Flat ℕ). (outcome_of Plain no_ports (text_of G)).answer ≡ Passed) (sym filled-built) (read_back Plain no_ports (map vertex atoms) [] (map edge marks) readable).answer

    pub text-graph : graph_of (outcome_of Plain no_ports (filled_text figure list)).held ≡ filled_normal (graph_of (figure_held figure)) (fillings_read list)
    text-graph = subst (λ (G : Flat ℕ). graph_of (outcome_of Plain no_ports (text_of G)).held ≡ G) (sym filled-built) (graph-back Plain no_ports (map vertex atoms) [] (map edge marks) readable)

    pub text-congruent : term_of_text (outcome_of Plain no_ports (filled_text figure list)).held ≅ holding_term (term_of_text (figure_held figure)) (fillings_read list)
    text-congruent = subst (λ (G : Flat ℕ). term_of G ≅ holding_term (term_of_text (figure_held figure)) (fillings_read list)) (sym text-graph) (filled-text (figure_held figure) (fillings_read list) (exact-fillings figure list right))
