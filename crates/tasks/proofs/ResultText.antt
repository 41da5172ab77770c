-- A filled figure within the limits of a sheet: its normal text passes as a sheet, and its hypergraph is what was written.
use Prim.Native.Nat.{ℕ, ◌≤◌}
use mathlib.Core.Path.{◌≡◌, refl, ap, sym, ◌∙◌, subst}
use mathlib.Core.List.Memᴰ
use mathlib.Core.List.{List, [], ◌∷◌, ◌++◌, map}
use native.Mathlib.Omega.{arith}
use lib.ListN.{length, take, length-map, length-take}
use Rattle.hyperlmntal.specs.Link.{free, ◌∈◌}
use Rattle.hyperlmntal.specs.Hypergraph.{Node, inner, Label, symbol, Cell, Flat, nodes, map_cell}
use Rattle.hyperlmntal.proofs.Lists.{all_map}
use Rattle.hyperlmntal.proofs.ExactPorts.{ExactFlat, exact-names}
use Rattle.rows.specs.Format.{most_links, most_name}
use Rattle.rows.specs.Limits.{sheet_atom_limit, sheet_link_limit, sheet_marks}
use Rattle.rows.specs.Held.{Held}
use Rattle.rows.specs.declared.Atom.{Atom}
use Rattle.rows.specs.Ranges.{Within}
use Rattle.reading.specs.Agrees.{Agrees}
use Rattle.reading.specs.Graph.{atom_cell, edge_of, graph_of}
use Rattle.reading.specs.Normal.{class_of, marks_of, numbered_by, marked_by, normal_form_by, normal_form}
use Rattle.normalising.specs.NormalText.{text_of}
use Rattle.sheet.specs.Reading.{outcome_of, no_ports}
use Rattle.sheet.specs.declared.kind.Kind.{Kind}
use Rattle.sheet.specs.declared.kind.Kind.TheVariants.{Plain}
use Rattle.sheet.specs.declared.answer.Answer.TheVariants.{Passed}
use Rattle.sheet.specs.HeldLimits.{Every, AtomRange, MarkRange, WithinLimits}
use Rattle.reading.proofs.normal.Distinct.{once-length}
use Rattle.reading.proofs.normal.Marks.{marks-of}
use Rattle.reading.proofs.normal.Connected.{edge-links}
use Rattle.reading.proofs.normal.TextGraph.{graph-name}
use Rattle.reading.proofs.normal.NormalBounds.{normal-marks}
use Rattle.reading.proofs.normal.Merging.{among_in}
use Rattle.texts.proofs.NormalFits.{every-member, up_to, up_to-length, up_to-in, up_to-of}
use Rattle.texts.specs.Fitting.{Fitting}
use Rattle.texts.proofs.BuiltRows.{every_in}
use Rattle.texts.proofs.ReadBack.{built_graph, EdgeAmong, Readable, read_back, graph-back}
use Rattle.placing.specs.Net.{NetCell, Net, edge_numbers, net_of, atom_vertex, context_vertex}
use Rattle.placing.specs.Fillings.{symbol_row, Filling, AllExactMarks}
use Rattle.placing.specs.Filled.{flat_entry, filled_graph, filled_normal}
use Rattle.placing.specs.ListFits.{symbols_in, ListFits}
use Rattle.placing.proofs.Names.{exact-flat}
use Rattle.placing.proofs.Standing.{atom-link, mark-link}
use Rattle.placing.proofs.FilledText.{filled-numbered}
use Rattle.placing.proofs.NormalRowsFit.{symbol-row}
use Rattle.filling.proofs.ResultNet.{Atoms, result-sheet, result-graph}
use Rattle.finding.proofs.Blanks.{Covering}
use Rattle.claiming.proofs.FilledAtoms.{Each, filled-each, filled-atoms}

-- An atom of a sheet: its name and link count in range.
abbrev Sized : Label → ℕ → Type 0
Sized t n = (p : ℕ) × (t ≡ symbol p) × Within 1 p most_name × (n ≤ most_links)

module _ (kind : Kind) (h : Held) (w : WithinLimits kind h) (A : Agrees h) (θ : List Filling) (fits : ListFits θ) (exact : AllExactMarks θ) (covered : Every (Covering θ) h.contexts) where
  abbrev G : Flat ℕ
  G = filled_graph (graph_of h) θ

  abbrev N : Net
  N = net_of (normal_form G)

  all-atoms : Atoms G.atoms
  all-atoms = filled-atoms kind h θ w.ranges.contexts covered

  -- The names and link counts are those of the figure and of the fillings.
  sized : Each Sized G.atoms
  sized = filled-each Sized kind θ filling h (every_in (λ (c : Cell ℕ). Sized c.label (length c.ports)) (map atom_cell h.atoms) (all_map atom_cell h.atoms (λ (c : Cell ℕ). Sized c.label (length c.ports)) own)) w.ranges.contexts covered
    where
      filling : (f : Filling) → f ∈ θ → (c : NetCell) → c ∈ symbols_in f.rows → Sized (symbol c.0) (length (map inner c.1))
      filling f m c i =
          let r = (fits.fillings f m).each (symbol_row c.0 c.1) (symbol-row f.rows c i) in
          (c.0, refl, r.name, omega (arith, r.count, length-map c.1 inner))

      own : (a : Atom) → a ∈ h.atoms → Sized (symbol a.name) (length (map inner (take a.count a.links)))
      own a i =
          let r = every-member AtomRange h.atoms a w.ranges.atoms i in
          (a.name, refl, r.name, omega (arith, r.count, length-map (take a.count a.links) inner, length-take a.count a.links))

  form-sized : Each Sized (normal_form G).atoms
  unfolding normal_form normal_form_by
  form-sized = numbered (numbered_by (class_of G.fusions) G) G.atoms sized
    where
      numbered : (f : Node ℕ → Node ℕ) (l : List (Cell ℕ)) → Each Sized l → Each Sized (map (map_cell f) l)
      numbered f [] s = tt
      numbered f (c ∷ l) s = (subst (Sized c.label) (sym (length-map c.ports f)) s.0, numbered f l s.1)

  built : built_graph N.atoms [] N.marks ≡ normal_form G
  built =
      ap (λ (l : List NetCell). record { atoms = map atom_vertex N.atoms ++ map context_vertex l; fusions = map edge_of N.marks }) (sym (result-sheet G all-atoms).no-contexts)
      ∙ result-graph G all-atoms

  fitting : (c : NetCell) → c ∈ N.atoms → Fitting (up_to N.links) most_name c
  fitting c i =
      let m : atom_vertex c ∈ (normal_form G).atoms = subst (λ (F : Flat ℕ). atom_vertex c ∈ F.atoms) (result-graph G all-atoms) (Memᴰ.append_left (map context_vertex N.contexts) (Memᴰ.map atom_vertex i)) in
      let t = every-member (λ (c : Cell ℕ). Sized c.label (length c.ports)) (normal_form G).atoms (atom_vertex c) form-sized m in
      let e : symbol c.0 ≡ symbol t.0 = t.1 in
      let q : c.0 ≡ t.0 = cc in
      record {
        name = subst (λ n. Within 1 n most_name) (sym q) t.2;
        count = omega (arith, t.3, length-map c.1 inner);
        known = λ x j. let r = atom-link N (result-sheet G all-atoms).normal c x i j in up_to-in N.links x r.0 r.1;
      }

  -- The marks are those of the figure.
  mark-known : (m : ℕ) → m ∈ marks_of G → m ∈ h.wiring.marks
  mark-known m i =
      let a = ((filled-numbered (graph_of h) θ).names (free m)).1 (marks-of (nodes G) m i) in
      let b = (exact-names ℕ ℕ (map flat_entry θ) (all_map flat_entry θ ExactFlat (λ f j. exact-flat f (exact f j))) (free m) (graph_of h)).0 a in
      let t = graph-name h (free m) b in
      let p : free m ≡ free t.0.1 = t.2 in
      let q : m ≡ t.0.1 = cc in
      Memᴰ.cast q (among_in t.0.1 h.wiring.marks (edge-links h A t.0 t.1).1)

  pub few-marks : length (marks_of G) ≤ sheet_marks
  few-marks = omega (arith, once-length (marks_of G) h.wiring.marks (normal-marks G).1 mark-known, w.marks)

  edge-mark : (e : ℕ × ℕ) → e ∈ N.marks → e.1 ∈ marks_of G
  unfolding normal_form normal_form_by
  edge-mark =
      all_map edge_numbers (map (marked_by (class_of G.fusions) G) (marks_of G)) (λ e. e.1 ∈ marks_of G)
      (all_map (marked_by (class_of G.fusions) G) (marks_of G) (λ d. (edge_numbers d).1 ∈ marks_of G) (λ m i. i))

  result-marks : length N.marks ≤ sheet_marks
  unfolding normal_form normal_form_by
  result-marks = omega (arith, few-marks, length-map (map (marked_by (class_of G.fusions) G) (marks_of G)) edge_numbers, length-map (marks_of G) (marked_by (class_of G.fusions) G))

  module _ (few : length N.atoms ≤ sheet_atom_limit) (short : N.links ≤ sheet_link_limit) where
    readable : Readable Plain no_ports N.atoms [] N.marks
    readable =
        record {
          single = refl;
          joints = up_to N.links;
          marks = h.wiring.marks;
          stock = record {
            joint-range = λ x i. let t = up_to-of N.links x i in (t.0, omega (arith, t.1, short));
            mark-range = λ m i. every-member MarkRange h.wiring.marks m w.ranges.marks i;
            few-joints = omega (arith, up_to-length N.links, short);
            few-marks = w.marks;
          };
          symbol-rows = every_in (Fitting (up_to N.links) most_name) N.atoms fitting;
          blank-rows = tt;
          figure = tt;
          edge-rows = every_in (EdgeAmong (up_to N.links) h.wiring.marks) N.marks (λ e i.
              let r = mark-link N (result-sheet G all-atoms).normal e.0 e.1 i in (up_to-in N.links e.0 r.0 r.1, mark-known e.1 (edge-mark e i)));
          few-symbols = few;
          few-blanks = omega arith;
          few-rows = omega (arith, few, result-marks);
          clear = tt;
        }

    -- The text passes as a sheet,
    pub result-passes : (outcome_of Plain no_ports (text_of (filled_normal (graph_of h) θ))).answer ≡ Passed
    result-passes = subst (λ F. (outcome_of Plain no_ports (text_of F)).answer ≡ Passed) built (read_back Plain no_ports N.atoms [] N.marks readable).answer

    -- and holds the filled figure.
    pub result-held : graph_of (outcome_of Plain no_ports (text_of (filled_normal (graph_of h) θ))).held ≡ filled_normal (graph_of h) θ
    result-held = subst (λ F. graph_of (outcome_of Plain no_ports (text_of F)).held ≡ F) built (graph-back Plain no_ports N.atoms [] N.marks readable)
