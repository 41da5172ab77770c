-- The normal form that the code makes: its net is that of the filled figure's normal form, and its numbers fit.
use Prim.Native.Nat.{ℕ, ◌<◌, ◌≤◌}
use mathlib.Core.Path.{◌≡◌, refl, ap, ap₂, sym, ◌∙◌, subst}
use mathlib.Core.List.Memᴰ
use mathlib.Core.List.{List, [], ◌∷◌, map, map-map}
use native.Mathlib.Omega.{arith}
use lib.ListN.{length, get_or, take, length-map}
use Rattle.hyperlmntal.specs.Link.{◌∈◌}
use Rattle.hyperlmntal.specs.Hypergraph.{Node, Label, Cell, port_nodes, map_cell}
use Rattle.hyperlmntal.specs.DenotedSubstitution.{Spot}
use Rattle.hyperlmntal.proofs.Lists.{map-agree, Each, done, more}
use Rattle.rows.specs.Format.{most_links}
use Rattle.rows.specs.Limits.{sheet_atom_limit, sheet_link_limit, atom_room, context_room, mark_room}
use Rattle.rows.specs.declared.Atom.{Atom}
use Rattle.rows.proofs.Padding.{length-padded, take-padded}
use Rattle.rows.proofs.Lists.{get_d-mapped}
use Rattle.reading.specs.Graph.{graph_of}
use Rattle.reading.specs.Normal.{class_of, marks_of, marked_by, normal_form_by, normal_form}
use Rattle.normalising.specs.NormalText.{node_number}
use Rattle.normalising.specs.NormalRows.{past_atoms}
use Rattle.rows.specs.declared.Sheet as form
use Rattle.sheet.specs.declared.kind.Kind.TheVariants.{Figure}
use Rattle.reading.proofs.normal.Merging.{get_d-in}
use Rattle.reading.proofs.normal.Distinct.{index_below, distinct-in}
use Rattle.normalising.proofs.normal_text.NormalWritten.{taken-padded, mapped_at, few-marks}
use Rattle.placing.specs.Net.{NetCell, Range, with_symbol, with_hole, atoms_among, contexts_among, edge_numbers, net_of}
use Rattle.placing.specs.Filled.{spot_node, filled_normal}
use Rattle.network.specs.NetIn.{atom_in, context_in, paired, net_in, Used, Fit}
use Rattle.network.proofs.NetRead.{net-≡}
use Rattle.filling.specs.Read.{fillings_read}
use Rattle.filling.specs.Fill.{figure_held, filled_by}
use Rattle.filling.specs.Glued.{Own}
use Rattle.filling.specs.Classes.{links_in, number_in, numbered_links, numbered_atom, mark_labels, Made}
use Rattle.filling.proofs.Parts.{figure-within, figure-agrees}
use Rattle.filling.specs.Right.{Right}
use Rattle.filling.proofs.Located.{filled_spots}
use Rattle.filling.proofs.Labelled.{labels, label}
use Rattle.filling.proofs.Shown.{Like, atoms-like, spot_mark, shown_spots, shown-labels}
use Rattle.filling.proofs.Result.{marks-same, classes, class-count, class-number}
use Rattle.filling.proofs.Written.{each_left, figure_normal, made_atoms, marks, numbered, symbol-links, all-labels, atoms_are, atoms-count, atom-at, marked-are}
use Rattle.filling.proofs.ResultNet.{Atoms, result-links}

paired-marks : (f : ℕ → ℕ) (l : List ℕ) → paired (map f l) l ≡ map (λ m. (f m, m)) l
paired-marks f [] = refl
paired-marks f (m ∷ l) = ap (λ k. (f m, m) ∷ k) (paired-marks f l)

-- The links of an atom are among those of all.
links-among : (l : List Atom) (a : Atom) → a ∈ l → (x : ℕ) → x ∈ take a.count a.links → x ∈ links_in l
unfolding links_in
links-among [] a i x j = absurd (Memᴰ.not-nil i)
links-among (b ∷ l) a (Memᴰ.head q) x j = Memᴰ.append_left (links_in l) (subst (λ (c : Atom). x ∈ take c.count c.links) q j)
links-among (b ∷ l) a (Memᴰ.tail i) x j = Memᴰ.append_right (take b.count b.links) (links-among l a i x j)

module _ (figure list : List ℕ) (right : Right figure list) (own : List ℕ) (O : Own own) where
  abbrev D : List ℕ
  D = classes figure list right own O

  abbrev lab : Node (Spot ℕ ℕ) → ℕ
  lab = label figure list right own O

  abbrev mark_number : ℕ → ℕ
  mark_number m = number_in D (lab (spot_mark figure list right own O m))

  abbrev Shown : Node (Spot ℕ ℕ) → Type 0
  Shown x = x ∈ shown_spots figure list right own O

  abbrev cells : List (Cell (Spot ℕ ℕ)) → List (Cell ℕ)
  cells k = map (map_cell (numbered figure list right own O)) (map (map_cell spot_node) k)

  -- Every vertex is an atom.
  like-atoms : {l : List Atom} {k : List (Cell (Spot ℕ ℕ))} → Each (Like figure list right own O) l k → Atoms (map (map_cell spot_node) k)
  like-atoms done = tt
  like-atoms (more {a = α} r e) = ((α.name, r.name), like-atoms e)

  net-atoms : {l : List Atom} {k : List (Cell (Spot ℕ ℕ))} → Each (Like figure list right own O) l k → ((x : Node (Spot ℕ ℕ)) → x ∈ port_nodes k → Shown x)
      → atoms_among (cells k) ≡ map (λ α. atom_in (numbered_atom D α)) l
  net-atoms done shown = refl
  net-atoms (more {a = α} {b = κ} {l = l} {k = k} r e) shown =
      let ports = map node_number (map (numbered figure list right own O) (map spot_node κ.ports)) in
      ap (λ (t : Label). with_symbol t ports (atoms_among (cells k))) r.name
      ∙ ap₂ (λ (n : List ℕ) (m : List NetCell). (α.name, n) ∷ m) (symbol-links figure list right own O α κ r (λ x i. shown x (Memᴰ.append_left (port_nodes k) i)))
      (net-atoms e (λ x i. shown x (Memᴰ.append_right κ.ports i)))

  no-contexts : {l : List Atom} {k : List (Cell (Spot ℕ ℕ))} → Each (Like figure list right own O) l k → contexts_among (cells k) ≡ []
  no-contexts done = refl
  no-contexts (more {b = κ} {k = k} r e) = ap (λ (t : Label). with_hole t (map node_number (map (numbered figure list right own O) (map spot_node κ.ports))) (contexts_among (cells k))) r.name ∙ no-contexts e

  net-marks : map edge_numbers (map (marked_by (class_of (filled_by figure list).fusions) (filled_by figure list)) (marks_of (filled_by figure list))) ≡ map (λ m. (mark_number m, m)) (marks figure list right own O)
  net-marks =
      ap (λ l. map edge_numbers (map (marked_by (class_of (filled_by figure list).fusions) (filled_by figure list)) l)) (marks-same figure list right)
      ∙ map-map edge_numbers (marked_by (class_of (filled_by figure list).fusions) (filled_by figure list)) (marks figure list right own O)
      ∙ map-agree (λ m. edge_numbers (marked_by (class_of (filled_by figure list).fusions) (filled_by figure list) m)) (λ m. (mark_number m, m)) (marks figure list right own O)
      (λ m i. ap (λ n. (n, m)) (class-number figure list right own O (spot_mark figure list right own O m) (Memᴰ.append_right (port_nodes (filled_spots figure list).atoms) (Memᴰ.map (spot_mark figure list right own O) i))))

  number-in : (x : ℕ) → x ∈ map lab (shown_spots figure list right own O) → Range (length D) (number_in D x)
  number-in x i = let h = index_below x D (distinct-in x (map lab (shown_spots figure list right own O)) i) in (omega arith, omega arith)

  link-in : (α : Atom) → α ∈ made_atoms figure list right own O → (x : ℕ) → x ∈ take α.count α.links → Range (length D) (number_in D x)
  link-in α i x j =
      number-in x (subst (λ l. x ∈ l) (shown-labels figure list right own O) (Memᴰ.append_left (mark_labels (labels figure list right own O) (figure_normal figure list right own O)) (links-among (made_atoms figure list right own O) α i x j)))

  mark-in : (m : ℕ) → m ∈ marks figure list right own O → Range (length D) (mark_number m)
  mark-in m i = number-in (lab (spot_mark figure list right own O m)) (Memᴰ.map lab (Memᴰ.append_right (port_nodes (filled_spots figure list).atoms) (Memᴰ.map (spot_mark figure list right own O) i)))

  abbrev Sized : Atom → Type 0
  Sized α = (α.count ≤ most_links) × (length (take α.count α.links) ≡ α.count)

  sized : (α : Atom) → α ∈ made_atoms figure list right own O → Sized α
  sized = each_left Sized (λ α κ l. (l.range.2, ap length l.ports ∙ length-map κ.ports lab ∙ sym l.size)) (atoms-like figure list right own O)

  module _ (r : form.Sheet) (made : Made list (labels figure list right own O) (figure_normal figure list right own O) r) (small : length (made_atoms figure list right own O) ≤ sheet_atom_limit) (few : length D ≤ sheet_link_limit) where
    links-count : r.class_count ≡ length D
    links-count = made.class_total ∙ ap length (all-labels figure list right own O r made small few)

    marked-taken : take r.mark_count r.marked ≡ map mark_number (marks figure list right own O)
    marked-taken =
        ap₂ (λ (n : ℕ) (l : List ℕ). take n l) made.mark_total (marked-are figure list right own O r made small few)
        ∙ taken-padded mark_room (map mark_number (marks figure list right own O)) (length (marks figure list right own O)) (length-map (marks figure list right own O) mark_number)

    marks-taken : take r.mark_count r.marks ≡ marks figure list right own O
    marks-taken = ap₂ (λ (n : ℕ) (l : List ℕ). take n l) made.mark_total made.marks ∙ take-padded mark_room 0 (marks figure list right own O)

    -- The net.
    pub made-net : net_in r ≡ net_of (filled_normal (graph_of (figure_held figure)) (fillings_read list))
    unfolding normal_form normal_form_by
    made-net =
        net-≡
        (ap (map atom_in) (atoms_are figure list right own O r made small few) ∙ map-map atom_in (numbered_atom D) (made_atoms figure list right own O)
        ∙ sym (net-atoms (atoms-like figure list right own O) (λ x i. Memᴰ.append_left (map (spot_mark figure list right own O) (marks figure list right own O)) i)))
        (ap (λ n. map context_in (take n r.contexts)) made.context_total ∙ sym (no-contexts (atoms-like figure list right own O)))
        (ap₂ paired marked-taken marks-taken ∙ paired-marks mark_number (marks figure list right own O) ∙ sym net-marks)
        (links-count ∙ sym (class-count figure list right own O) ∙ sym (result-links (filled_by figure list) (like-atoms (atoms-like figure list right own O))))

    atom-used : (i : ℕ) → i < r.atom_count → let a = get_or r.atoms i past_atoms in Used r.class_count a.count a.links
    atom-used i h =
        let l = made_atoms figure list right own O in
        let n : i < length l = omega (arith, atoms-count figure list right own O r made small few) in
        let α = get_or l i past_atoms in
        let m = get_d-in l i past_atoms n in
        let s = sized α m in
        let links = take α.count α.links in
        let e : get_or r.atoms i past_atoms ≡ numbered_atom D α =
        atom-at figure list right own O r made small few i (omega (arith, length-map l (numbered_atom D))) ∙ get_d-mapped (numbered_atom D) l i past_atoms past_atoms n in
        subst (λ (a : Atom). Used r.class_count a.count a.links) (sym e)
        (record {
          few = s.0;
          width = length-padded most_links 0 (map (number_in D) links) (omega (arith, s.0, s.1, length-map links (number_in D)));
          numbered = λ k p.
              let q : k < length links = omega (arith, s.1) in
              subst (λ (c : ℕ). Range c (get_or (numbered_links D α.count α.links) k 0)) (sym links-count)
              (subst (Range (length D)) (sym (mapped_at (number_in D) most_links 0 links k 0 0 q)) (link-in α m (get_or links k 0) (get_d-in links k 0 q)));
        })

    -- The arrays.
    pub made-fit : length r.atoms ≡ atom_room → length r.contexts ≡ context_room → Fit r
    made-fit a c =
        let f = few-marks Figure (figure_held figure) (figure-within figure) (figure-agrees figure) in
        let ms = marks figure list right own O in
        record {
          atom-count = omega (arith, atoms-count figure list right own O r made small few);
          context-count = omega (arith, made.context_total);
          mark-count = omega (arith, made.mark_total, f);
          class-count = omega (arith, links-count);
          atom-room = a;
          context-room = c;
          mark-room = ap length made.marks ∙ length-padded mark_room 0 ms (omega (arith, f));
          marked-room = ap length (marked-are figure list right own O r made small few) ∙ length-padded mark_room 0 (map mark_number ms) (omega (arith, f, length-map ms mark_number));
          atoms = atom-used;
          contexts = λ i h. absurd (omega (arith, made.context_total));
          marked = λ i h.
              let n : i < length ms = omega (arith, made.mark_total) in
              subst (λ (k : ℕ). Range k (get_or r.marked i 0)) (sym links-count)
              (subst (Range (length D)) (sym (ap (λ l. get_or l i 0) (marked-are figure list right own O r made small few) ∙ mapped_at mark_number mark_room 0 ms i 0 0 n)) (mark-in (get_or ms i 0) (get_d-in ms i 0 n)));
        }
