-- The normal form that the code makes is written as the filled text.
use Prim.Native.Nat.{ℕ, ◌+◌, ◌*◌, ◌<◌, ◌≤◌}
use mathlib.Core.Path.{◌≡◌, refl, ap, ap₂, sym, ◌∙◌, subst}
use mathlib.Core.List.Memᴰ
use mathlib.Core.List.{List, [], ◌∷◌, ◌++◌, map, map-map, append-nil}
use native.Mathlib.Omega.{arith}
use lib.ListN.{length, get_or, take, length-map}
use lib.Seq.{take_all, get_or-take}
use Rattle.hyperlmntal.specs.Link.{◌∈◌}
use Rattle.hyperlmntal.specs.Hypergraph.{Node, Label, Cell, port_nodes, map_cell}
use Rattle.hyperlmntal.specs.DenotedSubstitution.{Spot}
use Rattle.hyperlmntal.proofs.Lists.{map-agree, Each, done, more}
use Rattle.hyperlmntal.proofs.Equivalence.{each-length}
use Rattle.rows.specs.Format.{most_links, row_width, most_number}
use Rattle.rows.specs.Limits.{sheet_atom_limit, sheet_link_limit, atom_room, mark_room}
use Rattle.rows.specs.Packed.{padded}
use Rattle.writing.specs.RowText.{row_bytes}
use Rattle.rows.specs.declared.Atom.{Atom}
use Rattle.rows.proofs.Lists.{index_of-le, get_d-mapped}
use Rattle.rows.proofs.Padding.{get_d-padded}
use Rattle.reading.specs.Normal.{class_of, marks_of, distinct, number_by, numbered_by, marked_by, normal_form_by, normal_form}
use Rattle.reading.specs.NormalSheet.{normal_marks, packed_normal}
use Rattle.normalising.specs.NormalText.{node_number, cell_bytes, edge_bytes, joined, slip_length}
use Rattle.normalising.specs.NormalRows.{past_atoms, rows_to, symbol_row, atom_row, context_row, mark_row, normal_rows, Narrow, Writable}
use Rattle.rows.specs.declared.Sheet.{Sheet as Normal}
use Rattle.sheet.specs.declared.kind.Kind.TheVariants.{Figure}
use Rattle.reading.proofs.normal.Merging.{get_d-in}
use Rattle.normalising.proofs.normal_text.NormalRows.{rows-joined}
use Rattle.normalising.proofs.normal_text.NormalWritten.{taken-padded, mapped_at, few-marks, normal-writable}
use Rattle.placing.specs.Filled.{spot_node}
use Rattle.filling.specs.Fill.{figure_held, filled_by, filled_text}
use Rattle.filling.specs.Glued.{Own}
use Rattle.filling.specs.Whole.{all_atoms}
use Rattle.filling.specs.Classes.{with_labels, links_in, number_in, numbered_links, numbered_atom, mark_labels, shown_atoms, shown_labels, Made}
use Rattle.filling.proofs.Parts.{figure-within, figure-agrees, padded-any}
use Rattle.filling.specs.Right.{Right}
use Rattle.filling.proofs.Located.{filled_spots}
use Rattle.filling.proofs.Labelled.{labels, label}
use Rattle.filling.proofs.Shown.{Like, atoms-like, spot_mark, shown_spots, mark-labels, shown-labels}
use Rattle.filling.proofs.Numbered.{labels_append, labels-distinct}
use Rattle.filling.proofs.Result.{marks-same, classes, class-number}

-- What is related to something has what all such have.
pub each_left : {A B : Type 0} {R : A → B → Type 0} (P : A → Type 0) → ((a : A) (b : B) → R a b → P a) → {l : List A} {k : List B} → Each R l k → (a : A) → a ∈ l → P a
each_left P f done a i = absurd (Memᴰ.not-nil i)
each_left P f (more {a = x} {b = y} r e) a (Memᴰ.head q) = subst P (sym q) (f x y r)
each_left P f (more r e) a (Memᴰ.tail i) = each_left P f e a i

module _ (figure list : List ℕ) (right : Right figure list) (own : List ℕ) (O : Own own) where
  abbrev pub figure_normal : Normal
  figure_normal = packed_normal (figure_held figure)

  abbrev pub made_atoms : List Atom
  made_atoms = all_atoms list (labels figure list right own O) figure_normal

  abbrev pub marks : List ℕ
  marks = normal_marks (figure_held figure)

  abbrev pub numbered : Node ℕ → Node ℕ
  numbered = numbered_by (class_of (filled_by figure list).fusions) (filled_by figure list)

  pub atom-count : length (filled_by figure list).atoms ≡ length made_atoms
  atom-count = length-map (filled_spots figure list).atoms (map_cell spot_node) ∙ sym (each-length (atoms-like figure list right own O))

  -- The links of a vertex by their numbers.
  pub symbol-links : (α : Atom) (κ : Cell (Spot ℕ ℕ)) → Like figure list right own O α κ → ((x : Node (Spot ℕ ℕ)) → x ∈ κ.ports → x ∈ shown_spots figure list right own O)
      → map node_number (map numbered (map spot_node κ.ports)) ≡ take α.count (numbered_links (classes figure list right own O) α.count α.links)
  symbol-links α κ r shown =
      let D = classes figure list right own O in
      let lab = label figure list right own O in
      let links = take α.count α.links in
      let n : length links ≡ α.count = ap length r.ports ∙ length-map κ.ports lab ∙ sym r.size in
      let t : take α.count (numbered_links D α.count α.links) ≡ map (number_in D) links = taken-padded most_links (map (number_in D) links) α.count (length-map links (number_in D) ∙ n) in
      ap (map node_number) (map-map numbered spot_node κ.ports) ∙ map-map node_number (λ x. numbered (spot_node x)) κ.ports
      ∙ map-agree (λ x. number_by (class_of (filled_by figure list).fusions) (filled_by figure list) (spot_node x)) (λ x. number_in D (lab x)) κ.ports (λ x i. class-number figure list right own O x (shown x i))
      ∙ sym (map-map (number_in D) lab κ.ports) ∙ ap (map (number_in D)) (sym r.ports) ∙ sym t

  -- The S row of a vertex.
  pub symbol-row : (α : Atom) (κ : Cell (Spot ℕ ℕ)) → Like figure list right own O α κ → ((x : Node (Spot ℕ ℕ)) → x ∈ κ.ports → x ∈ shown_spots figure list right own O)
      → cell_bytes (map_cell numbered (map_cell spot_node κ)) ≡ symbol_row (numbered_atom (classes figure list right own O) α)
  symbol-row α κ r shown =
      let s : length (map numbered (map spot_node κ.ports)) ≡ α.count = length-map (map spot_node κ.ports) numbered ∙ length-map κ.ports spot_node ∙ sym r.size in
      ap (λ (l : Label). cell_bytes (record { label = l; ports = map numbered (map spot_node κ.ports) })) r.name
      ∙ ap₂ (λ (c : ℕ) (l : List ℕ). row_bytes 83 (α.name ∷ c ∷ l)) s (symbol-links α κ r shown)

  symbol-rows : {l : List Atom} {k : List (Cell (Spot ℕ ℕ))} → Each (Like figure list right own O) l k → ((x : Node (Spot ℕ ℕ)) → x ∈ port_nodes k → x ∈ shown_spots figure list right own O)
      → map cell_bytes (map (map_cell numbered) (map (map_cell spot_node) k)) ≡ map (λ α. symbol_row (numbered_atom (classes figure list right own O) α)) l
  symbol-rows done shown = refl
  symbol-rows (more {a = α} {b = κ} {k = k} r e) shown =
      ap₂ ◌∷◌ (symbol-row α κ r (λ x i. shown x (Memᴰ.append_left (port_nodes k) i))) (symbol-rows e (λ x i. shown x (Memᴰ.append_right κ.ports i)))

  abbrev edge_form : ℕ → List ℕ
  edge_form m = row_bytes 69 (number_in (classes figure list right own O) (label figure list right own O (spot_mark figure list right own O m)) ∷ m ∷ [])

  edge-rows : map edge_bytes (map (marked_by (class_of (filled_by figure list).fusions) (filled_by figure list)) (marks_of (filled_by figure list))) ≡ map edge_form marks
  edge-rows =
      ap (λ l. map edge_bytes (map (marked_by (class_of (filled_by figure list).fusions) (filled_by figure list)) l)) (marks-same figure list right)
      ∙ map-map edge_bytes (marked_by (class_of (filled_by figure list).fusions) (filled_by figure list)) marks
      ∙ map-agree (λ m. edge_bytes (marked_by (class_of (filled_by figure list).fusions) (filled_by figure list) m)) edge_form marks
      (λ m i. ap (λ n. row_bytes 69 (n ∷ m ∷ [])) (class-number figure list right own O (spot_mark figure list right own O m) (Memᴰ.append_right (port_nodes (filled_spots figure list).atoms) (Memᴰ.map (spot_mark figure list right own O) i))))

  text-is : filled_text figure list ≡ joined (map (λ α. symbol_row (numbered_atom (classes figure list right own O) α)) made_atoms) ++ joined (map edge_form marks)
  unfolding normal_form normal_form_by
  text-is = ap₂ (λ (a b : List (List ℕ)). joined a ++ joined b) (symbol-rows (atoms-like figure list right own O) (λ x i. Memᴰ.append_left (map (spot_mark figure list right own O) marks) i)) edge-rows

  -- The labels that the code sees.
  pub labels-seen : length made_atoms ≤ sheet_atom_limit → shown_labels list (labels figure list right own O) figure_normal ≡ take (sheet_link_limit + 1) (classes figure list right own O)
  labels-seen small =
      ap (λ (l : List Atom). with_labels (with_labels [] (links_in l)) (mark_labels (labels figure list right own O) figure_normal)) (take_all atom_room made_atoms (omega arith))
      ∙ sym (labels_append [] (links_in made_atoms) (mark_labels (labels figure list right own O) figure_normal))
      ∙ labels-distinct (links_in made_atoms ++ mark_labels (labels figure list right own O) figure_normal)
      ∙ ap (λ l. take (sheet_link_limit + 1) (distinct l)) (shown-labels figure list right own O)

  module _ (r : Normal) (made : Made list (labels figure list right own O) figure_normal r) (small : length made_atoms ≤ sheet_atom_limit) (few : length (classes figure list right own O) ≤ sheet_link_limit) where
    pub all-labels : shown_labels list (labels figure list right own O) figure_normal ≡ classes figure list right own O
    all-labels = labels-seen small ∙ take_all (sheet_link_limit + 1) (classes figure list right own O) (omega arith)

    all-atoms : shown_atoms list (labels figure list right own O) figure_normal ≡ made_atoms
    all-atoms = take_all atom_room made_atoms (omega arith)

    abbrev pub row_atoms : List Atom
    row_atoms = map (numbered_atom (classes figure list right own O)) made_atoms

    pub atoms_are : take r.atom_count r.atoms ≡ row_atoms
    atoms_are = made.atoms ∙ ap₂ (λ (d : List ℕ) (l : List Atom). map (numbered_atom d) l) all-labels all-atoms

    pub atoms-count : r.atom_count ≡ length made_atoms
    atoms-count = made.atom_total ∙ ap length all-atoms

    pub atom-at : (k : ℕ) → k < length row_atoms → get_or r.atoms k past_atoms ≡ get_or row_atoms k past_atoms
    atom-at k h =
        let n : length row_atoms ≡ length made_atoms = length-map made_atoms (numbered_atom (classes figure list right own O)) in
        sym (get_or-take r.atom_count r.atoms k past_atoms (omega (arith, atoms-count))) ∙ ap (λ l. get_or l k past_atoms) atoms_are

    atom-rows : rows_to (atom_row r) r.atom_count ≡ joined (map (λ α. symbol_row (numbered_atom (classes figure list right own O) α)) made_atoms)
    atom-rows =
        ap (rows_to (atom_row r)) (atoms-count ∙ sym (length-map made_atoms (numbered_atom (classes figure list right own O))))
        ∙ rows-joined past_atoms symbol_row (atom_row r) row_atoms (λ k h. ap symbol_row (atom-at k h))
        ∙ ap joined (map-map symbol_row (numbered_atom (classes figure list right own O)) made_atoms)

    pub marked-are : r.marked ≡ padded mark_room 0 (map (λ m. number_in (classes figure list right own O) (label figure list right own O (spot_mark figure list right own O m))) marks)
    marked-are =
        made.marked
        ∙ ap₂ (λ (d l : List ℕ). padded mark_room 0 (map (number_in d) l)) all-labels (mark-labels figure list right own O ∙ map-map (label figure list right own O) (spot_mark figure list right own O) marks)
        ∙ ap (padded mark_room 0) (map-map (number_in (classes figure list right own O)) (λ m. label figure list right own O (spot_mark figure list right own O m)) marks)

    mark-row : (k : ℕ) → k < length marks → mark_row r k ≡ edge_form (get_or marks k 0)
    mark-row k h =
        ap₂ (λ (a b : ℕ). row_bytes 69 (a ∷ b ∷ []))
        (ap (λ l. get_or l k 0) marked-are ∙ mapped_at (λ m. number_in (classes figure list right own O) (label figure list right own O (spot_mark figure list right own O m))) mark_room 0 marks k 0 0 h)
        (ap (λ l. get_or l k 0) made.marks ∙ get_d-padded mark_room 0 marks k 0 h)

    -- What is written.
    pub rows_are : normal_rows r ≡ filled_text figure list
    unfolding normal_rows rows_to
    rows_are =
        let c : rows_to (context_row r) r.context_count ≡ [] = ap (rows_to (context_row r)) made.context_total in
        let m : rows_to (mark_row r) r.mark_count ≡ joined (map edge_form marks) = ap (rows_to (mark_row r)) made.mark_total ∙ rows-joined 0 edge_form (mark_row r) marks mark-row in
        ap₂ (λ (a b : List ℕ). a ++ b) (ap₂ (λ (a b : List ℕ). a ++ b) atom-rows c ∙ append-nil (joined (map (λ α. symbol_row (numbered_atom (classes figure list right own O) α)) made_atoms))) m ∙ sym text-is

    number-narrow : (x : ℕ) → number_in (classes figure list right own O) x ≤ most_number
    number-narrow x = omega (arith, index_of-le x (classes figure list right own O))

    narrow : (α : Atom) → α ∈ made_atoms → let a = numbered_atom (classes figure list right own O) α in Narrow a.name a.count a.links
    narrow = each_left (λ α. let a = numbered_atom (classes figure list right own O) α in Narrow a.name a.count a.links)
        (λ α κ l. record {
          named = omega (arith, l.range);
          counted = l.range.2;
          linked = λ k h. padded-any (λ n. n ≤ most_number) most_links 0 0 (map (number_in (classes figure list right own O)) (take α.count α.links)) (omega arith) (omega arith) (mapped-narrow (take α.count α.links)) k;
        })
        (atoms-like figure list right own O)
      where
        mapped-narrow : (l : List ℕ) (n : ℕ) → n ∈ map (number_in (classes figure list right own O)) l → n ≤ most_number
        mapped-narrow [] n i = absurd (Memᴰ.not-nil i)
        mapped-narrow (x ∷ l) n (Memᴰ.head q) = subst (λ n. n ≤ most_number) (sym q) (number-narrow x)
        mapped-narrow (x ∷ l) n (Memᴰ.tail i) = mapped-narrow l n i

    pub made-writable : Writable r × ((r.atom_count + r.context_count + r.mark_count) * row_width ≤ slip_length)
    made-writable =
        let w = normal-writable Figure (figure_held figure) (figure-within figure) (figure-agrees figure) in
        let f = few-marks Figure (figure_held figure) (figure-within figure) (figure-agrees figure) in
        let a = atoms-count in
        let c = made.context_total in
        let m = made.mark_total in (
          record {
            atoms = omega arith;
            contexts = omega arith;
            marks = omega arith;
            atom_numbers = λ k h.
                let n : k < length made_atoms = omega arith in
                let e : get_or r.atoms k past_atoms ≡ numbered_atom (classes figure list right own O) (get_or made_atoms k past_atoms) =
                atom-at k (omega (arith, length-map made_atoms (numbered_atom (classes figure list right own O)))) ∙ get_d-mapped (numbered_atom (classes figure list right own O)) made_atoms k past_atoms past_atoms n in
                subst (λ (b : Atom). Narrow b.name b.count b.links) (sym e) (narrow (get_or made_atoms k past_atoms) (get_d-in made_atoms k past_atoms n));
            context_numbers = λ k h. absurd (omega arith);
            mark_numbers = λ k h.
                let n : k < length marks = omega arith in (
                  subst (λ b. b ≤ most_number) (sym (ap (λ l. get_or l k 0) marked-are ∙ mapped_at (λ m. number_in (classes figure list right own O) (label figure list right own O (spot_mark figure list right own O m))) mark_room 0 marks k 0 0 n)) (number-narrow (label figure list right own O (spot_mark figure list right own O (get_or marks k 0)))),
                  subst (λ l. get_or l k 0 ≤ most_number) (sym made.marks) (w.mark_numbers k n).1,
                );
          },
          omega arith,
        )
