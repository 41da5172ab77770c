-- Rows that are written by numbers in range are taken in, as long as their kind's limits allow it: one S, B, F, E or H row.
use Prim.Native.Nat.{ℕ, suc, ◌+◌, ◌<◌, ◌≤◌}
use mathlib.Core.Path.{◌≡◌, refl, sym, ap, ◌∙◌, subst}
use mathlib.Core.List.Memᴰ
use mathlib.Core.List.{List, [], ◌∷◌, ◌++◌, map, append-nil, append_assoc}
use mathlib.Core.Bool.{Bool, true, false}
use mathlib.Core.Logic.{⊎_elim}
use native.Mathlib.Omega.{arith}
use borrow.Author.Tests.{lt-leb, ne_eqb}
use lib.Dec.{eqb}
use lib.ListN.{length, get_or, replicate, take, length-append}
use Rattle.hyperlmntal.specs.Link.{◌∈◌}
use Rattle.hyperlmntal.specs.Hypergraph.{inner, symbol, hole, Cell}
use Rattle.rows.specs.Pick.{and}
use Rattle.rows.specs.Format.{most_links, most_name, most_number, most_context, atom_letter, context_letter, fusion_letter, edge_letter, head_letter}
use Rattle.rows.specs.Limits.{row_limit, figure_contexts, sheet_atom_limit}
use Rattle.rows.specs.Row.{row_with, row_of}
use Rattle.writing.specs.RowText.{row_bytes}
use Rattle.rows.specs.Held.{Held, with_links, merged, with_fusion, with_atom, with_context, with_fusion_row, with_edge_row, with_head, with_row}
use Rattle.rows.specs.Packed.{padded, ports_of}
use Rattle.rows.specs.declared.Atom.{Atom}
use Rattle.rows.specs.declared.Context.{Context}
use Rattle.rows.specs.Ranges.{Within}
use Rattle.rows.proofs.Padding.{take-padded}
use Rattle.linking.proofs.Wired.{links-marks, mark-links}
use Rattle.sheet.specs.Kinds.{is_figure, is_list, atom_limit}
use Rattle.normalising.specs.NormalText.{node_number, cell_bytes}
use Rattle.sheet.specs.Reading.{strange, last_number, clash_of, clashes, read_from}
use Rattle.sheet.specs.declared.kind.Kind.{Kind}
use Rattle.sheet.specs.declared.kind.Kind.TheVariants.{Fillings}
use Rattle.sheet.specs.HeldLimits.{Every}
use Rattle.sheet.proofs.kind.KindLaws.{common-letters}
use Rattle.texts.specs.Fitting.{Vertex, Stock, Fitting}
use Rattle.texts.proofs.Went.{Went, went-none, went_then, row_read}
use Rattle.texts.proofs.Few.{Few, few-length, few-links, few-mark}
use Rattle.texts.proofs.RowBack.{symbol-back, context-back, fusion-back, edge-back, head-back}

-- The vertex of an S row and of a B row.
abbrev pub symbol_cell : Vertex → Cell ℕ
symbol_cell v = record { label = symbol v.0; ports = map inner v.1 }

abbrev pub blank_cell : Vertex → Cell ℕ
blank_cell v = record { label = hole v.0; ports = map inner v.1 }

-- The numbers of its row, and what is held of it.
abbrev pub vertex_nums : Vertex → List ℕ
vertex_nums v = v.0 ∷ length v.1 ∷ padded most_links 0 v.1

abbrev pub held_atom : Vertex → Atom
held_atom v = record { name = v.0; count = length v.1; links = padded most_links 0 v.1 }

abbrev pub held_context : Vertex → ℕ → Context
held_context v row = record { number = v.0; count = length v.1; links = padded most_links 0 v.1; row = row }

numbers-back : (l : List ℕ) → map node_number (map inner l) ≡ l
numbers-back [] = refl
numbers-back (x ∷ l) = ap (λ k. x ∷ k) (numbers-back l)

length-inner : (l : List ℕ) → length (map inner l) ≡ length l
length-inner [] = refl
length-inner (x ∷ l) = ap suc (length-inner l)

pub every_in : {A : Type 0} (P : A → Type 0) (l : List A) → ((x : A) → x ∈ l → P x) → Every P l
every_in P [] p = tt
every_in P (x ∷ l) p = (p x (Memᴰ.head refl), every_in P l (λ y i. p y (Memᴰ.tail i)))

pub symbol-bytes : (v : Vertex) → cell_bytes (symbol_cell v) ≡ row_bytes 83 (v.0 ∷ length v.1 ∷ v.1)
symbol-bytes v = rw (numbers-back v.1, length-inner v.1)

pub blank-bytes : (v : Vertex) → cell_bytes (blank_cell v) ≡ row_bytes 66 (v.0 ∷ length v.1 ∷ v.1)
blank-bytes v = rw (numbers-back v.1, length-inner v.1)

-- What is held, in a list since its last head, has these joints and marks alone; a list has a head.
pub record Stocked (kind : Kind) (joints marks : List ℕ) (h : Held) : Type 0 where
  pub own-joints : Few joints h.wiring.links
  pub own-marks : Few marks h.wiring.marks
  pub headed : is_list kind ≡ true → 1 ≤ length h.contexts

not-stray : (list : Bool) (heads : ℕ) → (list ≡ true → 1 ≤ heads) → and list (eqb heads 0) ≡ false
not-stray true heads h = ne_eqb heads 0 (λ e. omega (arith, h refl))
not-stray false heads h = refl

-- The numbers of an H row, and what is held of it.
abbrev pub head_nums : ℕ → ℕ → List ℕ
head_nums number ports = number ∷ ports ∷ replicate most_links 0

abbrev pub held_head : ℕ → ℕ → ℕ → Context
held_head number ports row = record { number = number; count = ports; links = replicate most_links 0; row = row }

-- H
pub went-head : (pattern : List ℕ) (number ports : ℕ) (g : Held) → g.rows < row_limit → Within 1 number most_context → ports ≤ most_links → last_number g.contexts < number
    → length g.atoms ≤ sheet_atom_limit → length g.contexts < figure_contexts
    → Went Fillings pattern g (with_head g (head_nums number ports)) 1 (row_bytes 72 (number ∷ ports ∷ [])) [] (held_head number ports (g.rows + 1) ∷ [])
unfolding with_row with_head strange clashes
went-head pattern number ports g room high few above atoms heads =
    record {
      read = λ m n rest e. row_read Fillings pattern 72 head_letter (number ∷ ports ∷ []) (head_nums number ports) (head-back number ports high few) g room
          refl atoms (simp length-append (omega arith)) (omega arith) (omega arith) (lt-leb number (last_number g.contexts) above) m n rest e;
      rows = refl;
      atoms = sym (append-nil g.atoms);
      contexts = refl;
    }

module _ (kind : Kind) (pattern joints marks : List ℕ) where
  -- Reading a text leads on from g to h, within these joints and marks, and with these atoms, contexts, fusions and edges more.
  pub record Led (g h : Held) (k : ℕ) (text : List ℕ) (A : List Atom) (B : List Context) (P E : List (ℕ × ℕ)) : Type 0 where
    pub went : Went kind pattern g h k text A B
    pub stocked : Stocked kind joints marks h
    pub fusions : h.fusions ≡ g.fusions ++ P
    pub edges : h.edges ≡ g.edges ++ E

  pub led-none : (g : Held) → Stocked kind joints marks g → Led g g 0 [] [] [] [] []
  led-none g s = record { went = went-none kind pattern g; stocked = s; fusions = sym (append-nil g.fusions); edges = sym (append-nil g.edges) }

  pub led-then : (f g h : Held) (j k n : ℕ) (s t : List ℕ) (ls bs : List Atom) (cs ds : List Context) (ps qs es us : List (ℕ × ℕ)) → n ≡ j + k
      → Led f g j s ls cs ps es → Led g h k t bs ds qs us → Led f h n (s ++ t) (ls ++ bs) (cs ++ ds) (ps ++ qs) (es ++ us)
  led-then f g h j k n s t ls bs cs ds ps qs es us q v w =
      record {
        went = went_then kind pattern f g h j k n s t ls bs cs ds q v.went w.went;
        stocked = w.stocked;
        fusions = w.fusions ∙ rw v.fusions (append_assoc f.fusions ps qs);
        edges = w.edges ∙ rw v.edges (append_assoc f.edges es us);
      }

  module _ (stock : Stock kind joints marks) (g : Held) (s : Stocked kind joints marks g) (room : g.rows < row_limit) (few : length g.contexts ≤ figure_contexts) where
    stocked-read : (b letter : ℕ) (nums back : List ℕ) → row_of (row_bytes b nums) ≡ row_with letter true back → strange kind g.contexts letter ≡ false
        → length (with_row g (row_with letter true back)).atoms ≤ atom_limit kind → length (with_row g (row_with letter true back)).contexts ≤ figure_contexts
        → Stocked kind joints marks (with_row g (row_with letter true back)) → clashes kind pattern g.contexts (row_with letter true back) ≡ false
        → (m n : ℕ) (rest : List ℕ) → m ≡ 1 + n → read_from m kind pattern g (row_bytes b nums ++ rest) ≡ read_from n kind pattern (with_row g (row_with letter true back)) rest
    stocked-read b letter nums back same allowed atoms contexts t =
        row_read kind pattern b letter nums back same g room allowed atoms contexts
        (omega (arith, few-length _ _ t.own-joints, stock.few-joints)) (omega (arith, few-length _ _ t.own-marks, stock.few-marks))

    stray : and (is_list kind) (eqb (length g.contexts) 0) ≡ false
    stray = not-stray (is_list kind) (length g.contexts) s.headed

    -- The joints of a vertex, taken in.
    vertex-stocked : (high : ℕ) (v : Vertex) → Fitting joints high v → Few joints (with_links g.wiring (take (length v.1) (padded most_links 0 v.1))).links
        × Few marks (with_links g.wiring (take (length v.1) (padded most_links 0 v.1))).marks
    vertex-stocked high v f = rw (take-padded most_links 0 v.1) (few-links joints g.wiring v.1 f.known s.own-joints, rw links-marks s.own-marks)

    vertex-links : (high : ℕ) (v : Vertex) → Fitting joints high v → (x : ℕ) → x ∈ v.1 → (1 ≤ x) × (x ≤ most_number)
    vertex-links high v f x i = stock.joint-range x (f.known x i)

    -- S
    pub led-symbol : (v : Vertex) → Fitting joints most_name v → length g.atoms < atom_limit kind
        → Led g (with_atom g (vertex_nums v)) 1 (row_bytes 83 (v.0 ∷ length v.1 ∷ v.1)) (held_atom v ∷ []) [] [] []
    unfolding with_row with_atom strange clashes
    led-symbol v f atoms =
        let t : Stocked kind joints marks (with_atom g (vertex_nums v)) = record { own-joints = (vertex-stocked most_name v f).0; own-marks = (vertex-stocked most_name v f).1; headed = s.headed } in
        record {
          went = record {
            read = stocked-read 83 atom_letter (v.0 ∷ length v.1 ∷ v.1) (vertex_nums v) (symbol-back v.0 v.1 f.name f.count (vertex-links most_name v f))
                (rw (common-letters kind).0 stray) (simp length-append (omega arith)) few t refl;
            rows = refl;
            atoms = refl;
            contexts = sym (append-nil g.contexts);
          };
          stocked = t;
          fusions = sym (append-nil g.fusions);
          edges = sym (append-nil g.edges);
        }

    -- B
    pub led-blank : (v : Vertex) → Fitting joints most_context v → is_figure kind ≡ true → length g.atoms ≤ atom_limit kind → length g.contexts < figure_contexts
        → clash_of kind (ports_of g.contexts v.0) (get_or pattern v.0 0) (suc (length v.1)) ≡ false
        → Led g (with_context g (vertex_nums v)) 1 (row_bytes 66 (v.0 ∷ length v.1 ∷ v.1)) [] (held_context v (g.rows + 1) ∷ []) [] []
    unfolding with_row with_context strange clashes
    led-blank v f figure atoms below clash =
        let t : Stocked kind joints marks (with_context g (vertex_nums v)) =
        record { own-joints = (vertex-stocked most_context v f).0; own-marks = (vertex-stocked most_context v f).1; headed = λ e. simp length-append (omega arith) } in
        record {
          went = record {
            read = stocked-read 66 context_letter (v.0 ∷ length v.1 ∷ v.1) (vertex_nums v) (context-back v.0 v.1 f.name f.count (vertex-links most_context v f))
                (rw figure stray) atoms (simp length-append (omega arith)) t clash;
            rows = refl;
            atoms = sym (append-nil g.atoms);
            contexts = refl;
          };
          stocked = t;
          fusions = sym (append-nil g.fusions);
          edges = sym (append-nil g.edges);
        }

    -- F
    pub led-fusion : (x y : ℕ) → x ∈ joints → y ∈ joints → length g.atoms ≤ atom_limit kind
        → Led g (with_fusion_row g x y) 1 (row_bytes 70 (x ∷ y ∷ [])) [] [] ((x, y) ∷ []) []
    unfolding with_row with_fusion_row with_fusion merged strange clashes
    led-fusion x y i j atoms =
        let both : (z : ℕ) → z ∈ (x ∷ y ∷ []) → z ∈ joints =
        λ z k. ⊎_elim (λ e. subst (λ u. u ∈ joints) (sym e) i) (λ l. subst (λ u. u ∈ joints) (sym (Memᴰ.eq_of_singleton l)) j) (Memᴰ.cases_cons k) in
        let t : Stocked kind joints marks (with_fusion_row g x y) =
        record { own-joints = few-links joints g.wiring (x ∷ y ∷ []) both s.own-joints; own-marks = rw links-marks s.own-marks; headed = s.headed } in
        record {
          went = record {
            read = stocked-read 70 fusion_letter (x ∷ y ∷ []) (x ∷ y ∷ replicate most_links 0) (fusion-back x y (stock.joint-range x i) (stock.joint-range y j)) (rw (common-letters kind).1 stray) atoms few t refl;
            rows = refl;
            atoms = sym (append-nil g.atoms);
            contexts = sym (append-nil g.contexts);
          };
          stocked = t;
          fusions = refl;
          edges = sym (append-nil g.edges);
        }

    -- E
    pub led-edge : (x m : ℕ) → x ∈ joints → m ∈ marks → length g.atoms ≤ atom_limit kind
        → Led g (with_edge_row g x m) 1 (row_bytes 69 (x ∷ m ∷ [])) [] [] [] ((x, m) ∷ [])
    unfolding with_row with_edge_row strange clashes
    led-edge x m i j atoms =
        let t : Stocked kind joints marks (with_edge_row g x m) =
        record {
          own-joints = rw mark-links (few-links joints g.wiring (x ∷ []) (λ z k. subst (λ y. y ∈ joints) (sym (Memᴰ.eq_of_singleton k)) i) s.own-joints);
          own-marks = few-mark marks (with_links g.wiring (x ∷ [])) x m j (rw links-marks s.own-marks);
          headed = s.headed;
        } in
        record {
          went = record {
            read = stocked-read 69 edge_letter (x ∷ m ∷ []) (x ∷ m ∷ replicate most_links 0) (edge-back x m (stock.joint-range x i) (stock.mark-range m j)) (rw (common-letters kind).2 stray) atoms few t refl;
            rows = refl;
            atoms = sym (append-nil g.atoms);
            contexts = sym (append-nil g.contexts);
          };
          stocked = t;
          fusions = sym (append-nil g.fusions);
          edges = refl;
        }
