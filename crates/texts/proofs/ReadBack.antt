-- Reading back a text of S rows, then B rows, then E rows: it passes, and what is held is what was written.
use Prim.Native.Nat.{ℕ, suc, ◌+◌, ◌-◌, ◌≤◌}
use mathlib.Core.Path.{◌≡◌, refl, sym, ap, ap₂, ◌∙◌}
use mathlib.Core.List.{List, [], ◌∷◌, ◌++◌, map, map-append, append-nil, append_assoc}
use mathlib.Core.Bool.{true, false, true≢false}
use native.Mathlib.Omega.{arith}
use lib.Dec.{eqb}
use lib.ListN.{length, get_or, length-append, length-map}
use Rattle.hyperlmntal.specs.Link.{◌∈◌}
use Rattle.hyperlmntal.specs.Hypergraph.{inner, Flat}
use Rattle.hyperlmntal.proofs.Flats.{flat-≡, cell-≡}
use Rattle.rows.specs.Pick.{pick}
use Rattle.rows.specs.Format.{most_links, most_name, most_context}
use Rattle.rows.specs.Limits.{row_limit, figure_contexts}
use Rattle.rows.specs.Held.{Held, nothing, with_atom, with_context, with_edge_row}
use Rattle.rows.specs.Packed.{ports_of}
use Rattle.rows.specs.declared.Context.{Context}
use Rattle.rows.proofs.Padding.{take-padded}
use Rattle.sheet.specs.Kinds.{is_figure, is_list, atom_limit}
use Rattle.reading.specs.Graph.{atom_cell, context_cell, fusion_of, edge_of, graph_of}
use Rattle.normalising.specs.NormalText.{cell_bytes, edge_bytes, joined, text_of}
use Rattle.sheet.specs.Reading.{clash_of, Outcome, passed, read_from, outcome_of}
use Rattle.sheet.specs.declared.kind.Kind.{Kind}
use Rattle.sheet.specs.declared.answer.Answer.TheVariants.{Passed}
use Rattle.sheet.specs.HeldLimits.{Every}
use Rattle.sheet.proofs.kind.KindLaws.{rows-limit}
use Rattle.sheet.proofs.read.ReadingLaws.{read_none}
use Rattle.normalising.proofs.normal_text.NormalRows.{joined-append}
use Rattle.texts.specs.Fitting.{Vertex, Stock, Fitting}
use Rattle.texts.proofs.BuiltRows.{symbol_cell, blank_cell, vertex_nums, held_atom, held_context, symbol-bytes, blank-bytes, Stocked, Led, led-none, led-then, led-symbol, led-blank, led-edge}
use Rattle.texts.proofs.Few.{few-none}

-- The port count and 1 of the first of these numbers and port counts with number k, 0 where there is none.
abbrev pub ports_by : List (ℕ × ℕ) → ℕ → ℕ
ports_by [] k = 0
ports_by (p ∷ l) k = pick (eqb p.0 k) (suc p.1) (ports_by l k)

abbrev pub ports_in : Context → ℕ × ℕ
ports_in c = (c.number, c.count)

pub ports-by : (l : List Context) (k : ℕ) → ports_of l k ≡ ports_by (map ports_in l) k
unfolding ports_of
ports-by [] k = refl
ports-by (c ∷ l) k = ap (pick (eqb c.number k) (suc c.count)) (ports-by l k)

-- No B row of these numbers and port counts clashes with those before it.
abbrev pub Clear : Kind → List ℕ → List (ℕ × ℕ) → List (ℕ × ℕ) → Type 0
Clear kind pattern before [] = Unit {0}
Clear kind pattern before (p ∷ l) =
    (clash_of kind (ports_by before p.0) (get_or pattern p.0 0) (suc p.1) ≡ false) × Clear kind pattern (before ++ (p ∷ [])) l

abbrev pub ports_at : Vertex → ℕ × ℕ
ports_at v = (v.0, length v.1)

-- The contexts that are held, from the row after this one on.
abbrev pub held_contexts : ℕ → List Vertex → List Context
held_contexts row [] = []
held_contexts row (v ∷ l) = held_context v (row + 1) ∷ held_contexts (row + 1) l

-- The hypergraph of such vertices and edges.
abbrev pub built_graph : List Vertex → List Vertex → List (ℕ × ℕ) → Flat ℕ
built_graph symbols blanks edges = record { atoms = map symbol_cell symbols ++ map blank_cell blanks; fusions = map edge_of edges }

-- The joint and the mark of an edge are among these.
abbrev pub EdgeAmong : List ℕ → List ℕ → ℕ × ℕ → Type 0
EdgeAmong joints marks e = (e.0 ∈ joints) × (e.1 ∈ marks)

module _ (kind : Kind) (pattern joints marks : List ℕ) (stock : Stock kind joints marks) where
  led-symbols : (l : List Vertex) (g : Held) → Stocked kind joints marks g → Every (Fitting joints most_name) l
      → length g.atoms + length l ≤ atom_limit kind → length g.contexts ≤ figure_contexts → g.rows + length l ≤ row_limit
      → (h : Held) × Led kind pattern joints marks g h (length l) (joined (map cell_bytes (map symbol_cell l))) (map held_atom l) [] [] []
  unfolding joined
  led-symbols [] g s p atoms contexts rows = (g, led-none kind pattern joints marks g s)
  led-symbols (v ∷ l) g s p atoms contexts rows =
      let h = with_atom g (vertex_nums v) in
      let w : Led kind pattern joints marks g h 1 (cell_bytes (symbol_cell v)) (held_atom v ∷ []) [] [] [] =
      rw (symbol-bytes v) (led-symbol kind pattern joints marks stock g s (omega arith) contexts v p.0 (omega arith)) in
      let t = led-symbols l h w.stocked p.1 (rw w.went.atoms (simp length-append (omega arith))) (rw w.went.contexts (simp append-nil contexts)) (omega (arith, w.went.rows)) in
      (t.0, led-then kind pattern joints marks g h t.0 1 (length l) (suc (length l)) _ _ _ _ _ _ _ _ _ _ (omega arith) w t.1)

  led-blanks : (l : List Vertex) (g : Held) → Stocked kind joints marks g → Every (Fitting joints most_context) l → Every (λ v. is_figure kind ≡ true) l
      → length g.atoms ≤ atom_limit kind → length g.contexts + length l ≤ figure_contexts → g.rows + length l ≤ row_limit
      → Clear kind pattern (map ports_in g.contexts) (map ports_at l)
      → (h : Held) × Led kind pattern joints marks g h (length l) (joined (map cell_bytes (map blank_cell l))) [] (held_contexts g.rows l) [] []
  unfolding joined with_context
  led-blanks [] g s p figure atoms contexts rows clear = (g, led-none kind pattern joints marks g s)
  led-blanks (v ∷ l) g s p figure atoms contexts rows clear =
      let h = with_context g (vertex_nums v) in
      let w : Led kind pattern joints marks g h 1 (cell_bytes (blank_cell v)) [] (held_context v (g.rows + 1) ∷ []) [] [] =
      rw (blank-bytes v)
      (led-blank kind pattern joints marks stock g s (omega arith) (omega arith) v p.0 figure.0 atoms (omega arith) (rw (ports-by g.contexts v.0) clear.0)) in
      let c : Clear kind pattern (map ports_in h.contexts) (map ports_at l) = rw (w.went.contexts, map-append ports_in g.contexts (held_context v (g.rows + 1) ∷ [])) clear.1 in
      let t = led-blanks l h w.stocked p.1 figure.1 (rw w.went.atoms (simp append-nil atoms)) (rw w.went.contexts (simp length-append (omega arith))) (omega (arith, w.went.rows)) c in
      (t.0, led-then kind pattern joints marks g h t.0 1 (length l) (suc (length l)) _ _ _ _ _ _ _ _ _ _ (omega arith) w t.1)

  led-edges : (l : List (ℕ × ℕ)) (g : Held) → Stocked kind joints marks g → Every (EdgeAmong joints marks) l
      → length g.atoms ≤ atom_limit kind → length g.contexts ≤ figure_contexts → g.rows + length l ≤ row_limit
      → (h : Held) × Led kind pattern joints marks g h (length l) (joined (map edge_bytes (map edge_of l))) [] [] [] l
  unfolding joined
  led-edges [] g s p atoms contexts rows = (g, led-none kind pattern joints marks g s)
  led-edges (e ∷ l) g s p atoms contexts rows =
      let w = led-edge kind pattern joints marks stock g s (omega arith) contexts e.0 e.1 p.0.0 p.0.1 atoms in
      let h = with_edge_row g e.0 e.1 in
      let t = led-edges l h w.stocked p.1 (rw w.went.atoms (simp append-nil atoms)) (rw w.went.contexts (simp append-nil contexts)) (omega (arith, w.went.rows)) in
      (t.0, led-then kind pattern joints marks g h t.0 1 (length l) (suc (length l)) _ _ _ _ _ _ _ _ _ _ (omega arith) w t.1)

-- What can be written and read back: no list, numbers in range, within the limits of the kind, and no clash.
pub record Readable (kind : Kind) (pattern : List ℕ) (symbols blanks : List Vertex) (edges : List (ℕ × ℕ)) : Type 0 where
  pub single : is_list kind ≡ false
  pub joints : List ℕ
  pub marks : List ℕ
  pub stock : Stock kind joints marks
  pub symbol-rows : Every (Fitting joints most_name) symbols
  pub blank-rows : Every (Fitting joints most_context) blanks
  pub figure : Every (λ v. is_figure kind ≡ true) blanks
  pub edge-rows : Every (EdgeAmong joints marks) edges
  pub few-symbols : length symbols ≤ atom_limit kind
  pub few-blanks : length blanks ≤ figure_contexts
  pub few-rows : length symbols + length blanks + length edges ≤ row_limit
  pub clear : Clear kind pattern [] (map ports_at blanks)

-- What the outcome is.
pub record ReadBack (symbols blanks : List Vertex) (edges : List (ℕ × ℕ)) (o : Outcome) : Type 0 where
  pub answer : o.answer ≡ Passed
  pub atoms : o.held.atoms ≡ map held_atom symbols
  pub contexts : o.held.contexts ≡ held_contexts (length symbols) blanks
  pub fusions : o.held.fusions ≡ []
  pub edges-held : o.held.edges ≡ edges

pub built-text : (symbols blanks : List Vertex) (edges : List (ℕ × ℕ)) → text_of (built_graph symbols blanks edges)
    ≡ (joined (map cell_bytes (map symbol_cell symbols)) ++ joined (map cell_bytes (map blank_cell blanks))) ++ joined (map edge_bytes (map edge_of edges))
built-text symbols blanks edges = ap (λ l. l ++ joined (map edge_bytes (map edge_of edges)))
    (ap joined (map-append cell_bytes (map symbol_cell symbols) (map blank_cell blanks)) ∙ joined-append (map cell_bytes (map symbol_cell symbols)) (map cell_bytes (map blank_cell blanks)))

length-contexts : (row : ℕ) (l : List Vertex) → length (held_contexts row l) ≡ length l
length-contexts row [] = refl
length-contexts row (v ∷ l) = ap suc (length-contexts (row + 1) l)

atoms-back : (l : List Vertex) → map atom_cell (map held_atom l) ≡ map symbol_cell l
atoms-back [] = refl
atoms-back (v ∷ l) = ap₂ ◌∷◌ (cell-≡ refl (ap (map inner) (take-padded most_links 0 v.1))) (atoms-back l)

contexts-back : (row : ℕ) (l : List Vertex) → map context_cell (held_contexts row l) ≡ map blank_cell l
contexts-back row [] = refl
contexts-back row (v ∷ l) = ap₂ ◌∷◌ (cell-≡ refl (ap (map inner) (take-padded most_links 0 v.1))) (contexts-back (row + 1) l)

module _ (kind : Kind) (pattern : List ℕ) (symbols blanks : List Vertex) (edges : List (ℕ × ℕ)) (p : Readable kind pattern symbols blanks edges) where
  outcome : (h : Held) × (outcome_of kind pattern (text_of (built_graph symbols blanks edges)) ≡ passed h) × ReadBack symbols blanks edges (passed h)
  unfolding outcome_of
  outcome =
      let J = p.joints in
      let M = p.marks in
      let s : Stocked kind J M nothing = record { own-joints = few-none J; own-marks = few-none M; headed = λ e. absurd (true≢false (sym e ∙ p.single)) } in
      let a = led-symbols kind pattern J M p.stock symbols nothing s p.symbol-rows (omega (arith, p.few-symbols)) (omega arith) (omega (arith, p.few-rows)) in
      let atoms : a.0.atoms ≡ map held_atom symbols = a.1.went.atoms in
      let contexts : a.0.contexts ≡ [] = a.1.went.contexts in
      let few : length a.0.atoms ≤ atom_limit kind = rw atoms (simp length-map p.few-symbols) in
      let rows : a.0.rows ≡ length symbols = omega (arith, a.1.went.rows) in
      let b = led-blanks kind pattern J M p.stock blanks a.0 a.1.stocked p.blank-rows p.figure few (rw contexts (omega (arith, p.few-blanks)))
      (omega (arith, rows, p.few-rows)) (rw contexts p.clear) in
      let same-atoms : b.0.atoms ≡ map held_atom symbols = b.1.went.atoms ∙ append-nil a.0.atoms ∙ atoms in
      let more : b.0.contexts ≡ held_contexts (length symbols) blanks = b.1.went.contexts ∙ rw (contexts, rows) in
      let c = led-edges kind pattern J M p.stock edges b.0 b.1.stocked p.edge-rows (rw same-atoms (simp length-map p.few-symbols))
      (rw more (omega (arith, length-contexts (length symbols) blanks, p.few-blanks))) (omega (arith, rows, b.1.went.rows, p.few-rows)) in
      let k = length symbols + length blanks + length edges in
      let t = joined (map cell_bytes (map symbol_cell symbols)) in
      let u = joined (map cell_bytes (map blank_cell blanks)) in
      let e = joined (map edge_bytes (map edge_of edges)) in
      let whole : read_from (row_limit + 1) kind pattern nothing (text_of (built_graph symbols blanks edges)) ≡ passed c.0 =
      ap (read_from (row_limit + 1) kind pattern nothing) (built-text symbols blanks edges ∙ append_assoc t u e ∙ sym (ap (λ l. t ++ (u ++ l)) (append-nil e)))
      ∙ a.1.went.read (row_limit + 1) (row_limit + 1 - length symbols) (u ++ (e ++ [])) (omega (arith, p.few-rows))
      ∙ b.1.went.read (row_limit + 1 - length symbols) (row_limit + 1 - length symbols - length blanks) (e ++ []) (omega (arith, p.few-rows))
      ∙ c.1.went.read (row_limit + 1 - length symbols - length blanks) (row_limit + 1 - k) [] (omega (arith, p.few-rows))
      ∙ read_none (row_limit + 1 - k) kind pattern c.0 in (
        c.0,
        rw (rows-limit kind) whole,
        record {
          answer = refl;
          atoms = c.1.went.atoms ∙ append-nil b.0.atoms ∙ same-atoms;
          contexts = c.1.went.contexts ∙ append-nil b.0.contexts ∙ more;
          fusions = c.1.fusions ∙ rw (b.1.fusions, a.1.fusions);
          edges-held = c.1.edges ∙ rw (b.1.edges, a.1.edges);
        },
      )

  pub read_back : ReadBack symbols blanks edges (outcome_of kind pattern (text_of (built_graph symbols blanks edges)))
  read_back = rw outcome.1 outcome.2

  -- The hypergraph of what is read is the one that was written.
  pub graph-back : graph_of (outcome_of kind pattern (text_of (built_graph symbols blanks edges))).held ≡ built_graph symbols blanks edges
  graph-back =
      flat-≡ (ap₂ ◌++◌ (ap (map atom_cell) read_back.atoms ∙ atoms-back symbols) (ap (map context_cell) read_back.contexts ∙ contexts-back (length symbols) blanks))
      (ap₂ ◌++◌ (ap (map fusion_of) read_back.fusions) (ap (map edge_of) read_back.edges-held))
