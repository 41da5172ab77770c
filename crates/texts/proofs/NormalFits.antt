-- The normal form of what a text holds can be written and read back: its numbers are in range and within the limits of the kind.
use Prim.Native.Nat.{ℕ, zero, suc, ◌+◌, ◌≤◌}
use mathlib.Core.Path.{◌≡◌, refl, sym, ap, ap₂, ◌∙◌, subst}
use mathlib.Core.List.Memᴰ
use mathlib.Core.List.{List, [], ◌∷◌, ◌++◌, map, map-map, map-append, append-nil, append_assoc}
use mathlib.Core.Bool.{true, false, true≢false}
use mathlib.Core.Logic.{⊎_elim}
use native.Mathlib.Omega.{arith}
use native.Mathlib.Nat.{eq-or-lt_of_le}
use lib.ListN.{length, get_or, take, length-map, length-take}
use Rattle.hyperlmntal.specs.Link.{free, ◌∈◌}
use Rattle.hyperlmntal.specs.Hypergraph.{Node, inner, Cell, nodes, map_cell}
use Rattle.hyperlmntal.proofs.Lists.{map-agree, all_map}
use Rattle.hyperlmntal.proofs.Flats.{flat-≡, cell-≡}
use Rattle.rows.specs.Format.{most_links, most_name, most_number, most_context}
use Rattle.rows.specs.Limits.{sheet_atom_limit}
use Rattle.rows.specs.Packed.{ports_of}
use Rattle.rows.specs.Held.{Held, context_of, with_atom, with_context, with_fusion_row, with_edge_row, with_row}
use Rattle.rows.specs.declared.Atom.{Atom}
use Rattle.rows.specs.declared.Context.{Context}
use Rattle.linking.proofs.Wired.{row_by}
use Rattle.sheet.specs.Kinds.{is_figure, is_list, atom_limit, link_limit}
use Rattle.reading.specs.Graph.{atom_cell, context_cell, edge_of, graph_of}
use Rattle.reading.specs.Normal.{class_of, mark_node, shown, numbered_by, normal_form_by, normal_form}
use Rattle.reading.specs.NormalSheet.{number_in, normal_marks}
use Rattle.sheet.specs.Reading.{strange, clash_of, clashes, outcome_of}
use Rattle.sheet.specs.declared.kind.Kind.{Kind}
use Rattle.sheet.specs.declared.kind.Kind.TheVariants.{Plain, Pattern, Figure, Replacement, Fillings}
use Rattle.sheet.specs.HeldLimits.{Every, MarkRange, AtomRange, ContextRange, EdgeRange, WithinLimits}
use Rattle.reading.specs.Agrees.{Agrees}
use Rattle.sheet.proofs.read.Every.{every_one}
use Rattle.sheet.proofs.read.Room.{limits-most}
use Rattle.sheet.proofs.read.Taken.{row_at, Taken, outcome-keeps}
use Rattle.reading.proofs.normal.Marks.{marks-of}
use Rattle.reading.proofs.normal.Connected.{no-head, ports-in}
use Rattle.reading.proofs.normal.TextGraph.{graph-name}
use Rattle.reading.proofs.normal.NormalBy.{port-shown, mark-shown}
use Rattle.reading.proofs.normal.NormalBounds.{class_total, number-range, text-links}
use Rattle.normalising.proofs.normal_text.NormalWritten.{links-known, few-marks}
use Rattle.texts.specs.Fitting.{Vertex, Stock, Fitting}
use Rattle.texts.proofs.Texts.{down_from}
use Rattle.texts.proofs.BuiltRows.{symbol_cell, blank_cell, every_in}
use Rattle.texts.proofs.ReadBack.{ports_by, ports_in, ports-by, Clear, ports_at, built_graph, EdgeAmong, Readable}

-- The numbers from n down to 1.
abbrev pub up_to : ℕ → List ℕ
up_to n = down_from (λ k. k) n

pub up_to-length : (n : ℕ) → length (up_to n) ≡ n
unfolding down_from
up_to-length zero = refl
up_to-length (suc n) = ap suc (up_to-length n)

pub up_to-in : (n k : ℕ) → 1 ≤ k → k ≤ n → k ∈ up_to n
unfolding down_from
up_to-in zero k p q = absurd (omega arith)
up_to-in (suc n) k p q = ⊎_elim (λ e. Memᴰ.head e) (λ h. Memᴰ.tail (up_to-in n k p (omega arith))) (eq-or-lt_of_le q)

pub up_to-of : (n k : ℕ) → k ∈ up_to n → (1 ≤ k) × (k ≤ n)
unfolding down_from
up_to-of zero k i = absurd (Memᴰ.not-nil i)
up_to-of (suc n) k i = ⊎_elim (λ e. (omega arith, omega arith)) (λ j. let t = up_to-of n k j in (t.0, omega arith)) (Memᴰ.cases_cons i)

-- What holds of every element holds of one of them.
pub every-member : {A : Type 0} (P : A → Type 0) (l : List A) (x : A) → Every P l → x ∈ l → P x
every-member P [] x p i = absurd (Memᴰ.not-nil i)
every-member P (y ∷ l) x p i = ⊎_elim (λ e. subst P (sym e) p.0) (λ j. every-member P l x p.1 j) (Memᴰ.cases_cons i)

-- The B rows of a text stand in a figure, and do not clash.
pub record Sound (kind : Kind) (pattern : List ℕ) (contexts : List Context) : Type 0 where
  pub figure : Every (λ (c : Context). is_figure kind ≡ true) contexts
  pub clear : Clear kind pattern [] (map ports_in contexts)

figure-only : (kind : Kind) (contexts : List Context) → is_list kind ≡ false → strange kind contexts 1 ≡ false → is_figure kind ≡ true
unfolding strange
figure-only Plain contexts l e = absurd (true≢false e)
figure-only Pattern contexts l e = refl
figure-only Figure contexts l e = refl
figure-only Replacement contexts l e = refl
figure-only Fillings contexts l e = absurd (true≢false l)

clear-more : (kind : Kind) (pattern : List ℕ) (before l : List (ℕ × ℕ)) (p : ℕ × ℕ) → Clear kind pattern before l
    → clash_of kind (ports_by (before ++ l) p.0) (get_or pattern p.0 0) (suc p.1) ≡ false → Clear kind pattern before (l ++ (p ∷ []))
clear-more kind pattern before [] p c e = (rw append-nil at e, tt)
clear-more kind pattern before (q ∷ l) p c e = (c.0, clear-more kind pattern (before ++ (q ∷ [])) l p c.1 (rw (append_assoc before (q ∷ []) l) e))

sound-row : (kind : Kind) (pattern : List ℕ) → is_list kind ≡ false → (h : Held) (text : List ℕ) → Taken kind pattern h text → Sound kind pattern h.contexts
    → Sound kind pattern (with_row h (row_at text)).contexts
unfolding with_atom with_context with_fusion_row with_edge_row clashes
sound-row kind pattern single h text t s =
    row_by h (row_at text) (λ g. Sound kind pattern g.contexts) (λ e. s) context (λ e. s) (λ e. s) (λ k. absurd (omega (arith, no-head kind pattern h text single t)))
  where
    nums : List ℕ
    nums = (row_at text).nums

    context : (row_at text).letter ≡ 1 → Sound kind pattern (with_context h nums).contexts
    context e =
        let c : clash_of kind (ports_of h.contexts (get_or nums 0 0)) (get_or pattern (get_or nums 0 0) 0) (suc (get_or nums 1 0)) ≡ false = rw e at t.agrees in
        record {
          figure = every_one (λ d. is_figure kind ≡ true) h.contexts (context_of nums (h.rows + 1)) s.figure (figure-only kind h.contexts single (rw e at t.allowed));
          clear = rw (map-append ports_in h.contexts (context_of nums (h.rows + 1) ∷ []))
              (clear-more kind pattern [] (map ports_in h.contexts) (get_or nums 0 0, get_or nums 1 0) s.clear (rw (ports-by h.contexts (get_or nums 0 0)) at c));
        }

pub sound-read : (kind : Kind) (pattern text : List ℕ) → is_list kind ≡ false → Sound kind pattern (outcome_of kind pattern text).held.contexts
sound-read kind pattern text single = outcome-keeps kind pattern (λ h. Sound kind pattern h.contexts) (sound-row kind pattern single) text (record { figure = tt; clear = tt })

-- The vertices and edges of the normal form.
module _ (h : Held) where
  abbrev pub numbered : ℕ → List ℕ → List ℕ
  numbered count links = map (λ x. number_in h (inner x)) (take count links)

  abbrev pub normal_symbol : Atom → Vertex
  normal_symbol a = (a.name, numbered a.count a.links)

  abbrev pub normal_blank : Context → Vertex
  normal_blank c = (c.number, numbered c.count c.links)

  abbrev pub normal_edge : ℕ → ℕ × ℕ
  normal_edge m = (number_in h (mark_node m), m)

  pub normal-built : normal_form (graph_of h) ≡ built_graph (map normal_symbol h.atoms) (map normal_blank h.contexts) (map normal_edge (normal_marks h))
  unfolding normal_form normal_form_by
  normal-built =
      flat-≡ (map-append (map_cell number) (map atom_cell h.atoms) (map context_cell h.contexts)
      ∙ ap₂ ◌++◌
      (map-map (map_cell number) atom_cell h.atoms ∙ map-agree _ _ h.atoms (λ a i. cell-≡ refl (ports (take a.count a.links))) ∙ sym (map-map symbol_cell normal_symbol h.atoms))
      (map-map (map_cell number) context_cell h.contexts ∙ map-agree _ _ h.contexts (λ c i. cell-≡ refl (ports (take c.count c.links))) ∙ sym (map-map blank_cell normal_blank h.contexts)))
      (sym (map-map edge_of normal_edge (normal_marks h)))
    where
      number : Node ℕ → Node ℕ
      number = numbered_by (class_of (graph_of h).fusions) (graph_of h)

      ports : (l : List ℕ) → map number (map inner l) ≡ map inner (map (λ x. number_in h (inner x)) l)
      ports l = map-map number inner l ∙ sym (map-map inner (λ x. number_in h (inner x)) l)

-- Within its limits, and with links that are all among those read, it can be read back.
module _ (kind : Kind) (pattern : List ℕ) (single : is_list kind ≡ false) (h : Held) (w : WithinLimits kind h) (A : Agrees h) (s : Sound kind pattern h.contexts) where
  few-classes : class_total (graph_of h) ≤ link_limit kind
  few-classes = omega (arith, text-links h (links-known kind h w A), w.links)

  small : link_limit kind ≤ most_number
  small = go kind
    where
      go : (k : Kind) → link_limit k ≤ most_number
      go Plain = omega arith
      go Pattern = omega arith
      go Figure = omega arith
      go Replacement = omega arith
      go Fillings = omega arith

  few-atoms : atom_limit kind ≤ sheet_atom_limit
  few-atoms = (limits-most kind).0

  mark-in-range : (m : ℕ) → m ∈ normal_marks h → MarkRange m
  mark-in-range m i =
      let t = graph-name h (free m) (marks-of (nodes (graph_of h)) m i) in
      let p : free m ≡ free t.0.1 = t.2 in
      let q : m ≡ t.0.1 = cc in
      rw q (every-member EdgeRange h.edges t.0 w.ranges.edges t.1).1

  stock : Stock kind (up_to (class_total (graph_of h))) (normal_marks h)
  stock =
      record {
        joint-range = λ x i. let t = up_to-of (class_total (graph_of h)) x i in (t.0, omega (arith, few-classes, small));
        mark-range = mark-in-range;
        few-joints = rw up_to-length few-classes;
        few-marks = few-marks kind h w A;
      }

  number-in : (x : Node ℕ) → x ∈ shown (graph_of h) → number_in h x ∈ up_to (class_total (graph_of h))
  number-in x i = let t = number-range (class_of (graph_of h).fusions) (graph_of h) x i in up_to-in (class_total (graph_of h)) (number_in h x) t.0 t.1

  cell-known : (c : Cell ℕ) (l : List ℕ) → c ∈ (graph_of h).atoms → c.ports ≡ map inner l → (x : ℕ) → x ∈ map (λ y. number_in h (inner y)) l → x ∈ up_to (class_total (graph_of h))
  cell-known c l i e = all_map (λ y. number_in h (inner y)) l (λ x. x ∈ up_to (class_total (graph_of h)))
      (λ y j. number-in (inner y) (port-shown (graph_of h) (ports-in c (inner y) i (subst (λ p. inner y ∈ p) (sym e) (Memᴰ.map inner j)))))

  ports-count : (count : ℕ) (links : List ℕ) → count ≤ most_links → length links ≡ most_links → length (numbered h count links) ≡ count
  ports-count count links p q = simp (length-map, length-take) (omega arith)

  symbol-fits : (a : Atom) → a ∈ h.atoms → Fitting (up_to (class_total (graph_of h))) most_name (normal_symbol h a)
  symbol-fits a i =
      let r = every-member AtomRange h.atoms a w.ranges.atoms i in
      record {
        name = r.name;
        count = omega (arith, ports-count a.count a.links r.count r.ports.width, r.count);
        known = cell-known (atom_cell a) (take a.count a.links) (Memᴰ.append_left (map context_cell h.contexts) (Memᴰ.map atom_cell i)) refl;
      }

  blank-count : (c : Context) → c ∈ h.contexts → length (numbered h c.count c.links) ≡ c.count
  blank-count c i = let r = every-member (ContextRange kind) h.contexts c w.ranges.contexts i in ports-count c.count c.links r.count r.ports.width

  blank-fits : (c : Context) → c ∈ h.contexts → Fitting (up_to (class_total (graph_of h))) most_context (normal_blank h c)
  blank-fits c i =
      let r = every-member (ContextRange kind) h.contexts c w.ranges.contexts i in
      record {
        name = r.number;
        count = omega (arith, blank-count c i, r.count);
        known = cell-known (context_cell c) (take c.count c.links) (Memᴰ.append_right (map atom_cell h.atoms) (Memᴰ.map context_cell i)) refl;
      }

  pub normal-readable : Readable kind pattern (map (normal_symbol h) h.atoms) (map (normal_blank h) h.contexts) (map (normal_edge h) (normal_marks h))
  normal-readable =
      record {
        single = single;
        joints = up_to (class_total (graph_of h));
        marks = normal_marks h;
        stock = stock;
        symbol-rows = every_in _ _ (all_map (normal_symbol h) h.atoms _ symbol-fits);
        blank-rows = every_in _ _ (all_map (normal_blank h) h.contexts _ blank-fits);
        figure = every_in _ _ (all_map (normal_blank h) h.contexts (λ v. is_figure kind ≡ true) (λ c i. every-member (λ d. is_figure kind ≡ true) h.contexts c s.figure i));
        edge-rows = every_in _ _ (all_map (normal_edge h) (normal_marks h) (EdgeAmong (up_to (class_total (graph_of h))) (normal_marks h)) (λ m i. (number-in (mark_node m) (mark-shown (graph_of h) m i), i)));
        few-symbols = simp length-map w.atoms;
        few-blanks = simp length-map w.contexts;
        few-rows = simp length-map (omega (arith, few-atoms, few-marks kind h w A, w.atoms, w.contexts));
        clear = rw (map-map ports_at (normal_blank h) h.contexts, map-agree (λ c. ports_at (normal_blank h c)) ports_in h.contexts (λ c i. ap (λ n. (c.number, n)) (blank-count c i))) s.clear;
      }
