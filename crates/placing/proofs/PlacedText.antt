-- The list of fillings of a good placing of texts that passed is a text that passes as a list of fillings.
use Prim.Native.Nat.{ℕ, zero, suc, ◌≤◌}
use mathlib.Core.Path.{◌≡◌, refl, sym, ap, ◌∙◌, subst}
use mathlib.Core.List.Memᴰ
use mathlib.Core.List.{List, [], ◌∷◌, ◌++◌, map}
use mathlib.Core.Logic.{◌↔◌, ⊎_elim}
use native.Mathlib.Omega.{arith}
use lib.ListN.{length, take, length-map, length-take}
use Rattle.hyperlmntal.specs.Link.{◌∈◌}
use Rattle.hyperlmntal.specs.Hypergraph.{Node, inner, nodes}
use Rattle.rows.specs.Format.{most_links, most_name, most_context}
use Rattle.rows.specs.Held.{Held}
use Rattle.rows.specs.declared.Atom.{Atom}
use Rattle.rows.specs.declared.Context.{Context}
use Rattle.rows.specs.Ranges.{Within}
use Rattle.reading.specs.Graph.{graph_of}
use Rattle.reading.specs.Agrees.{Agrees}
use Rattle.sheet.specs.Filling.{filling_of}
use Rattle.sheet.specs.Reading.{outcome_of, no_ports}
use Rattle.sheet.specs.declared.kind.Kind.TheVariants.{Plain, Pattern, Fillings}
use Rattle.sheet.specs.declared.answer.Answer.TheVariants.{Passed}
use Rattle.sheet.specs.HeldLimits.{AtomRange, ContextRange}
use Rattle.sheet.proofs.read.HeldLimits.{held-within}
use Rattle.reading.proofs.normal.Connected.{agrees-read, atom-links, context-links, edge-links}
use Rattle.reading.proofs.normal.TextGraph.{Linked}
use Rattle.reading.proofs.normal.NormalBounds.{normal-range, text-links}
use Rattle.reading.proofs.normal.Merging.{among_in}
use Rattle.placing.specs.Net.{NetCell, Range, standing, normal_net}
use Rattle.placing.specs.Placing.{Placing, Good}
use Rattle.placing.specs.Fillings.{Row, symbol_row, point_row, edge_row, Filling, Fits, normal_fillings_of}
use Rattle.placing.specs.ListText.{rows_text, head_text, list_text}
use Rattle.placing.specs.TextNets.{sheet_held, pattern_held, sheet_net, pattern_net}
use Rattle.placing.specs.ListFits.{ListFits, edges_in, part_of}
use Rattle.texts.proofs.NormalFits.{every-member}
use Rattle.placing.proofs.NormalNets.{standing-node, atom_numbers, context_numbers, link_number, normal-graph, normal-atoms, normal-contexts, normal-net}
use Rattle.placing.proofs.Theorems.{sheet-net, pattern-net, text-placing-fillings}
use Rattle.placing.proofs.ListBack.{list-passes}
use Rattle.placing.proofs.ListParts.{list-part, part-passes, part-edges}
use Rattle.placing.proofs.PlacedList.{Small, placed-fits}

-- The E rows among rows.
edge_in : (r : List Row) (x m : ℕ) → edge_row x m ∈ r → (x, m) ∈ edges_in r
edge_in [] x m i = absurd (Memᴰ.not-nil i)
edge_in (symbol_row a l ∷ r) x m i = ⊎_elim (λ e. absurd (let z : ◌≡◌ {A = ℕ} 0 1 = cc in omega arith)) (λ k. edge_in r x m k) (Memᴰ.cases_cons i)
edge_in (point_row a b ∷ r) x m i = ⊎_elim (λ e. absurd (let z : ◌≡◌ {A = ℕ} 0 1 = cc in omega arith)) (λ k. edge_in r x m k) (Memᴰ.cases_cons i)
edge_in (edge_row y n ∷ r) x m i =
    ⊎_elim (λ e. Memᴰ.head (let p : x ≡ y = cc in let q : m ≡ n = cc in ap (λ z. (z, m)) p ∙ ap (λ z. (y, z)) q)) (λ k. Memᴰ.tail (edge_in r x m k)) (Memᴰ.cases_cons i)

edge-out : (r : List Row) (x m : ℕ) → (x, m) ∈ edges_in r → edge_row x m ∈ r
edge-out [] x m i = absurd (Memᴰ.not-nil i)
edge-out (symbol_row a l ∷ r) x m i = Memᴰ.tail (edge-out r x m i)
edge-out (point_row a b ∷ r) x m i = Memᴰ.tail (edge-out r x m i)
edge-out (edge_row y n ∷ r) x m i =
    ⊎_elim (λ e. Memᴰ.head (ap (λ z. edge_row z.0 z.1) e)) (λ k. Memᴰ.tail (edge-out r x m k)) (Memᴰ.cases_cons i)

-- A normal net has no more links than its text.
module _ (h : Held) (A : Agrees h) where
  linked : Linked h h.wiring.links
  linked =
      record {
        atoms = λ a i n j. among_in n h.wiring.links (atom-links h A a i n j);
        contexts = λ c i n j. among_in n h.wiring.links (context-links h A c i n j);
        edges = λ e i. among_in e.0 h.wiring.links (edge-links h A e i).0;
      }

  net-links : (normal_net h).links ≤ length h.wiring.links
  net-links = at (normal_net h).links (λ x r. (normal-net h).used x r)
    where
      at : (n : ℕ) → ((x : ℕ) → Range n x → x ∈ standing (normal_net h)) → n ≤ length h.wiring.links
      at zero f = omega arith
      at (suc n) f =
          let m = f (suc n) (omega arith, omega arith) in
          let r = normal-range (graph_of h) (suc n) (subst (λ G. inner (suc n) ∈ nodes G) (normal-graph h) (standing-node (normal_net h) (suc n) m)) in
          omega (arith, r.1, text-links h linked)

numbers-count : (f : Node ℕ → ℕ) (count : ℕ) (links : List ℕ) → count ≤ most_links → length (map f (map inner (take count links))) ≤ most_links
numbers-count f count links h =
    let a = length-map (map inner (take count links)) f in
    let b = length-map (take count links) inner in
    let c = length-take count links in
    omega arith

module _ (sheet pattern : List ℕ) where
  text-cells : (c : NetCell) → c ∈ (sheet_net sheet).atoms → Within 1 c.0 most_name × (length c.1 ≤ most_links)
  text-cells c m =
      let f = link_number (sheet_held sheet) in
      let t : (a : Atom) × (a ∈ (sheet_held sheet).atoms) × (atom_numbers f a ≡ c) = Memᴰ.of_map (atom_numbers f) (sheet_held sheet).atoms (subst (λ l. c ∈ l) (normal-atoms (sheet_held sheet)) m) in
      let r = every-member AtomRange (sheet_held sheet).atoms t.0 (held-within Plain no_ports sheet).ranges.atoms t.1 in
      subst (λ z. Within 1 z.0 most_name × (length z.1 ≤ most_links)) t.2 (r.name, numbers-count f t.0.count t.0.links r.count)

  text-contexts : (c : NetCell) → c ∈ (pattern_net pattern).contexts → Within 1 c.0 most_context × (length c.1 ≤ most_links)
  text-contexts c m =
      let f = link_number (pattern_held pattern) in
      let t : (b : Context) × (b ∈ (pattern_held pattern).contexts) × (context_numbers f b ≡ c) = Memᴰ.of_map (context_numbers f) (pattern_held pattern).contexts (subst (λ l. c ∈ l) (normal-contexts (pattern_held pattern)) m) in
      let r = every-member (ContextRange Pattern) (pattern_held pattern).contexts t.0 (held-within Pattern no_ports pattern).ranges.contexts t.1 in
      subst (λ z. Within 1 z.0 most_context × (length z.1 ≤ most_links)) t.2 (r.number, numbers-count f t.0.count t.0.links r.count)

  pub text-small : Small (sheet_net sheet) (pattern_net pattern)
  text-small =
      record {
        links = omega (arith, net-links (sheet_held sheet) (agrees-read Plain no_ports sheet refl), (held-within Plain no_ports sheet).links);
        atoms = omega (arith, ap length (normal-atoms (sheet_held sheet)) ∙ length-map (sheet_held sheet).atoms (atom_numbers (link_number (sheet_held sheet))), (held-within Plain no_ports sheet).atoms);
        cells = text-cells;
        blanks = text-contexts;
      }

  module _ (a : (outcome_of Plain no_ports sheet).answer ≡ Passed) (b : (outcome_of Pattern no_ports pattern).answer ≡ Passed) (p : Placing) (good : Good (sheet_net sheet) (pattern_net pattern) p) where
    pub text-fits : ListFits (normal_fillings_of (sheet_net sheet) p (pattern_net pattern))
    text-fits = placed-fits (sheet_net sheet) (pattern_net pattern) (sheet-net sheet a) (pattern-net pattern b) text-small p good

    -- The list of fillings that a good placing gives passes as a list of fillings.
    pub placed-list-passes : (outcome_of Fillings no_ports (list_text (normal_fillings_of (sheet_net sheet) p (pattern_net pattern)))).answer ≡ Passed
    placed-list-passes = list-passes (normal_fillings_of (sheet_net sheet) p (pattern_net pattern)) text-fits

    -- One filling for each blank, its marks exactly that blank's ports.
    pub placed-list-fits : Fits (pattern_net pattern) (normal_fillings_of (sheet_net sheet) p (pattern_net pattern))
    placed-list-fits = (text-placing-fillings sheet pattern a b p good).0

    -- The part that is one blank's filling passes on its own, and the marks that it holds are exactly that blank's ports.
    module _ (f : Filling) (i : f ∈ normal_fillings_of (sheet_net sheet) p (pattern_net pattern)) where
      pub placed-part : filling_of (list_text (normal_fillings_of (sheet_net sheet) p (pattern_net pattern))) f.number ≡ head_text f ++ rows_text f.rows
      placed-part = list-part (normal_fillings_of (sheet_net sheet) p (pattern_net pattern)) text-fits f i

      pub placed-part-passes : (part_of (normal_fillings_of (sheet_net sheet) p (pattern_net pattern)) f).answer ≡ Passed
      placed-part-passes = part-passes (normal_fillings_of (sheet_net sheet) p (pattern_net pattern)) text-fits f i

      pub placed-part-marks : (m : ℕ) → Range f.ports m ↔ ((x : ℕ) × ((x, m) ∈ (part_of (normal_fillings_of (sheet_net sheet) p (pattern_net pattern)) f).held.edges))
      placed-part-marks m = (
        λ h. let t = (placed-list-fits.exact f i).every m h in (t.0, subst (λ l. (t.0, m) ∈ l) (sym edges) (edge_in f.rows t.0 m t.1)),
        λ t. (placed-list-fits.exact f i).within t.0 m (edge-out f.rows t.0 m (subst (λ l. (t.0, m) ∈ l) edges t.1)),
      )
        where
          edges : (part_of (normal_fillings_of (sheet_net sheet) p (pattern_net pattern)) f).held.edges ≡ edges_in f.rows
          edges = part-edges (normal_fillings_of (sheet_net sheet) p (pattern_net pattern)) text-fits f i
