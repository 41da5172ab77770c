-- The arrays of a text that was read: their net is that of the text's normal form, and they fit.
use Prim.Native.Nat.{ℕ, zero, suc, ◌-◌, ◌≤◌, ◌<◌}
use mathlib.Core.Path.{◌≡◌, refl, ap, ap₂, sym, ◌∙◌, subst}
use mathlib.Core.Logic.{◌⊎◌, inl, inr}
use mathlib.Core.Bool.{false, true≢false}
use mathlib.Core.List.Memᴰ
use mathlib.Core.List.{List, [], ◌∷◌, map, map-map}
use native.Mathlib.Omega.{arith}
use lib.ListN.{length, get_or, take, length-map}
use lib.Seq.{length-take-le, get_or-take}
use Rattle.hyperlmntal.specs.Link.{◌∈◌}
use Rattle.hyperlmntal.specs.Hypergraph.{Node, inner, port_nodes, nodes}
use Rattle.hyperlmntal.proofs.Lists.{map-agree}
use Rattle.hyperlmntal.proofs.Flats.{on-atoms, on-fusions, ends-in}
use Rattle.rows.specs.Format.{most_links}
use Rattle.rows.specs.Limits.{sheet_atom_limit, sheet_link_limit, atom_room, context_room, mark_room}
use Rattle.rows.specs.Held.{Held, index_of}
use Rattle.rows.specs.Packed.{padded, no_atom, no_context}
use Rattle.rows.proofs.Padding.{length-padded, take-padded}
use Rattle.sheet.specs.Kinds.{is_list, link_limit}
use Rattle.reading.specs.Graph.{graph_of}
use Rattle.reading.specs.Agrees.{Agrees}
use Rattle.sheet.specs.Reading.{outcome_of}
use Rattle.reading.specs.Normal.{class_of, mark_node, marks_of, shown, distinct, classes_by, number_by, numbered_by, marked_by, normal_form_by, normal_form}
use Rattle.reading.specs.NormalSheet.{number_in, normal_atom, normal_context, normal_marks, packed_normal}
use Rattle.normalising.specs.NormalRows.{past_atoms, past_contexts}
use Rattle.sheet.specs.declared.kind.Kind.{Kind}
use Rattle.sheet.specs.declared.kind.Kind.TheVariants.{Plain, Pattern, Figure, Replacement, Fillings}
use Rattle.sheet.specs.HeldLimits.{AtomRange, ContextRange, WithinLimits}
use Rattle.reading.proofs.normal.Merging.{at-index_of, get_d-in}
use Rattle.reading.proofs.normal.Distinct.{index_below, distinct-in, distinct_of, distinct-once, once-length}
use Rattle.sheet.proofs.read.HeldLimits.{held-within}
use Rattle.sheet.proofs.read.Room.{limits-most}
use Rattle.reading.proofs.normal.Connected.{atom-port, context-port, agrees-read}
use Rattle.reading.proofs.normal.NormalNodes.{form-ports}
use Rattle.reading.proofs.normal.NormalBy.{port-shown, mark-shown}
use Rattle.reading.proofs.normal.NormalBounds.{class_total, number-range, normal-range, text-links}
use Rattle.normalising.proofs.normal_text.NormalWritten.{mapped_at, taken-padded, number, used-links, atom-at, context-at, marked-at, atom-range, context-range, atom-room, context-room, links-known, few-marks}
use Rattle.texts.proofs.NormalFits.{every-member, up_to, up_to-length, up_to-in}
use Rattle.placing.specs.Net.{NetCell, Net, Range, standing, edge_numbers, normal_net, Normal}
use Rattle.placing.proofs.NormalNets.{standing-node, node-standing, atom_numbers, context_numbers, link_number, normal-graph, normal-atoms, normal-contexts, normal-net}
use Rattle.network.specs.NetIn.{atom_in, context_in, paired, net_in, context_at, Used, Fit}
use Rattle.network.proofs.NetIn.{used-numbered}

-- As many classes as links of the net.
module _ (h : Held) where
  abbrev label : Node ℕ → ℕ
  label = class_of (graph_of h).fusions

  -- the number of a node that is shown stands in the net
  shown-standing : (x : Node ℕ) → x ∈ shown (graph_of h) → link_number h x ∈ standing (normal_net h)
  unfolding normal_form normal_form_by
  shown-standing x m = node-standing (normal_net h) (link_number h x) (subst (λ G. inner (link_number h x) ∈ nodes G) (sym (normal-graph h)) (side (Memᴰ.append_cases (port_nodes (graph_of h).atoms) m)))
    where
      side : (x ∈ port_nodes (graph_of h).atoms) ⊎ (x ∈ map mark_node (marks_of (graph_of h))) → inner (link_number h x) ∈ nodes (normal_form (graph_of h))
      side (inl k) = on-atoms (normal_form (graph_of h)) (subst (λ l. inner (link_number h x) ∈ l) (sym (form-ports label (graph_of h))) (Memᴰ.map (numbered_by label (graph_of h)) k))
      side (inr k) =
          let t : (m : ℕ) × (m ∈ marks_of (graph_of h)) × (mark_node m ≡ x) = Memᴰ.of_map mark_node (marks_of (graph_of h)) k in
          on-fusions (normal_form (graph_of h)) (Memᴰ.cast (ap (λ y. inner (link_number h y)) (sym t.2)) (ends-in {e = marked_by label (graph_of h) t.0} (Memᴰ.map (marked_by label (graph_of h)) t.1)).0)

  -- every class is that of a number up to the number of links
  few-classes : class_total (graph_of h) ≤ (normal_net h).links
  unfolding classes_by number_by
  few-classes =
      let l = distinct (map label (shown (graph_of h))) in
      let e = once-length l (map (λ (n : ℕ). get_or l (n - 1) 0) (up_to (normal_net h).links)) (distinct-once (map label (shown (graph_of h)))) (λ c m. there c (Memᴰ.of_map label (shown (graph_of h)) (distinct_of c (map label (shown (graph_of h))) m))) in
      omega (arith, e, length-map (up_to (normal_net h).links) (λ (n : ℕ). get_or l (n - 1) 0), up_to-length (normal_net h).links)
    where
      there : (c : ℕ) → (x : Node ℕ) × (x ∈ shown (graph_of h)) × (label x ≡ c) → c ∈ map (λ (n : ℕ). get_or (distinct (map label (shown (graph_of h)))) (n - 1) 0) (up_to (normal_net h).links)
      there c t =
          let l = distinct (map label (shown (graph_of h))) in
          let r = (normal-net h).numbered (link_number h t.0) (shown-standing t.0 t.1) in
          let m = Memᴰ.map (λ (n : ℕ). get_or l (n - 1) 0) (up_to-in (normal_net h).links (link_number h t.0) r.0 r.1) in
          let i = index_below (label t.0) l (distinct-in (label t.0) (map label (shown (graph_of h))) (Memᴰ.map label t.1)) in
          let e : get_or l (index_of (label t.0) l) 0 ≡ label t.0 = at-index_of (label t.0) l i in
          let q : suc (index_of (label t.0) l) - 1 ≡ index_of (label t.0) l = omega arith in
          Memᴰ.cast (sym t.2 ∙ sym e ∙ ap (λ (n : ℕ). get_or l n 0) (sym q)) m

  few-links : (normal_net h).links ≤ class_total (graph_of h)
  few-links = at (normal_net h).links (λ x r. (normal-net h).used x r)
    where
      at : (n : ℕ) → ((x : ℕ) → Range n x → x ∈ standing (normal_net h)) → n ≤ class_total (graph_of h)
      at zero f = omega arith
      at (suc n) f =
          let m = f (suc n) (omega arith, omega arith) in
          let r = normal-range (graph_of h) (suc n) (subst (λ G. inner (suc n) ∈ nodes G) (normal-graph h) (standing-node (normal_net h) (suc n) m)) in
          omega (arith, r.1)

  pub class-links : class_total (graph_of h) ≡ (normal_net h).links
  class-links = omega (arith, few-classes, few-links)

  marks-paired : (l : List ℕ) → paired (map (λ m. number_in h (mark_node m)) l) l ≡ map edge_numbers (map (marked_by label (graph_of h)) l)
  marks-paired [] = refl
  marks-paired (m ∷ l) = ap (λ k. (number_in h (mark_node m), m) ∷ k) (marks-paired l)

  pub marks-read : (net_in (packed_normal h)).marks ≡ (normal_net h).marks
  unfolding normal_form normal_form_by
  marks-read =
      ap₂ paired (taken-padded mark_room (map (λ m. number_in h (mark_node m)) (normal_marks h)) (length (normal_marks h)) (length-map (normal_marks h) _)) (take-padded mark_room 0 (normal_marks h))
      ∙ marks-paired (normal_marks h)

pub net-≡ : {a a' c c' : List NetCell} {m m' : List (ℕ × ℕ)} {n n' : ℕ} → a ≡ a' → c ≡ c' → m ≡ m' → n ≡ n'
    → ◌≡◌ {A = Net} (record { atoms = a; contexts = c; marks = m; links = n }) (record { atoms = a'; contexts = c'; marks = m'; links = n' })
net-≡ a c m n i = record { atoms = a i; contexts = c i; marks = m i; links = n i }

-- The net.
module _ (kind : Kind) (h : Held) (w : WithinLimits kind h) where
  links-read : (count : ℕ) (links : List ℕ) → count ≤ length links → take count (padded most_links 0 (map (number h) (take count links))) ≡ map (link_number h) (map inner (take count links))
  links-read count links r = used-links h count links r ∙ sym (map-map (link_number h) inner (take count links))

  atoms-read : (net_in (packed_normal h)).atoms ≡ (normal_net h).atoms
  atoms-read =
      ap (map atom_in) (ap (λ k. take k (padded atom_room no_atom (map (normal_atom h) h.atoms))) (sym (length-map h.atoms (normal_atom h))) ∙ take-padded atom_room no_atom (map (normal_atom h) h.atoms))
      ∙ map-map atom_in (normal_atom h) h.atoms
      ∙ map-agree (λ a. atom_in (normal_atom h a)) (atom_numbers (link_number h)) h.atoms (λ a m.
      let r = every-member AtomRange h.atoms a w.ranges.atoms m in
      ap (λ l. (a.name, l)) (links-read a.count a.links (omega (arith, r.count, r.ports.width))))
      ∙ sym (normal-atoms h)

  contexts-read : (net_in (packed_normal h)).contexts ≡ (normal_net h).contexts
  contexts-read =
      ap (map context_in) (ap (λ k. take k (padded context_room no_context (map (normal_context h) h.contexts))) (sym (length-map h.contexts (normal_context h))) ∙ take-padded context_room no_context (map (normal_context h) h.contexts))
      ∙ map-map context_in (normal_context h) h.contexts
      ∙ map-agree (λ c. context_in (normal_context h c)) (context_numbers (link_number h)) h.contexts (λ c m.
      let r = every-member (ContextRange kind) h.contexts c w.ranges.contexts m in
      ap (λ l. (c.number, l)) (links-read c.count c.links (omega (arith, r.count, r.ports.width))))
      ∙ sym (normal-contexts h)

  pub net-held : net_in (packed_normal h) ≡ normal_net h
  net-held = net-≡ atoms-read contexts-read (marks-read h) (class-links h)

-- A sheet or a figure has at most as many links as a sheet may have.
links-most : (kind : Kind) → is_list kind ≡ false → link_limit kind ≤ sheet_link_limit
links-most Plain e = omega arith
links-most Pattern e = omega arith
links-most Figure e = omega arith
links-most Replacement e = omega arith
links-most Fillings e = absurd (true≢false e)

module _ (kind : Kind) (h : Held) (w : WithinLimits kind h) (A : Agrees h) (plain : is_list kind ≡ false) where
  used-held : (count : ℕ) (links : List ℕ) → count ≤ most_links → count ≤ length links → ((j : ℕ) → j < count → inner (get_or links j 0) ∈ port_nodes (graph_of h).atoms)
      → Used (class_total (graph_of h)) count (padded most_links 0 (map (number h) (take count links)))
  used-held count links few room ports =
      let n : length (take count links) ≡ count = length-take-le count links room in
      record {
        few = few;
        width = length-padded most_links 0 (map (number h) (take count links)) (omega (arith, length-map (take count links) (number h)));
        numbered = λ k p. subst (Range (class_total (graph_of h))) (sym (mapped_at (number h) most_links 0 (take count links) k 0 0 (omega arith) ∙ ap (number h) (get_or-take count links k 0 p)))
            (number-range (class_of (graph_of h).fusions) (graph_of h) (inner (get_or links k 0)) (port-shown (graph_of h) (ports k p)));
      }

  pub context-held : (k : ℕ) → k < length h.contexts → let c = context_at (packed_normal h) k in Used (class_total (graph_of h)) c.count c.links
  context-held k p =
      let c = get_or h.contexts k past_contexts in
      rw (context-at h k p) (used-held c.count c.links (context-range kind h w k p).count (context-room kind h w k p) (λ j q. context-port h k j past_contexts p q (omega (arith, context-room kind h w k p))))

  pub fit-held : Fit (packed_normal h)
  fit-held =
      let atoms : length h.atoms ≤ sheet_atom_limit = omega (arith, w.atoms, (limits-most kind).0) in
      record {
        atom-count = atoms;
        context-count = w.contexts;
        mark-count = few-marks kind h w A;
        class-count = omega (arith, text-links h (links-known kind h w A), w.links, links-most kind plain);
        atom-room = length-padded atom_room no_atom (map (normal_atom h) h.atoms) (omega (arith, length-map h.atoms (normal_atom h)));
        context-room = length-padded context_room no_context (map (normal_context h) h.contexts) (omega (arith, w.contexts, length-map h.contexts (normal_context h)));
        mark-room = length-padded mark_room 0 (normal_marks h) (omega (arith, few-marks kind h w A));
        marked-room = length-padded mark_room 0 (map (λ m. number_in h (mark_node m)) (normal_marks h)) (omega (arith, few-marks kind h w A, length-map (normal_marks h) (λ m. number_in h (mark_node m))));
        atoms = λ k p.
            let a = get_or h.atoms k past_atoms in
            rw (atom-at h k p) (used-held a.count a.links (atom-range kind h w k p).count (atom-room kind h w k p) (λ j q. atom-port h k j past_atoms p q (omega (arith, atom-room kind h w k p))));
        contexts = λ k p. used-numbered _ _ _ (context-held k p);
        marked = λ k p. subst (Range (class_total (graph_of h))) (sym (marked-at h k p)) (number-range (class_of (graph_of h).fusions) (graph_of h) (mark_node (get_or (normal_marks h) k 0)) (mark-shown (graph_of h) (get_or (normal_marks h) k 0) (get_d-in (normal_marks h) k 0 p)));
      }

-- What a reader hands back, passed or not.
pub net-read : (kind : Kind) (pattern text : List ℕ) → net_in (packed_normal (outcome_of kind pattern text).held) ≡ normal_net (outcome_of kind pattern text).held
net-read kind pattern text = net-held kind (outcome_of kind pattern text).held (held-within kind pattern text)

pub fit-read : (kind : Kind) (pattern text : List ℕ) → is_list kind ≡ false → Fit (packed_normal (outcome_of kind pattern text).held)
fit-read kind pattern text plain = fit-held kind (outcome_of kind pattern text).held (held-within kind pattern text) (agrees-read kind pattern text plain) plain

-- a context of what was read has at most as many links as a row
pub narrow-read : (kind : Kind) (pattern text : List ℕ) → is_list kind ≡ false → let n = packed_normal (outcome_of kind pattern text).held in (k : ℕ) → k < n.context_count → Used n.class_count (context_at n k).count (context_at n k).links
narrow-read kind pattern text plain = context-held kind (outcome_of kind pattern text).held (held-within kind pattern text) (agrees-read kind pattern text plain) plain

pub normal-read : (kind : Kind) (pattern text : List ℕ) → Normal (net_in (packed_normal (outcome_of kind pattern text).held))
normal-read kind pattern text = subst Normal (sym (net-read kind pattern text)) (normal-net (outcome_of kind pattern text).held)
