-- The list that a placing gives holds, for each blank of the pattern, what is given to it, as arrays.
use Prim.Native.Nat.{ℕ}
use mathlib.Core.Path.{◌≡◌, refl, ap, sym, ◌∙◌, subst}
use mathlib.Core.List.Memᴰ
use mathlib.Core.List.{List, map, map-map}
use native.Mathlib.Omega.{arith}
use lib.ListN.{length, take, length-map}
use lib.Seq.{length-take-le}
use Rattle.hyperlmntal.specs.Link.{◌∈◌}
use Rattle.hyperlmntal.specs.Hypergraph.{inner}
use Rattle.hyperlmntal.proofs.Lists.{map-agree}
use Rattle.rows.specs.Format.{most_links}
use Rattle.rows.specs.Limits.{sheet_atom_limit, atom_room, mark_room}
use Rattle.rows.specs.Held.{Held}
use Rattle.rows.specs.Packed.{padded, no_atom}
use Rattle.rows.specs.declared.Atom.{Atom}
use Rattle.rows.specs.declared.Context.{Context}
use Rattle.rows.specs.declared.Sheet as form
use Rattle.rows.proofs.Padding.{take-padded}
use Rattle.reading.specs.Graph.{graph_of}
use Rattle.reading.specs.Normal.{class_of, marked_by, normal_form_by, normal_form}
use Rattle.reading.specs.NormalSheet.{normal_atom, normal_marks, packed_normal}
use Rattle.sheet.specs.declared.kind.Kind.{Kind}
use Rattle.sheet.specs.declared.kind.Kind.TheVariants.{Fillings}
use Rattle.sheet.specs.HeldLimits.{AtomRange, WithinLimits}
use Rattle.normalising.proofs.normal_text.NormalWritten.{taken-padded}
use Rattle.texts.proofs.BuiltRows.{held_atom}
use Rattle.texts.proofs.NormalFits.{every-member}
use Rattle.texts.proofs.NormalTwice.{normal-idempotent}
use Rattle.placing.specs.Net.{NetCell, Net, edge_numbers, net_of, normal_net}
use Rattle.placing.specs.Placing.{Placing}
use Rattle.placing.specs.Fillings.{Filling, rows_graph, filling_for, fillings_of, normal_rows, normal_filling, normal_fillings_of}
use Rattle.placing.specs.ListText.{list_text}
use Rattle.placing.specs.ListFits.{ListFits, Ordered}
use Rattle.placing.proofs.NormalFillings.{normal-rows-graph}
use Rattle.placing.proofs.NormalNets.{atom_numbers, link_number, normal-atoms}
use Rattle.placing.proofs.Orders.{by-number-in}
use Rattle.placing.proofs.Standing.{context-link}
use Rattle.network.specs.NetIn.{net_in}
use Rattle.network.specs.Ready.{Ready}
use Rattle.filling.specs.Parts.{without_heads}
use Rattle.filling.specs.Read.{rows_read, part_held, filling_read, list_held}
use Rattle.filling.proofs.Back.{net-ordered, list_back}
use Rattle.filling.proofs.Parts.{part-within}
use Rattle.filling.proofs.Rows.{read-graph}
use Rattle.listing.specs.Writing.{placing_in, fillings_text, given_cells, port_links, stands_at}
use Rattle.listing.proofs.FillingRows.{rows_of, filling-atoms, filling-marked}
use Rattle.listing.proofs.Given.{filling-rows}
use Rattle.swapping.specs.Given.{numbered_cell, number_for, GivenPart}

-- Atoms of one name.
atom-≡ : {name k n : ℕ} {l m : List ℕ} → k ≡ n → l ≡ m → ◌≡◌ {A = Atom} (record { name = name; count = k; links = l }) (record { name = name; count = n; links = m })
atom-≡ {name} p q i = record { name = name; count = p i; links = q i }

-- The arrays of a normal form, by its net.
module _ (kind : Kind) (h : Held) (w : WithinLimits kind h) where
  atom-held : (a : Atom) → a ∈ h.atoms → normal_atom h a ≡ held_atom (atom_numbers (link_number h) a)
  atom-held a m =
      let r = every-member AtomRange h.atoms a w.ranges.atoms m in
      let l = take a.count a.links in
      atom-≡ (sym (length-map (map inner l) (link_number h) ∙ length-map l inner ∙ length-take-le a.count a.links (omega (arith, r.count, r.ports.width))))
      (ap (padded most_links 0) (sym (map-map (link_number h) inner l)))

  atoms-by-net : take (packed_normal h).atom_count (packed_normal h).atoms ≡ map held_atom (normal_net h).atoms
  atoms-by-net =
      ap (λ k. take k (packed_normal h).atoms) (sym (length-map h.atoms (normal_atom h))) ∙ take-padded atom_room no_atom (map (normal_atom h) h.atoms)
      ∙ map-agree (normal_atom h) (λ a. held_atom (atom_numbers (link_number h) a)) h.atoms atom-held
      ∙ sym (map-map held_atom (atom_numbers (link_number h)) h.atoms) ∙ ap (map held_atom) (sym (normal-atoms h))

marked-by-net : (h : Held) → padded mark_room 0 (map (λ e. e.0) (normal_net h).marks) ≡ (packed_normal h).marked
unfolding normal_form normal_form_by
marked-by-net h =
    ap (padded mark_room 0)
    (map-map (λ (e : ℕ × ℕ). e.0) edge_numbers (map (marked_by (class_of (graph_of h).fusions) (graph_of h)) (normal_marks h))
    ∙ map-map (λ e. (edge_numbers e).0) (marked_by (class_of (graph_of h).fusions) (graph_of h)) (normal_marks h))

-- The rows of a normal filling in a list are read as they are, so their net is that of the rows before they were numbered.
module _ (θ : List Filling) (fits : ListFits θ) (ordered : (f : Filling) → f ∈ θ → Ordered f.rows) (f : Filling) (m : normal_filling f ∈ θ) where
  rows-there : rows_read (part_held (list_text θ) f.number) ≡ normal_rows f.rows
  rows-there =
      let t : (c : Context) × (c ∈ (list_held (list_text θ)).contexts) × (filling_read (list_text θ) c ≡ normal_filling f) =
      Memᴰ.of_map (filling_read (list_text θ)) (list_held (list_text θ)).contexts (subst (λ l. normal_filling f ∈ l) (sym (list_back θ fits ordered)) m) in
      ap (λ n. rows_read (part_held (list_text θ) n)) (sym (ap (λ g. g.number) t.2)) ∙ ap (λ g. g.rows) t.2

  part-net : normal_net (without_heads (part_held (list_text θ) f.number)) ≡ net_of (normal_form (rows_graph f.rows))
  part-net =
      ap (λ G. net_of (normal_form G)) (sym (read-graph (part_held (list_text θ) f.number)) ∙ ap rows_graph rows-there ∙ normal-rows-graph f.rows)
      ∙ ap net_of (normal-idempotent (rows_graph f.rows))

module _ (sheet pattern : form.Sheet) (ready : Ready sheet pattern) (atoms links given : List ℕ) (room : length given ≡ sheet_atom_limit)
    (fits : ListFits (normal_fillings_of (net_in sheet) (placing_in sheet pattern atoms links given) (net_in pattern))) where
  abbrev S : Net
  S = net_in sheet

  abbrev p : Placing
  p = placing_in sheet pattern atoms links given

  ordered : (f : Filling) → f ∈ normal_fillings_of S p (net_in pattern) → Ordered f.rows
  ordered f i =
      let t : (g : Filling) × (g ∈ fillings_of S p (net_in pattern)) × (normal_filling g ≡ f) = Memᴰ.of_map normal_filling (fillings_of S p (net_in pattern)) i in
      subst (λ g. Ordered g.rows) t.2 (net-ordered (net_of (normal_form (rows_graph t.0.rows))))

  -- One blank.
  module _ (c : NetCell) (m : c ∈ (net_in pattern).contexts) where
    abbrev h : Held
    h = without_heads (part_held (fillings_text sheet pattern atoms links given) c.0)

    abbrev cells : List NetCell
    cells = given_cells sheet given c.0

    abbrev ports : List ℕ
    ports = port_links sheet links c.1

    net-given : normal_net h ≡ net_of (normal_form (rows_graph (rows_of cells ports)))
    net-given =
        part-net (normal_fillings_of S p (net_in pattern)) fits ordered (filling_for S p c) (Memᴰ.map normal_filling (Memᴰ.map (filling_for S p) (by-number-in (net_in pattern).contexts c m)))
        ∙ ap (λ r. net_of (normal_form (rows_graph r))) (filling-rows sheet pattern ready.sheet-fit atoms links given room c (λ x k. context-link (net_in pattern) ready.figure-normal c x m k))

    abbrev number : ℕ → ℕ
    number = number_for sheet links given c

    given-atoms : take (packed_normal h).atom_count (packed_normal h).atoms ≡ map (numbered_cell number) cells
    given-atoms =
        atoms-by-net Fillings h (part-within (fillings_text sheet pattern atoms links given) c.0) ∙ ap (λ N. map held_atom N.atoms) net-given ∙ ap (map held_atom) (filling-atoms cells ports)
        ∙ map-map held_atom (λ d. (d.0, map number d.1)) cells
        ∙ map-agree (λ d. held_atom (d.0, map number d.1)) (numbered_cell number) cells (λ d i. atom-≡ (length-map d.1 number) refl)

    given-marked : take (length c.1) (packed_normal h).marked ≡ map number ports
    given-marked =
        ap (take (length c.1)) (sym (marked-by-net h) ∙ ap (λ N. padded mark_room 0 (map (λ e. e.0) N.marks)) net-given ∙ ap (padded mark_room 0) (filling-marked cells ports))
        ∙ taken-padded mark_room (map number ports) (length c.1) (length-map ports number ∙ length-map c.1 (stands_at sheet.class_count links))

  -- The list that a placing gives holds, for each blank of the pattern, what is given to it.
  pub given-part : (c : NetCell) → c ∈ (net_in pattern).contexts → GivenPart sheet links given (fillings_text sheet pattern atoms links given) c
  given-part c m = record { atoms = given-atoms c m; marked = given-marked c m }
