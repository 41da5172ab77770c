-- The net of a normal form whose vertices are all atoms: it is a normal sheet, and its links are the classes that do not vanish.
use Prim.Native.Nat.{ℕ, zero, suc, ◌≤◌}
use mathlib.Core.Path.{◌≡◌, refl, ap, ap₂, sym, ◌∙◌, subst}
use mathlib.Core.List.Memᴰ
use mathlib.Core.List.{List, [], ◌∷◌, map, map-map, append-nil}
use native.Mathlib.Omega.{arith}
use lib.ListN.{length, length-map}
use lib.Seq.{take-length}
use Rattle.hyperlmntal.specs.Link.{◌∈◌}
use Rattle.hyperlmntal.specs.Hypergraph.{Node, inner, Label, symbol, hole, Cell, Flat, nodes, map_cell}
use Rattle.hyperlmntal.specs.TermOf.{term_of}
use Rattle.hyperlmntal.proofs.Flats.{flat-≡, cell-≡}
use Rattle.rows.specs.Held.{Held, index_of, no_wiring}
use Rattle.rows.specs.declared.Atom.{Atom}
use Rattle.reading.specs.Graph.{atom_cell, edge_of, graph_of}
use Rattle.reading.specs.Normal.{class_of, marks_of, shown, distinct, classes_by, number_by, numbered_by, marked_by, normal_form_by, normal_form}
use Rattle.normalising.specs.NormalText.{node_number}
use Rattle.sheet.specs.HeldLimits.{Every}
use Rattle.reading.proofs.normal.Distinct.{Once, distinct_of, distinct-once, index_below, index-injective, once-length}
use Rattle.reading.proofs.normal.NormalBounds.{class_total, normal-range}
use Rattle.texts.proofs.NormalFits.{up_to, up_to-length, up_to-in}
use Rattle.texts.proofs.NormalTwice.{normal-idempotent}
use Rattle.placing.specs.Net.{Net, Range, standing, edge_numbers, net_of, normal_net, net_graph, net_term, NormalSheet}
use Rattle.placing.proofs.NormalNets.{atom_numbers, link_number, standing-node, node-standing, normal-graph, normal-atoms, normal-contexts, normal-net, shown-node}

-- Different numbers stay different under a function that keeps them apart.
pub once-map : (f : ℕ → ℕ) (l : List ℕ) → Once l → ((x y : ℕ) → x ∈ l → y ∈ l → f x ≡ f y → x ≡ y) → Once (map f l)
once-map f [] o h = tt
once-map f (x ∷ l) o h = (
  λ m. let t : (y : ℕ) × (y ∈ l) × (f y ≡ f x) = Memᴰ.of_map f l m in o.0 (Memᴰ.cast (h x t.0 (Memᴰ.head refl) (Memᴰ.tail t.1) (sym t.2)) t.1),
  once-map f l o.1 (λ y z i j. h y z (Memᴰ.tail i) (Memᴰ.tail j)),
)

-- Every vertex is an atom.
abbrev pub Atoms : List (Cell ℕ) → Type 0
Atoms l = Every (λ (c : Cell ℕ). (p : ℕ) × (c.label ≡ symbol p)) l

abbrev label_number : Label → ℕ
label_number (symbol p) = p
label_number (hole x) = x

abbrev as_atom : Cell ℕ → Atom
as_atom c = record { name = label_number c.label; count = length (map node_number c.ports); links = map node_number c.ports }

cells-back : (f : Node ℕ → ℕ) (l : List (Cell ℕ)) → Atoms l → map atom_cell (map as_atom (map (map_cell (λ x. inner (f x))) l)) ≡ map (map_cell (λ x. inner (f x))) l
cells-back f [] s = refl
cells-back f (c ∷ l) s =
    ap₂ ◌∷◌ (cell-≡ (ap (λ t. symbol (label_number t)) s.0.1 ∙ sym s.0.1)
    (ap (map inner) (take-length (map node_number (map (λ x. inner (f x)) c.ports)) ∙ map-map node_number (λ x. inner (f x)) c.ports) ∙ map-map inner f c.ports))
    (cells-back f l s.1)

edges-back : (label : Node ℕ → ℕ) (F : Flat ℕ) (l : List ℕ) → map edge_of (map edge_numbers (map (marked_by label F) l)) ≡ map (marked_by label F) l
edges-back label F [] = refl
edges-back label F (m ∷ l) = ap (λ k. marked_by label F m ∷ k) (edges-back label F l)

module _ (F : Flat ℕ) (atoms : Atoms F.atoms) where
  -- What a text would hold whose hypergraph is the normal form.
  abbrev normal_held : Held
  normal_held = record { rows = 0; atoms = map as_atom (normal_form F).atoms; contexts = []; fusions = []; edges = map edge_numbers (normal_form F).fusions; wiring = no_wiring }

  held-graph : graph_of normal_held ≡ normal_form F
  unfolding normal_form normal_form_by
  held-graph =
      flat-≡ (append-nil (map atom_cell (map as_atom (normal_form F).atoms)) ∙ cells-back (number_by (class_of F.fusions) F) F.atoms atoms)
      (edges-back (class_of F.fusions) F (marks_of F))

  held-normal : normal_form (graph_of normal_held) ≡ normal_form F
  held-normal = ap normal_form held-graph ∙ normal-idempotent F

  abbrev pub N : Net
  N = net_of (normal_form F)

  held-net : normal_net normal_held ≡ N
  held-net = ap net_of held-normal

  pub result-sheet : NormalSheet N
  result-sheet =
      subst NormalSheet held-net
      (record { normal = normal-net normal_held; no-contexts = normal-contexts normal_held })

  -- Its hypergraph is the normal form.
  pub result-graph : net_graph N ≡ normal_form F
  result-graph = ap net_graph (sym held-net) ∙ normal-graph normal_held ∙ held-normal

  pub result-term : net_term N ≡ term_of (normal_form F)
  result-term = ap term_of result-graph

  -- As many atoms as vertices, as many links as classes.
  pub result-atoms : length N.atoms ≡ length F.atoms
  unfolding normal_form normal_form_by
  result-atoms =
      ap (λ (M : Net). length M.atoms) (sym held-net) ∙ ap length (normal-atoms normal_held)
      ∙ length-map normal_held.atoms (atom_numbers (link_number normal_held)) ∙ length-map (normal_form F).atoms as_atom ∙ length-map F.atoms (map_cell (numbered_by (class_of F.fusions) F))

  result-in : (x : ℕ) → inner x ∈ nodes (normal_form F) → Range N.links x
  result-in x m = result-sheet.normal.numbered x (node-standing N x (subst (λ G. inner x ∈ nodes G) (sym result-graph) m))

  links-most : N.links ≤ class_total F
  links-most = at N.links (λ x r. result-sheet.normal.used x r)
    where
      at : (n : ℕ) → ((x : ℕ) → Range n x → x ∈ standing N) → n ≤ class_total F
      at zero h = omega arith
      at (suc n) h = (normal-range F (suc n) (subst (λ G. inner (suc n) ∈ nodes G) result-graph (standing-node N (suc n) (h (suc n) (omega arith, omega arith))))).1

  links-least : class_total F ≤ N.links
  unfolding normal_form classes_by number_by
  links-least =
      let a = once-length (map number labels) (up_to N.links) (once-map number labels (distinct-once (map label (shown F))) different) inside in
      omega (arith, length-map labels number, up_to-length N.links)
    where
      label : Node ℕ → ℕ
      label = class_of F.fusions

      labels : List ℕ
      labels = distinct (map label (shown F))

      number : ℕ → ℕ
      number k = suc (index_of k labels)

      different : (x y : ℕ) → x ∈ labels → y ∈ labels → number x ≡ number y → x ≡ y
      different x y i j e = index-injective x y labels (index_below x labels i) (let q : index_of x labels ≡ index_of y labels = omega arith in q)

      inside : (x : ℕ) → x ∈ map number labels → x ∈ up_to N.links
      inside x m =
          let t : (k : ℕ) × (k ∈ labels) × (number k ≡ x) = Memᴰ.of_map number labels m in
          let u : (y : Node ℕ) × (y ∈ shown F) × (label y ≡ t.0) = Memᴰ.of_map label (shown F) (distinct_of t.0 (map label (shown F)) t.1) in
          let r = result-in (number t.0) (Memᴰ.cast (ap (λ k. inner (number k)) (sym u.2)) (shown-node label F u.0 u.1)) in
          Memᴰ.cast (sym t.2) (up_to-in N.links (number t.0) r.0 r.1)

  pub result-links : N.links ≡ class_total F
  result-links = omega (arith, links-most, links-least)
