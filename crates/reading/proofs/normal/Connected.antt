-- What a text holds agrees with its hypergraph, whatever the answer, and what follows for links,
-- classes and marks: labels are equal exactly where the fusions connect.
use Prim.Native.Nat.{ℕ, ◌<◌}
use mathlib.Core.Path.{◌≡◌, refl, ◌∙◌, sym, subst}
use mathlib.Core.List.Memᴰ
use mathlib.Core.List.{List, [], map}
use mathlib.Core.Bool.{Bool, true, false, true≢false}
use mathlib.Core.Logic.{⊎_elim, ◌↔◌}
use native.Mathlib.Omega.{arith}
use lib.Dec.{ltb}
use lib.ListN.{length, get_or, take, length-take}
use lib.Seq.{get_or-take}
use borrow.Author.Tests.{ltb-true, ltb-false}
use Rattle.hyperlmntal.specs.Link.{local, free, ◌∈◌}
use Rattle.hyperlmntal.specs.Hypergraph.{Node, inner, name, Cell, Connected, port_nodes, end_nodes, nodes}
use Rattle.rows.specs.Format.{row_width}
use Rattle.rows.specs.Held.{Held, nothing, index_of, no_wiring, Among}
use Rattle.rows.specs.declared.Atom.{Atom}
use Rattle.rows.specs.declared.Context.{Context}
use Rattle.rows.proofs.RowRange.{good-letter}
use Rattle.sheet.specs.Kinds.{is_list}
use Rattle.reading.specs.Graph.{atom_cell, context_cell, fusion_of, edge_of, graph_of}
use Rattle.reading.specs.Labels.{label_in, PortOrMark}
use Rattle.reading.specs.Agrees.{Known, Labels, Agrees}
use Rattle.sheet.specs.Reading.{outcome_of}
use Rattle.sheet.specs.declared.kind.Kind.{Kind}
use Rattle.sheet.proofs.read.Taken.{row_at, Taken, outcome-keeps}
use Rattle.sheet.proofs.read.HeldLimits.{head-list}
use Rattle.reading.proofs.normal.Merging.{get_d-in}
use Rattle.reading.proofs.normal.Labelled.{labels-none, label-iff}
use Rattle.reading.proofs.normal.Agreeing.{labels-row, agrees-row}

-- Where no row adds anything, nothing is there.
abbrev pub rows_only : ℕ → Held
rows_only n = record { rows = n; atoms = []; contexts = []; fusions = []; edges = []; wiring = no_wiring }

pub agrees-none : (n : ℕ) → Agrees (rows_only n)
unfolding index_of
agrees-none n = record { labels = labels-none; exact = none }
  where
    none : (x : Node ℕ) → Known no_wiring x ↔ (x ∈ [])
    none (inner x) = (λ k. absurd (omega arith), λ m. absurd (Memᴰ.not-nil m))
    none (name (free x)) = (λ k. absurd (omega arith), λ m. absurd (Memᴰ.not-nil m))
    none (name (local x)) = (λ k. absurd k, λ m. absurd (Memᴰ.not-nil m))

pub agrees-nothing : Agrees nothing
agrees-nothing = agrees-none 0

-- A text of any kind: its labels follow its fusions, in a list those since the last head.
pub labels-read : (kind : Kind) (pattern text : List ℕ) → Labels (outcome_of kind pattern text).held.wiring (graph_of (outcome_of kind pattern text).held).fusions
labels-read kind pattern text = outcome-keeps kind pattern (λ h. Labels h.wiring (graph_of h).fusions) (λ h rest t L. labels-row h (row_at rest) L) text labels-none

-- A sheet or a figure has no heads, and agrees with its hypergraph.
pub no-head : (kind : Kind) (pattern : List ℕ) (h : Held) (text : List ℕ) → is_list kind ≡ false → Taken kind pattern h text → (row_at text).letter < 4
no-head kind pattern h text plain t = go (ltb (row_at text).letter 4) refl
  where
    go : (b : Bool) → ltb (row_at text).letter 4 ≡ b → (row_at text).letter < 4
    go true e = ltb-true _ _ e
    go false e =
        let f : (row_at text).letter ≡ 4 = omega (arith, ltb-false (row_at text).letter 4 e, good-letter (take row_width text) t.good) in
        absurd (true≢false (sym (head-list kind h.contexts (rw f at t.allowed)) ∙ plain))

pub agrees-read : (kind : Kind) (pattern text : List ℕ) → is_list kind ≡ false → Agrees (outcome_of kind pattern text).held
agrees-read kind pattern text plain =
    outcome-keeps kind pattern Agrees (λ h rest t A. agrees-row h (row_at rest) (no-head kind pattern h rest plain t) A) text agrees-nothing

-- Nodes of cells.
pub ports-in : (c : Cell ℕ) (n : Node ℕ) {l : List (Cell ℕ)} → c ∈ l → n ∈ c.ports → n ∈ port_nodes l
ports-in c n (Memᴰ.head {xs} e) m = Memᴰ.append_left (port_nodes xs) (subst (λ d. n ∈ d.ports) e m)
ports-in c n (Memᴰ.tail {x} p) m = Memᴰ.append_right x.ports (ports-in c n p m)

-- The links of the atom or the context at a place are on ports.
pub used-in : (l : List ℕ) (n k : ℕ) → k < n → k < length l → inner (get_or l k 0) ∈ map inner (take n l)
used-in l n k p q = Memᴰ.map inner (subst (λ x. x ∈ take n l) (get_or-take n l k 0 p) (get_d-in (take n l) k 0 (simp length-take (omega arith))))

module _ (h : Held) (i k : ℕ) where
  pub atom-port : (d : Atom) → i < length h.atoms → k < (get_or h.atoms i d).count → k < length (get_or h.atoms i d).links
      → inner (get_or (get_or h.atoms i d).links k 0) ∈ port_nodes (graph_of h).atoms
  atom-port d p q r =
      ports-in (atom_cell (get_or h.atoms i d)) _ (Memᴰ.append_left (map context_cell h.contexts) (Memᴰ.map atom_cell (get_d-in h.atoms i d p)))
      (used-in (get_or h.atoms i d).links (get_or h.atoms i d).count k q r)

  pub context-port : (d : Context) → i < length h.contexts → k < (get_or h.contexts i d).count → k < length (get_or h.contexts i d).links
      → inner (get_or (get_or h.contexts i d).links k 0) ∈ port_nodes (graph_of h).atoms
  context-port d p q r =
      ports-in (context_cell (get_or h.contexts i d)) _ (Memᴰ.append_right (map atom_cell h.atoms) (Memᴰ.map context_cell (get_d-in h.contexts i d p)))
      (used-in (get_or h.contexts i d).links (get_or h.contexts i d).count k q r)

-- Links and edges of what agrees.
module _ (h : Held) (A : Agrees h) where
  pub known-port : (c : Cell ℕ) → c ∈ (graph_of h).atoms → (x : ℕ) → inner x ∈ c.ports → Among x h.wiring.links
  known-port c p x m = (A.exact (inner x)).1 (Memᴰ.append_left (end_nodes (graph_of h).fusions) (ports-in c (inner x) p m))

  -- every link of an atom, of a context and of an edge is among the links
  pub atom-links : (a : Atom) → a ∈ h.atoms → (x : ℕ) → x ∈ take a.count a.links → Among x h.wiring.links
  atom-links a p x m = known-port (atom_cell a) (Memᴰ.append_left (map context_cell h.contexts) (Memᴰ.map atom_cell p)) x (Memᴰ.map inner m)

  pub context-links : (c : Context) → c ∈ h.contexts → (x : ℕ) → x ∈ take c.count c.links → Among x h.wiring.links
  context-links c p x m = known-port (context_cell c) (Memᴰ.append_right (map atom_cell h.atoms) (Memᴰ.map context_cell p)) x (Memᴰ.map inner m)

  pub edge-links : (e : ℕ × ℕ) → e ∈ h.edges → Among e.0 h.wiring.links × Among e.1 h.wiring.marks
  edge-links e p = A.labels.ends (edge_of e) (Memᴰ.append_right (map fusion_of h.fusions) (Memᴰ.map edge_of p))

  -- the labels of all nodes of the graph, of which ports and marks are some
  pub node-connected : (x y : Node ℕ) → x ∈ nodes (graph_of h) → y ∈ nodes (graph_of h) → (label_in h.wiring x ≡ label_in h.wiring y) ↔ Connected (graph_of h).fusions x y
  node-connected x y p q = label-iff h.wiring (graph_of h).fusions A.labels x y ((A.exact x).1 p) ((A.exact y).1 q)

  pub port-or-mark : (x : Node ℕ) → PortOrMark h x → x ∈ nodes (graph_of h)
  port-or-mark x = ⊎_elim
      (λ m. Memᴰ.append_left (end_nodes (graph_of h).fusions) m)
      (λ t. (A.exact x).0 (subst (Known h.wiring) (sym t.3) (edge-links (t.0, t.1) t.2).1))

-- Ports and marks have one label exactly where they are connected.
pub label-connected : (h : Held) → Agrees h → (x y : Node ℕ) → PortOrMark h x → PortOrMark h y
    → (label_in h.wiring x ≡ label_in h.wiring y) ↔ Connected (graph_of h).fusions x y
label-connected h A x y p q = node-connected h A x y (port-or-mark h A x p) (port-or-mark h A y q)
