-- The hypergraph of a text: its ports are links, its free links are marks of edges.
use Prim.Native.Nat.{ℕ}
use mathlib.Core.Path.{◌≡◌, refl, sym}
use mathlib.Core.List.Memᴰ
use mathlib.Core.List.{List, [], ◌∷◌, map}
use mathlib.Core.Logic.{◌⊎◌, inl, inr}
use native.Mathlib.Omega.{arith}
use lib.ListN.{take}
use Rattle.hyperlmntal.specs.Link.{Link, free, ◌∈◌}
use Rattle.hyperlmntal.specs.Hypergraph.{Node, inner, name, Cell, Fusion, port_nodes, end_nodes, nodes}
use Rattle.hyperlmntal.specs.TermOf.{Marked}
use Rattle.hyperlmntal.proofs.Lists.{all_map, all_append}
use Rattle.rows.specs.Held.{Held}
use Rattle.rows.specs.declared.Atom.{Atom}
use Rattle.rows.specs.declared.Context.{Context}
use Rattle.reading.specs.Graph.{atom_cell, context_cell, fusion_of, edge_of, graph_of}
use Rattle.reading.specs.Normal.{mark_node}
use Rattle.reading.proofs.normal.NormalNodes.{ends_of}

-- A port belongs to a vertex.
abbrev pub PortOf : List (Cell ℕ) → Node ℕ → Type 0
PortOf l x = (c : Cell ℕ) × (c ∈ l) × (x ∈ c.ports)

pub port-of : (l : List (Cell ℕ)) (x : Node ℕ) → x ∈ port_nodes l → PortOf l x
port-of [] x i = absurd (Memᴰ.not-nil i)
port-of (c ∷ l) x i = side (Memᴰ.append_cases c.ports i) (port-of l x)
  where
    side : (x ∈ c.ports) ⊎ (x ∈ port_nodes l) → (x ∈ port_nodes l → PortOf l x) → PortOf (c ∷ l) x
    side (inl j) f = (c, Memᴰ.head refl, j)
    side (inr j) f = let t = f j in (t.0, Memᴰ.tail t.1, t.2)

-- The links of a text's rows are among these numbers.
pub record Linked (h : Held) (l : List ℕ) : Type 0 where
  pub atoms : (a : Atom) → a ∈ h.atoms → (n : ℕ) → n ∈ take a.count a.links → n ∈ l
  pub contexts : (c : Context) → c ∈ h.contexts → (n : ℕ) → n ∈ take c.count c.links → n ∈ l
  pub edges : (e : ℕ × ℕ) → e ∈ h.edges → e.0 ∈ l

module _ (h : Held) where
  -- What holds of the links of all atoms and contexts holds of a port's.
  pub graph-port : (P : ℕ → Type 0) → ((a : Atom) → a ∈ h.atoms → (n : ℕ) → n ∈ take a.count a.links → P n)
      → ((c : Context) → c ∈ h.contexts → (n : ℕ) → n ∈ take c.count c.links → P n)
      → (x : Node ℕ) → x ∈ port_nodes (graph_of h).atoms → (n : ℕ) × P n × (x ≡ inner n)
  graph-port P f g x i = let t = port-of (graph_of h).atoms x i in every t.0 t.1 t.2
    where
      port : (l : List ℕ) → ((n : ℕ) → n ∈ l → P n) → x ∈ map inner l → (n : ℕ) × P n × (x ≡ inner n)
      port l k j = let t : (n : ℕ) × (n ∈ l) × (inner n ≡ x) = Memᴰ.of_map inner l j in (t.0, k t.0 t.1, sym t.2)

      every : (c : Cell ℕ) → c ∈ (graph_of h).atoms → x ∈ c.ports → (n : ℕ) × P n × (x ≡ inner n)
      every = all_append (map atom_cell h.atoms) (map context_cell h.contexts) (λ c. x ∈ c.ports → (n : ℕ) × P n × (x ≡ inner n))
          (all_map atom_cell h.atoms (λ c. x ∈ c.ports → (n : ℕ) × P n × (x ≡ inner n)) (λ a j. port (take a.count a.links) (f a j)))
          (all_map context_cell h.contexts (λ c. x ∈ c.ports → (n : ℕ) × P n × (x ≡ inner n)) (λ c j. port (take c.count c.links) (g c j)))

  -- A free link is an edge's mark.
  pub graph-name : (X : Link) → name X ∈ nodes (graph_of h) → (e : ℕ × ℕ) × (e ∈ h.edges) × (X ≡ free e.1)
  graph-name X i = side (Memᴰ.append_cases (port_nodes (graph_of h).atoms) i)
    where
      Edge : Type 0
      Edge = (e : ℕ × ℕ) × (e ∈ h.edges) × (X ≡ free e.1)

      end : (d : Fusion ℕ) → d ∈ (graph_of h).fusions → (name X ≡ d.0) ⊎ (name X ≡ d.1) → Edge
      end = all_append (map fusion_of h.fusions) (map edge_of h.edges) (λ d. (name X ≡ d.0) ⊎ (name X ≡ d.1) → Edge)
          (all_map fusion_of h.fusions (λ d. (name X ≡ d.0) ⊎ (name X ≡ d.1) → Edge) (λ e j. fused e))
          (all_map edge_of h.edges (λ d. (name X ≡ d.0) ⊎ (name X ≡ d.1) → Edge) edge)
        where
          fused : (e : ℕ × ℕ) → (name X ≡ inner e.0) ⊎ (name X ≡ inner e.1) → Edge
          fused e (inl p) = absurd (let z : ◌≡◌ {A = ℕ} 0 1 = cc in omega arith)
          fused e (inr p) = absurd (let z : ◌≡◌ {A = ℕ} 0 1 = cc in omega arith)

          edge : (e : ℕ × ℕ) → e ∈ h.edges → (name X ≡ inner e.0) ⊎ (name X ≡ mark_node e.1) → Edge
          edge e j (inl p) = absurd (let z : ◌≡◌ {A = ℕ} 0 1 = cc in omega arith)
          edge e j (inr p) = (e, j, cc)

      side : (name X ∈ port_nodes (graph_of h).atoms) ⊎ (name X ∈ end_nodes (graph_of h).fusions) → Edge
      side (inl j) =
          let t = graph-port (λ n. Unit {0}) (λ a k n q. tt) (λ c k n q. tt) (name X) j in
          let p : name X ≡ inner t.0 = t.2 in
          absurd (let z : ◌≡◌ {A = ℕ} 0 1 = cc in omega arith)
      side (inr j) = let t = ends_of (graph_of h).fusions (name X) j in end t.0 t.1 t.2

  pub graph-marked : Marked (graph_of h)
  graph-marked X i = let t = graph-name X i in (t.0.1, t.2)
