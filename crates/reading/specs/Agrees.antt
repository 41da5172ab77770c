-- What is held agrees with its hypergraph: the wiring has exactly the graph's nodes, and its labels
-- are the graph's classes.
use Rattle.std.specs.Prelude.{ℕ, ◌<◌, ◌≡◌, List, ◌↔◌, length, get_or}
use Rattle.hyperlmntal.specs.Link.{local, free, ◌∈◌}
use Rattle.hyperlmntal.specs.Hypergraph.{Node, inner, name, Fusion, Connected, nodes}
use Rattle.rows.specs.Held.{Wiring, Held, Among}
use Rattle.linking.specs.Steps.{Distinct, Wired}
use Rattle.reading.specs.Graph.{graph_of}
use Rattle.reading.specs.Labels.{label_in}

-- the nodes that a wiring has
abbrev pub Known : Wiring → Node ℕ → Type 0
Known w (inner x) = Among x w.links
Known w (name (free m)) = Among m w.marks
Known w (name (local n)) = ⊥

-- The wiring w is that of the fusions E: labels are places of links, links and marks stand once each,
-- the ends of fusions are there, and two nodes have one label exactly where E connects them.
pub record Labels (w : Wiring) (E : List (Fusion ℕ)) : Type 0 where
  pub wired : Wired w
  pub below : (k : ℕ) → k < length w.links → get_or w.classes k 0 < length w.links
  pub marks : Distinct w.marks
  pub ends : (e : Fusion ℕ) → e ∈ E → Known w e.0 × Known w e.1
  pub fused : (e : Fusion ℕ) → e ∈ E → label_in w e.0 ≡ label_in w e.1
  pub joined : (x y : Node ℕ) → Known w x → Known w y → label_in w x ≡ label_in w y → Connected E x y

-- the wiring of h agrees with the hypergraph of h
pub record Agrees (h : Held) : Type 0 where
  pub labels : Labels h.wiring (graph_of h).fusions
  pub exact : (n : Node ℕ) → Known h.wiring n ↔ (n ∈ nodes (graph_of h))
