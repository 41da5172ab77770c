-- The label of a node of a text's hypergraph, as links, classes and marks have it: that of a joint's
-- class, and for a mark that of the link it was first on. Other nodes have 0.
use Rattle.std.specs.Prelude.{ℕ, ◌≡◌, ◌⊎◌, get_or}
use Rattle.hyperlmntal.specs.Link.{local, free, ◌∈◌}
use Rattle.hyperlmntal.specs.Hypergraph.{Node, inner, name, port_nodes}
use Rattle.rows.specs.Held.{Wiring, Held, index_of}
use Rattle.reading.specs.Graph.{graph_of}

abbrev pub label_in : Wiring → Node ℕ → ℕ
label_in w (inner x) = get_or w.classes (index_of x w.links) 0
label_in w (name (free m)) = get_or w.classes (get_or w.marked (index_of m w.marks) 0) 0
label_in w (name (local n)) = 0

-- a node that a symbol or a blank has a port on, or the mark of an edge
abbrev pub PortOrMark : Held → Node ℕ → Type 0
PortOrMark h x = (x ∈ port_nodes (graph_of h).atoms) ⊎ ((a : ℕ) × (m : ℕ) × ((a, m) ∈ h.edges) × (x ≡ name (free m)))
