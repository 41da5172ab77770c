-- The hypergraph that a term denotes (004, sections 2.3 and 2.4).
use Rattle.std.specs.Prelude.{List, [], ◌∷◌, ◌++◌, map, ℕ}
use Rattle.hyperlmntal.specs.Link.{Link, ◌≟◌, select, ◌∈◌}
use Rattle.hyperlmntal.specs.Template.{Template, null, atom, fusion, molecule, ν, context}

-- A node: a local link, of any type P, or a free link name (004, definition 2.3.1).
pub data Node (P : Type 0) : Type 0 where
  inner : P → Node P
  name : Link → Node P

-- What labels a vertex (004, definition 2.3.1): an atom name or the number of a context.
pub data Label : Type 0 where
  symbol : ℕ → Label
  hole : ℕ → Label

-- A vertex: its label, and the node of each port (004, definitions 2.2.1 and 2.3.1).
pub record Cell (P : Type 0) : Type 0 where
  pub label : Label
  pub ports : List (Node P)

-- Two nodes that are one link (004, definition 2.4.5).
abbrev pub Fusion : Type 0 → Type 0
Fusion P = Node P × Node P

-- A hypergraph (004, definition 2.3.1): V and its labels are the atoms; R, π and L are the classes of `Connected`.
pub record Flat (P : Type 0) : Type 0 where
  pub atoms : List (Cell P)
  pub fusions : List (Fusion P)

-- Connected nodes: the equivalence that the fusions generate (004, definition 2.4.1).
pub data Connected {P : Type 0} (E : List (Fusion P)) : Node P → Node P → Type 0 where
  stay : {a : Node P} → Connected E a a
  along : {a b : Node P} → (a, b) ∈ E → Connected E a b
  back : {a b : Node P} → Connected E a b → Connected E b a
  then : {a b c : Node P} → Connected E a b → Connected E b c → Connected E a c

-- The nodes of the ports of some vertices (004, definition 2.3.1).
abbrev pub port_nodes : {P : Type 0} → List (Cell P) → List (Node P)
port_nodes [] = []
port_nodes (c ∷ l) = c.ports ++ port_nodes l

-- The two ends of each fusion (004, definition 2.4.5).
abbrev pub end_nodes : {P : Type 0} → List (Fusion P) → List (Node P)
end_nodes [] = []
end_nodes (e ∷ l) = e.0 ∷ e.1 ∷ end_nodes l

-- All nodes; the free link names (004, definition 2.3.1) are those X with `name X` among them.
abbrev pub nodes : {P : Type 0} → Flat P → List (Node P)
nodes F = port_nodes F.atoms ++ end_nodes F.fusions

-- A node of a hypergraph (004, definition 2.3.1).
abbrev pub On : {P : Type 0} → Node P → Flat P → Type 0
On n F = n ∈ nodes F

-- A map of the free link names, on nodes (004, definition 2.3.6).
abbrev pub rename_node : {P : Type 0} → (Link → Link) → Node P → Node P
rename_node σ (inner p) = inner p
rename_node σ (name X) = name (σ X)

-- A map of nodes, on a vertex (004, definition 2.3.6).
abbrev pub map_cell : {P Q : Type 0} → (Node P → Node Q) → Cell P → Cell Q
map_cell f c = record { label = c.label; ports = map f c.ports }

-- A map of nodes, on a fusion (004, definition 2.3.6).
abbrev pub map_fusion : {P Q : Type 0} → (Node P → Node Q) → Fusion P → Fusion Q
map_fusion f e = (f e.0, f e.1)

-- A map of nodes, on a hypergraph (004, definition 2.3.6).
abbrev pub map_flat : {P Q : Type 0} → (Node P → Node Q) → Flat P → Flat Q
map_flat f F = record { atoms = map (map_cell f) F.atoms; fusions = map (map_fusion f) F.fusions }

-- Graph composition (004, definition 2.4.2), of hypergraphs whose local links differ.
abbrev pub join : {P : Type 0} → Flat P → Flat P → Flat P
join F K = record { atoms = F.atoms ++ K.atoms; fusions = F.fusions ++ K.fusions }

-- A local link of a term: the place of its ν in the term (004, definition 2.3.1, has the set of its ports instead).
pub data Place : Type 0 where
  here : Place
  under : Place → Place
  left : Place → Place
  right : Place → Place

-- A node of the left part of a molecule (004, definition 2.4.2).
abbrev pub on_left : Node Place → Node Place
on_left (inner p) = inner (left p)
on_left (name X) = name X

-- A node of the right part of a molecule (004, definition 2.4.2).
abbrev pub on_right : Node Place → Node Place
on_right (inner p) = inner (right p)
on_right (name X) = name X

-- Link name hiding (004, definition 2.4.4): the free link X becomes local.
abbrev pub hide : Link → Node Place → Node Place
hide X (inner p) = inner (under p)
hide X (name Z) = select (Z ≟ X) (inner here) (name Z)

-- The hypergraph of a term (004, definition 2.4.6).
abbrev pub flat : Template → Flat Place
flat null = record { atoms = []; fusions = [] }
flat (atom p Xs) = record { atoms = record { label = symbol p; ports = map name Xs } ∷ []; fusions = [] }
flat (fusion X Y) = record { atoms = []; fusions = (name X, name Y) ∷ [] }
flat (molecule G H) = join (map_flat on_left (flat G)) (map_flat on_right (flat H))
flat (ν X G) = map_flat (hide X) (flat G)
flat (context x Xs) = record { atoms = record { label = hole x; ports = map name Xs } ∷ []; fusions = [] }
