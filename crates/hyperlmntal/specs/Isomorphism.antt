-- Isomorphism of hypergraphs.
use Rattle.std.specs.Prelude.{◌≡◌, ◌↔◌, ℕ, ◌<◌, length}
use Rattle.std.proofs.Math.Option.{Option, some, none}
use Rattle.std.proofs.Math.ListN.{get_elem?}
use Rattle.hyperlmntal.specs.Link.{Link, ◌∈◌}
use Rattle.hyperlmntal.specs.Hypergraph.{Node, name, Label, Cell, Flat, Connected, nodes}

-- A one-to-one correspondence of the numbers below n with those below m (the bijection of 004, definition 2.3.7).
pub record Bijection (n m : ℕ) : Type 0 where
  pub to : ℕ → ℕ
  pub from : ℕ → ℕ
  pub to_below : (i : ℕ) → i < n → to i < m
  pub from-below : (j : ℕ) → j < m → from j < n
  pub from-to : (i : ℕ) → i < n → from (to i) ≡ i
  pub to-from : (j : ℕ) → j < m → to (from j) ≡ j

-- A point of a hypergraph: a port, by the positions of its vertex and of the port (004, definition 2.2.1), or a link name.
pub data Point : Type 0 where
  port : ℕ → ℕ → Point
  link : Link → Point

-- The functor of a vertex: label and number of ports (004, section 2.2).
abbrev pub functor : {P : Type 0} → Cell P → Label × ℕ
functor c = (c.label, length c.ports)

-- The node of a vertex's port, if there is one (004, definition 2.3.1).
abbrev pub port_at : {P : Type 0} → Option (Cell P) → ℕ → Option (Node P)
port_at none j = none
port_at (some c) j = get_elem? c.ports j

-- The node at a point, if there is one (004, definition 2.3.1).
abbrev pub node_at : {P : Type 0} → Flat P → Point → Option (Node P)
node_at F (port i j) = port_at (get_elem? F.atoms i) j
node_at F (link X) = some (name X)

-- The partner of a point where the vertices go across by f (004, definition 2.3.6).
abbrev pub partner : (ℕ → ℕ) → Point → Point
partner f (port i j) = port (f i) j
partner f (link X) = link X

-- Graph isomorphism (004, definition 2.3.7): a bijection of the vertices that keeps labels and numbers of ports; the same
-- free link names; and points are connected on one side exactly when their partners are on the other.
pub record Isomorphic {P Q : Type 0} (F : Flat P) (K : Flat Q) : Type 0 where
  pub vertices : Bijection (length F.atoms) (length K.atoms)
  pub functors : (i : ℕ) (c : Cell P) (d : Cell Q) → get_elem? F.atoms i ≡ some c → get_elem? K.atoms (vertices.to i) ≡ some d → functor c ≡ functor d
  pub names : (X : Link) → (name X ∈ nodes F) ↔ (name X ∈ nodes K)
  pub points : (p q : Point) (a b : Node P) (c d : Node Q) → node_at F p ≡ some a → node_at F q ≡ some b → node_at K (partner vertices.to p) ≡ some c → node_at K (partner vertices.to q) ≡ some d → Connected F.fusions a b ↔ Connected K.fusions c d
