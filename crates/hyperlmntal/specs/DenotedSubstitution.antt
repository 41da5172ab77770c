-- Graph substitution on hypergraphs: vertices that are contexts give way to the hypergraphs of the fillings.
use Rattle.std.specs.Prelude.{List, [], ◌∷◌, map, ℕ, suc, length}
use Rattle.std.proofs.Math.Option.{Option, some, none}
use Rattle.hyperlmntal.specs.Link.{Link, ◌≟◌, select}
use Rattle.hyperlmntal.specs.Template.{Template}
use Rattle.hyperlmntal.specs.GraphSubstitution.{Entry, Substitution, lookup}
use Rattle.hyperlmntal.specs.Hypergraph.{Node, inner, name, Label, symbol, hole, Cell, Flat, map_cell, map_fusion, map_flat, join, Place, flat}
use Rattle.hyperlmntal.specs.Numbered.{flat_n}

-- Local links of the result: those of the template, and for the vertex at position i those of its filling (004, definition 2.4.2).
pub data Spot (P Q : Type 0) : Type 0 where
  outer : P → Spot P Q
  within : ℕ → Q → Spot P Q

-- A node of the template in the result (004, definition 2.4.2).
abbrev pub outer_node : {P Q : Type 0} → Node P → Node (Spot P Q)
outer_node (inner p) = inner (outer p)
outer_node (name X) = name X

-- ⟨X⃗/Y⃗⟩ on hypergraphs (004, theorem 2.4.16): the node at the first port that is Z; where there is none Z stays a free link name.
unfoldable pub connect : {P Q : Type 0} → List (Node P) → List Link → Link → Node (Spot P Q)
connect [] Ys Z = name Z
connect (n ∷ ns) [] Z = name Z
connect (n ∷ ns) (Y ∷ Ys) Z = select (Z ≟ Y) (outer_node n) (connect ns Ys Z)

-- Where the nodes of a filling with ports Y⃗ go that is put for the vertex at position i with nodes n⃗ (004, figure 3.11, third rule).
abbrev pub plug : {P Q : Type 0} → ℕ → List (Node P) → List Link → Node Q → Node (Spot P Q)
plug i ns Ys (inner q) = inner (within i q)
plug i ns Ys (name Z) = connect ns Ys Z

-- What stands for the vertex c at position i, given the entry for it if there is one (004, figure 3.11, third rule).
abbrev pub fill_with : {P Q : Type 0} → Option (Entry (Flat Q)) → ℕ → Cell P → Flat (Spot P Q)
fill_with none i c = record { atoms = map_cell outer_node c ∷ []; fusions = [] }
fill_with (some e) i c = map_flat (plug i c.ports e.ports) e.body

-- The entry for a vertex with n ports: contexts only have one (004, figure 3.11, third and fourth rule).
abbrev pub entry_for : {Q : Type 0} → List (Entry (Flat Q)) → Label → ℕ → Option (Entry (Flat Q))
entry_for θ (symbol p) n = none
entry_for θ (hole x) n = lookup x n θ

-- What stands for the vertices of a list that begins at position i (004, figure 3.11, first rule).
abbrev pub fill_cells : {P Q : Type 0} → List (Entry (Flat Q)) → ℕ → List (Cell P) → Flat (Spot P Q)
fill_cells θ i [] = record { atoms = []; fusions = [] }
fill_cells θ i (c ∷ l) = join (fill_with (entry_for θ c.label (length c.ports)) i c) (fill_cells θ (suc i) l)

-- The filled hypergraph: vertices give way or stay, fusions stay (004, figure 3.11).
abbrev pub fill_flat : {P Q : Type 0} → List (Entry (Flat Q)) → Flat P → Flat (Spot P Q)
fill_flat θ F = join (fill_cells θ 0 F.atoms) (record { atoms = []; fusions = map (map_fusion outer_node) F.fusions })

-- An entry with the hypergraph of its filling (004, definition 2.4.6).
abbrev pub denoted_by : {P : Type 0} → (Template → Flat P) → Entry Template → Entry (Flat P)
denoted_by f e = record { number = e.number; ports = e.ports; body = f e.body }

-- A substitution with the hypergraphs of its fillings, local links being places (004, definition 2.4.6).
abbrev pub denoted_all : Substitution → List (Entry (Flat Place))
denoted_all θ = map (denoted_by flat) θ

-- The same, local links being numbers.
abbrev pub denoted_all_n : Substitution → List (Entry (Flat ℕ))
denoted_all_n θ = map (denoted_by flat_n) θ
