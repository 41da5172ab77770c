-- The term of a hypergraph with numbered local links, such as a sheet or a figure.
use Rattle.std.specs.Prelude.{◌≡◌, List, [], ◌∷◌, map, ℕ}
use Rattle.hyperlmntal.specs.Link.{Link, local, free, ◌∈◌}
use Rattle.hyperlmntal.specs.Template.{Template, null, atom, fusion, molecule, ν, context}
use Rattle.hyperlmntal.specs.Hypergraph.{Node, inner, name, Label, symbol, hole, Cell, Fusion, Flat, nodes}

-- The link name of a node (004, definition 2.2.1).
abbrev pub link_of : Node ℕ → Link
link_of (inner n) = local n
link_of (name X) = X

-- An atom or a context, by its label (004, figures 2.1 and 3.8).
abbrev pub labelled : Label → List Link → Template
labelled (symbol p) Xs = atom p Xs
labelled (hole x) Xs = context x Xs

-- The vertices as one molecule (004, figure 2.1).
abbrev pub vertex_terms : List (Cell ℕ) → Template
vertex_terms [] = null
vertex_terms (c ∷ l) = molecule (labelled c.label (map link_of c.ports)) (vertex_terms l)

-- The fusions as one molecule (004, figure 2.1).
abbrev pub fusion_terms : List (Fusion ℕ) → Template
fusion_terms [] = null
fusion_terms (e ∷ l) = molecule (fusion (link_of e.0) (link_of e.1)) (fusion_terms l)

-- The local links among the nodes (004, definition 2.3.1: L).
abbrev pub inners : List (Node ℕ) → List ℕ
inners [] = []
inners (inner n ∷ l) = n ∷ inners l
inners (name X ∷ l) = inners l

-- νX₁…Xₙ.T (004, section 2.2).
abbrev pub bind_all : List ℕ → Template → Template
bind_all [] T = T
bind_all (n ∷ ns) T = ν (local n) (bind_all ns T)

-- The term that denotes a hypergraph (004, definition 2.4.6, backwards): its vertices and fusions, every local link bound in front.
abbrev pub term_of : Flat ℕ → Template
term_of F = bind_all (inners (nodes F)) (molecule (vertex_terms F.atoms) (fusion_terms F.fusions))

-- The free link names of a hypergraph are marks, so that no ν of its term binds them.
abbrev pub Marked : Flat ℕ → Type 0
Marked F = (X : Link) → name X ∈ nodes F → (m : ℕ) × (X ≡ free m)
