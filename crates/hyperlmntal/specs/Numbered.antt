-- The hypergraph of a term with numbers for its local links.
use Rattle.std.specs.Prelude.{[], ◌∷◌, map, ℕ, suc, ◌+◌}
use Rattle.hyperlmntal.specs.Link.{Link, ◌≟◌, select}
use Rattle.hyperlmntal.specs.Template.{Template, null, atom, fusion, molecule, ν, context}
use Rattle.hyperlmntal.specs.Hypergraph.{Node, inner, name, symbol, hole, Flat, map_flat, join}

-- How many local links a term has: they are numbered from 0 (004, definition 2.4.6).
abbrev pub locals : Template → ℕ
locals null = 0
locals (atom p Xs) = 0
locals (fusion X Y) = 0
locals (molecule G H) = locals G + locals H
locals (ν X G) = suc (locals G)
locals (context x Xs) = 0

-- Numbers of the right part of a molecule come after those of the left part (004, definition 2.4.2).
abbrev pub shift : ℕ → Node ℕ → Node ℕ
shift k (inner n) = inner (k + n)
shift k (name X) = name X

-- Link name hiding (004, definition 2.4.4): the free link X becomes the local link of number k.
abbrev pub hide_as : ℕ → Link → Node ℕ → Node ℕ
hide_as k X (inner n) = inner n
hide_as k X (name Z) = select (Z ≟ X) (inner k) (name Z)

-- The hypergraph of a term with numbered local links (004, definition 2.4.6).
abbrev pub flat_n : Template → Flat ℕ
flat_n null = record { atoms = []; fusions = [] }
flat_n (atom p Xs) = record { atoms = record { label = symbol p; ports = map name Xs } ∷ []; fusions = [] }
flat_n (fusion X Y) = record { atoms = []; fusions = (name X, name Y) ∷ [] }
flat_n (molecule G H) = join (flat_n G) (map_flat (shift (locals G)) (flat_n H))
flat_n (ν X G) = map_flat (hide_as (locals G) X) (flat_n G)
flat_n (context x Xs) = record { atoms = record { label = hole x; ports = map name Xs } ∷ []; fusions = [] }
