-- Where the ν's of a template and of its fillings stand after the substitution.
use mathlib.Core.Path.{◌≡◌, refl, ap, ◌∙◌}
use mathlib.Core.List.{map}
use Prim.Native.Nat.{ℕ, ◌+◌, ◌-◌, ◌<◌}
use native.Mathlib.Omega.{arith}
use native.Mathlib.Decide.{dec_lt}
use lib.ListN.{length, length-append, length-map}
use Rattle.hyperlmntal.specs.Link.{select}
use Rattle.hyperlmntal.specs.Template.{Template, null, atom, fusion, molecule, ν, context}
use Rattle.hyperlmntal.specs.Hypergraph.{Node, inner, name, Place, here, under, left, right, map_cell, on_left, on_right, hide, flat}
use Rattle.hyperlmntal.specs.DenotedSubstitution.{Spot, outer, within}
use Rattle.hyperlmntal.proofs.Places.{PlaceOf, NodeOf}
use Rattle.hyperlmntal.proofs.FilledNodes.{Filled}

-- How many vertices a template has.
abbrev pub count : Template → ℕ
count null = 0
count (atom p Xs) = 1
count (fusion X Y) = 0
count (molecule G H) = count G + count H
count (ν X G) = count G
count (context x Xs) = 1

pub count-flat : (T : Template) → length (flat T).atoms ≡ count T
count-flat null = refl
count-flat (atom p Xs) = refl
count-flat (fusion X Y) = refl
count-flat (molecule G H) = omega (arith, length-append (map (map_cell on_left) (flat G).atoms) (map (map_cell on_right) (flat H).atoms), length-map (flat G).atoms (map_cell on_left), length-map (flat H).atoms (map_cell on_right), count-flat G, count-flat H)
count-flat (ν X G) = length-map (flat G).atoms (map_cell (hide X)) ∙ count-flat G
count-flat (context x Xs) = refl

-- Below the vertices of two parts, c of them on the left.
abbrev pub beside : ℕ → (ℕ → Place → Place) → (ℕ → Place → Place) → ℕ → Place → Place
beside c g h i q = select (dec_lt i c) (left (g i q)) (right (h (i - c) q))

-- The place q of what stands for the vertex at position i.
abbrev pub graft : Template → ℕ → Place → Place
graft null i q = q
graft (atom p Xs) i q = q
graft (fusion X Y) i q = q
graft (molecule G H) i q = beside (count G) (graft G) (graft H) i q
graft (ν X G) i q = under (graft G i q)
graft (context x Xs) i q = q

abbrev lifted : (Place → Place) → ℕ → Spot Place Place → Spot Place Place
lifted f k (outer p) = outer (f p)
lifted f k (within i q) = within (k + i) q

abbrev ungraft : Template → Place → Spot Place Place
ungraft null p = within 0 p
ungraft (atom a Xs) p = within 0 p
ungraft (fusion X Y) p = within 0 p
ungraft (molecule G H) here = outer here
ungraft (molecule G H) (under p) = outer here
ungraft (molecule G H) (left p) = lifted left 0 (ungraft G p)
ungraft (molecule G H) (right p) = lifted right (count G) (ungraft H p)
ungraft (ν X G) here = outer here
ungraft (ν X G) (under p) = lifted under 0 (ungraft G p)
ungraft (ν X G) (left p) = outer here
ungraft (ν X G) (right p) = outer here
ungraft (context x Xs) p = within 0 p

ungraft-outer : (T : Template) (p : Place) → PlaceOf T p → ungraft T p ≡ outer p
ungraft-outer null p w = absurd w
ungraft-outer (atom a Xs) p w = absurd w
ungraft-outer (fusion X Y) p w = absurd w
ungraft-outer (molecule G H) here w = absurd w
ungraft-outer (molecule G H) (under p) w = absurd w
ungraft-outer (molecule G H) (left p) w = ap (lifted left 0) (ungraft-outer G p w)
ungraft-outer (molecule G H) (right p) w = ap (lifted right (count G)) (ungraft-outer H p w)
ungraft-outer (ν X G) here w = refl
ungraft-outer (ν X G) (under p) w = ap (lifted under 0) (ungraft-outer G p w)
ungraft-outer (ν X G) (left p) w = absurd w
ungraft-outer (ν X G) (right p) w = absurd w
ungraft-outer (context x Xs) p w = absurd w

same_index : {i j : ℕ} (q : Place) → i ≡ j → ◌≡◌ {A = Spot Place Place} (within i q) (within j q)
same_index q e = ap (λ k. within k q) e

ungraft-within : (T : Template) (i : ℕ) (q : Place) → i < count T → ungraft T (graft T i q) ≡ within i q
ungraft-within null i q h = absurd (omega arith)
ungraft-within (atom a Xs) i q h = same_index q (omega arith)
ungraft-within (fusion X Y) i q h = absurd (omega arith)
ungraft-within (molecule G H) i q h = at (dec_lt i (count G)) (λ s. ungraft-within G i q s) (λ s. ungraft-within H (i - count G) q s)
  where
    at : (d : Dec (i < count G)) → (i < count G → ungraft G (graft G i q) ≡ within i q) → (i - count G < count H → ungraft H (graft H (i - count G) q) ≡ within (i - count G) q) → ungraft (molecule G H) (select d (left (graft G i q)) (right (graft H (i - count G) q))) ≡ within i q
    at (yes s) f g = ap (lifted left 0) (f s) ∙ same_index q (omega arith)
    at (no s) f g = ap (lifted right (count G)) (g (omega arith)) ∙ same_index q (omega arith)
ungraft-within (ν X G) i q h = ap (lifted under 0) (ungraft-within G i q h) ∙ same_index q (omega arith)
ungraft-within (context x Xs) i q h = same_index q (omega arith)

abbrev pub settle : (ℕ → Place → Place) → Node (Spot Place Place) → Node Place
settle g (inner (outer p)) = inner p
settle g (inner (within i q)) = inner (g i q)
settle g (name X) = name X

abbrev pub unsettle : Template → Node Place → Node (Spot Place Place)
unsettle T (inner p) = inner (ungraft T p)
unsettle T (name X) = name X

pub unsettle-settle : (T : Template) (n : Node (Spot Place Place)) → Filled (NodeOf T) 0 (count T) n → unsettle T (settle (graft T) n) ≡ n
unsettle-settle T (inner (outer p)) h = ap inner (ungraft-outer T p h)
unsettle-settle T (inner (within i q)) h = ap inner (ungraft-within T i q h.1)
unsettle-settle T (name X) h = refl
