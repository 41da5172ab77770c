-- The places of the ν's of a term; a local link of its hypergraph is one of them.
use mathlib.Core.Path.{◌≡◌, subst}
use mathlib.Core.Logic.{◌⊎◌, inl, inr}
use mathlib.Core.List.Memᴰ
use mathlib.Core.List.{List, [], ◌∷◌, map}
use Rattle.hyperlmntal.specs.Link.{Link, ◌≟◌, select, ◌∈◌}
use Rattle.hyperlmntal.specs.Template.{Template, null, atom, fusion, molecule, ν, context}
use Rattle.hyperlmntal.specs.Hypergraph.{Node, inner, name, Place, here, under, left, right, map_flat, on_left, on_right, hide, flat, On}
use Rattle.hyperlmntal.proofs.Lists.{unpadded}
use Rattle.hyperlmntal.proofs.Flats.{on-of-map, on-join}

abbrev pub PlaceOf : Template → Place → Type 0
PlaceOf null p = ⊥
PlaceOf (atom a Xs) p = ⊥
PlaceOf (fusion X Y) p = ⊥
PlaceOf (molecule G H) here = ⊥
PlaceOf (molecule G H) (under p) = ⊥
PlaceOf (molecule G H) (left p) = PlaceOf G p
PlaceOf (molecule G H) (right p) = PlaceOf H p
PlaceOf (ν X G) here = Unit {0}
PlaceOf (ν X G) (under p) = PlaceOf G p
PlaceOf (ν X G) (left p) = ⊥
PlaceOf (ν X G) (right p) = ⊥
PlaceOf (context x Xs) p = ⊥

abbrev pub NodeOf : Template → Node Place → Type 0
NodeOf G (inner p) = PlaceOf G p
NodeOf G (name X) = Unit {0}

listed : (G : Template) (Xs : List Link) {n : Node Place} → n ∈ map name Xs → NodeOf G n
listed G Xs {n} m = let t : (Z : Link) × (Z ∈ Xs) × (name Z ≡ n) = Memᴰ.of_map name Xs m in subst (NodeOf G) t.2 tt

pub flat-places : (G : Template) {n : Node Place} → On n (flat G) → NodeOf G n
flat-places null m = absurd (Memᴰ.not-nil m)
flat-places (atom a Xs) m = listed (atom a Xs) Xs (unpadded (map name Xs) m)
flat-places (fusion X Y) m = listed (fusion X Y) (X ∷ Y ∷ []) m
flat-places (molecule G H) {n} m = side (on-join (map_flat on_left (flat G)) (map_flat on_right (flat H)) m) (λ k i. flat-places G {n = k} i) (λ k i. flat-places H {n = k} i)
  where
    lefts : (k : Node Place) → NodeOf G k → NodeOf (molecule G H) (on_left k)
    lefts (inner p) w = w
    lefts (name X) w = tt

    rights : (k : Node Place) → NodeOf H k → NodeOf (molecule G H) (on_right k)
    rights (inner p) w = w
    rights (name X) w = tt

    side : On n (map_flat on_left (flat G)) ⊎ On n (map_flat on_right (flat H)) → ((k : Node Place) → On k (flat G) → NodeOf G k) → ((k : Node Place) → On k (flat H) → NodeOf H k) → NodeOf (molecule G H) n
    side (inl i) f g = let t = on-of-map on_left (flat G) i in subst (NodeOf (molecule G H)) t.2 (lefts t.0 (f t.0 t.1))
    side (inr i) f g = let t = on-of-map on_right (flat H) i in subst (NodeOf (molecule G H)) t.2 (rights t.0 (g t.0 t.1))
flat-places (ν X G) {n} m = let t = on-of-map (hide X) (flat G) m in subst (NodeOf (ν X G)) t.2 (hidden t.0 (flat-places G {n = t.0} t.1))
  where
    at : (Z : Link) (d : Dec (Z ≡ X)) → NodeOf (ν X G) (select d (inner here) (name Z))
    at Z (yes e) = tt
    at Z (no e) = tt

    hidden : (k : Node Place) → NodeOf G k → NodeOf (ν X G) (hide X k)
    hidden (inner p) w = w
    hidden (name Z) w = at Z (Z ≟ X)
flat-places (context x Xs) m = listed (context x Xs) Xs (unpadded (map name Xs) m)
