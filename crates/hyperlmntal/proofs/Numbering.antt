-- The hypergraph with numbered local links is the one with places, renamed one to one.
use mathlib.Core.Path.{◌≡◌, refl, ap, ap₂, ◌∙◌, subst}
use mathlib.Core.List.{[], ◌∷◌, map-map}
use Prim.Native.Nat.{ℕ, ◌+◌, ◌-◌, ◌<◌}
use native.Mathlib.Omega.{arith}
use native.Mathlib.Decide.{ℕ_discrete, dec_lt}
use Rattle.hyperlmntal.specs.Link.{Link, ◌≟◌, select}
use Rattle.hyperlmntal.specs.Template.{Template, null, atom, fusion, molecule, ν, context}
use Rattle.hyperlmntal.specs.Hypergraph.{Node, inner, name, Place, here, under, left, right, map_flat, join, on_left, on_right, hide, flat}
use Rattle.hyperlmntal.specs.Numbered.{locals, shift, hide_as, flat_n}
use Rattle.hyperlmntal.specs.Isomorphism.{Isomorphic}
use Rattle.hyperlmntal.proofs.Relational.{Iso}
use Rattle.hyperlmntal.proofs.Links.{select_yes, select_no}
use Rattle.hyperlmntal.proofs.Flats.{flat-≡, cell-≡, map_flat-join, map_flat-two, map_flat-one}
use Rattle.hyperlmntal.proofs.Relabel.{relabel, relabel-names}
use Rattle.hyperlmntal.proofs.Equivalence.{SameNames, isomorphic-of-iso}
use Rattle.hyperlmntal.proofs.Places.{PlaceOf, NodeOf, flat-places}

abbrev number : Template → Place → ℕ
number null p = 0
number (atom a Xs) p = 0
number (fusion X Y) p = 0
number (molecule G H) here = 0
number (molecule G H) (under p) = 0
number (molecule G H) (left p) = number G p
number (molecule G H) (right p) = locals G + number H p
number (ν X G) here = locals G
number (ν X G) (under p) = number G p
number (ν X G) (left p) = 0
number (ν X G) (right p) = 0
number (context x Xs) p = 0

abbrev place_at : Template → ℕ → Place
place_at null k = here
place_at (atom a Xs) k = here
place_at (fusion X Y) k = here
place_at (molecule G H) k = select (dec_lt k (locals G)) (left (place_at G k)) (right (place_at H (k - locals G)))
place_at (ν X G) k = select (ℕ_discrete k (locals G)) here (under (place_at G k))
place_at (context x Xs) k = here

number-below : (G : Template) (p : Place) → PlaceOf G p → number G p < locals G
number-below null p w = absurd w
number-below (atom a Xs) p w = absurd w
number-below (fusion X Y) p w = absurd w
number-below (molecule G H) here w = absurd w
number-below (molecule G H) (under p) w = absurd w
number-below (molecule G H) (left p) w = omega (arith, number-below G p w)
number-below (molecule G H) (right p) w = omega (arith, number-below H p w)
number-below (ν X G) here w = omega arith
number-below (ν X G) (under p) w = omega (arith, number-below G p w)
number-below (ν X G) (left p) w = absurd w
number-below (ν X G) (right p) w = absurd w
number-below (context x Xs) p w = absurd w

place_at-number : (G : Template) (p : Place) → PlaceOf G p → place_at G (number G p) ≡ p
place_at-number null p w = absurd w
place_at-number (atom a Xs) p w = absurd w
place_at-number (fusion X Y) p w = absurd w
place_at-number (molecule G H) here w = absurd w
place_at-number (molecule G H) (under p) w = absurd w
place_at-number (molecule G H) (left p) w = select_yes (dec_lt (number G p) (locals G)) _ _ (number-below G p w) ∙ ap left (place_at-number G p w)
place_at-number (molecule G H) (right p) w = select_no (dec_lt (locals G + number H p) (locals G)) _ _ (omega arith) ∙ ap (λ k. right (place_at H k)) (omega arith) ∙ ap right (place_at-number H p w)
place_at-number (ν X G) here w = select_yes (ℕ_discrete (locals G) (locals G)) _ _ refl
place_at-number (ν X G) (under p) w = select_no (ℕ_discrete (number G p) (locals G)) _ _ (omega (arith, number-below G p w)) ∙ ap under (place_at-number G p w)
place_at-number (ν X G) (left p) w = absurd w
place_at-number (ν X G) (right p) w = absurd w
place_at-number (context x Xs) p w = absurd w

abbrev number_node : Template → Node Place → Node ℕ
number_node G (inner p) = inner (number G p)
number_node G (name X) = name X

abbrev place_node : Template → Node ℕ → Node Place
place_node G (inner k) = inner (place_at G k)
place_node G (name X) = name X

number-left : (G H : Template) (n : Node Place) → number_node (molecule G H) (on_left n) ≡ number_node G n
number-left G H (inner p) = refl
number-left G H (name X) = refl

number-right : (G H : Template) (n : Node Place) → number_node (molecule G H) (on_right n) ≡ shift (locals G) (number_node H n)
number-right G H (inner p) = refl
number-right G H (name X) = refl

number-hide : (X : Link) (G : Template) (n : Node Place) → number_node (ν X G) (hide X n) ≡ hide_as (locals G) X (number_node G n)
number-hide X G (inner p) = refl
number-hide X G (name Z) = at (Z ≟ X)
  where
    at : (d : Dec (Z ≡ X)) → number_node (ν X G) (select d (inner here) (name Z)) ≡ select d (inner (locals G)) (name Z)
    at (yes e) = refl
    at (no n) = refl

numbered : (G : Template) → map_flat (number_node G) (flat G) ≡ flat_n G
numbered null = refl
numbered (atom a Xs) = flat-≡ (ap (λ c. c ∷ []) (cell-≡ refl (map-map (number_node (atom a Xs)) name Xs))) refl
numbered (fusion X Y) = refl
numbered (molecule G H) = map_flat-join (number_node (molecule G H)) (map_flat on_left (flat G)) (map_flat on_right (flat H)) ∙ ap₂ join (map_flat-one (number_node (molecule G H)) on_left (number_node G) (flat G) (λ n m. number-left G H n) ∙ numbered G) (map_flat-two (number_node (molecule G H)) on_right (shift (locals G)) (number_node H) (flat H) (λ n m. number-right G H n) ∙ ap (map_flat (shift (locals G))) (numbered H))
numbered (ν X G) = map_flat-two (number_node (ν X G)) (hide X) (hide_as (locals G) X) (number_node G) (flat G) (λ n m. number-hide X G n) ∙ ap (map_flat (hide_as (locals G) X)) (numbered G)
numbered (context x Xs) = flat-≡ (ap (λ c. c ∷ []) (cell-≡ refl (map-map (number_node (context x Xs)) name Xs))) refl

module _ (G : Template) where
  inverse : (n : Node Place) → NodeOf G n → place_node G (number_node G n) ≡ n
  inverse (inner p) w = ap inner (place_at-number G p w)
  inverse (name X) w = refl

  pub numbered-iso : Iso (flat G) (flat_n G)
  numbered-iso = subst (λ K. Iso (flat G) K) (numbered G) (relabel (flat G) (number_node G) (place_node G) (λ n m. inverse n (flat-places G m)) (λ X. refl) (λ X. refl))

  pub numbered-names : SameNames (flat G) (flat_n G)
  numbered-names = subst (λ K. SameNames (flat G) K) (numbered G) (relabel-names (flat G) (number_node G) (place_node G) (λ n m. inverse n (flat-places G m)) (λ X. refl) (λ X. refl))

  pub numbered-isomorphic : Isomorphic (flat G) (flat_n G)
  numbered-isomorphic = isomorphic-of-iso (flat G) (flat_n G) numbered-iso numbered-names
