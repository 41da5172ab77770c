-- The rules that move ν's in a term give isomorphic hypergraphs: E1, E2, E3, E7, E9, E10.
use mathlib.Core.Path.{◌≡◌, refl, ap, ap₂, sym, ◌∙◌}
use mathlib.Core.Logic.{◌⊎◌, inl, inr, ◌≢◌}
use mathlib.Core.List.Memᴰ
use mathlib.Core.List.{[]}
use Rattle.hyperlmntal.specs.Link.{Link, ◌≟◌, select}
use Rattle.hyperlmntal.specs.Template.{Template, null, fusion, molecule, ν}
use Rattle.hyperlmntal.specs.Hypergraph.{Node, inner, name, Fusion, Flat, Connected, stay, Place, here, under, left, right, map_flat, join, on_left, on_right, hide, flat, On}
use Rattle.hyperlmntal.proofs.Lists.{done, empty}
use Rattle.hyperlmntal.proofs.Connection.{connected-≡}
use Rattle.hyperlmntal.proofs.Relational.{Iso, iso-sym, iso-trans, iso-≡, iso-by}
use Rattle.hyperlmntal.proofs.Flats.{map_flat-map_flat, map_flat-join, map_flat-one, map_flat-three, join-assoc}
use Rattle.hyperlmntal.proofs.FreeNames.{hide-at, hide-off}
use Rattle.hyperlmntal.proofs.Relabel.{relabel, join-comm}

-- E1.
un_right : Node Place → Node Place
un_right (inner here) = inner here
un_right (inner (under p)) = inner here
un_right (inner (left p)) = inner here
un_right (inner (right p)) = inner p
un_right (name X) = name X

un_right-on_right : (n : Node Place) → un_right (on_right n) ≡ n
unfolding un_right
un_right-on_right (inner p) = refl
un_right-on_right (name X) = refl

pub sound-E1 : (G : Template) → Iso (flat (molecule null G)) (flat G)
unfolding un_right
sound-E1 G = iso-sym (relabel (flat G) on_right un_right (λ n m. un_right-on_right n) (λ X. refl) (λ X. refl))

-- E2.
mirror : Node Place → Node Place
mirror (inner here) = inner here
mirror (inner (under p)) = inner (under p)
mirror (inner (left p)) = inner (right p)
mirror (inner (right p)) = inner (left p)
mirror (name X) = name X

mirror-mirror : (n : Node Place) → mirror (mirror n) ≡ n
unfolding mirror
mirror-mirror (inner here) = refl
mirror-mirror (inner (under p)) = refl
mirror-mirror (inner (left p)) = refl
mirror-mirror (inner (right p)) = refl
mirror-mirror (name X) = refl

mirror-left : (n : Node Place) → mirror (on_left n) ≡ on_right n
unfolding mirror
mirror-left (inner p) = refl
mirror-left (name X) = refl

mirror-right : (n : Node Place) → mirror (on_right n) ≡ on_left n
unfolding mirror
mirror-right (inner p) = refl
mirror-right (name X) = refl

pub sound-E2 : (F K : Flat Place) → Iso (join (map_flat on_left F) (map_flat on_right K)) (join (map_flat on_left K) (map_flat on_right F))
unfolding mirror
sound-E2 F K = iso-trans (relabel (join (map_flat on_left F) (map_flat on_right K)) mirror mirror (λ n m. mirror-mirror n) (λ X. refl) (λ X. refl)) (iso-trans (iso-≡ (map_flat-join mirror (map_flat on_left F) (map_flat on_right K) ∙ ap₂ join (map_flat-one mirror on_left on_right F (λ n m. mirror-left n)) (map_flat-one mirror on_right on_left K (λ n m. mirror-right n)))) (join-comm (map_flat on_right F) (map_flat on_left K)))

-- E3.
regroup : Node Place → Node Place
regroup (inner here) = inner here
regroup (inner (under p)) = inner (under p)
regroup (inner (left p)) = inner (left (left p))
regroup (inner (right here)) = inner (left here)
regroup (inner (right (under p))) = inner (left (under p))
regroup (inner (right (left p))) = inner (left (right p))
regroup (inner (right (right p))) = inner (right p)
regroup (name X) = name X

ungroup : Node Place → Node Place
ungroup (inner here) = inner here
ungroup (inner (under p)) = inner (under p)
ungroup (inner (left here)) = inner (right here)
ungroup (inner (left (under p))) = inner (right (under p))
ungroup (inner (left (left p))) = inner (left p)
ungroup (inner (left (right p))) = inner (right (left p))
ungroup (inner (right p)) = inner (right (right p))
ungroup (name X) = name X

ungroup-regroup : (n : Node Place) → ungroup (regroup n) ≡ n
unfolding regroup ungroup
ungroup-regroup (inner here) = refl
ungroup-regroup (inner (under p)) = refl
ungroup-regroup (inner (left p)) = refl
ungroup-regroup (inner (right here)) = refl
ungroup-regroup (inner (right (under p))) = refl
ungroup-regroup (inner (right (left p))) = refl
ungroup-regroup (inner (right (right p))) = refl
ungroup-regroup (name X) = refl

regroup-1 : (n : Node Place) → regroup (on_left n) ≡ on_left (on_left n)
unfolding regroup
regroup-1 (inner p) = refl
regroup-1 (name X) = refl

regroup-2 : (n : Node Place) → regroup (on_right (on_left n)) ≡ on_left (on_right n)
unfolding regroup
regroup-2 (inner p) = refl
regroup-2 (name X) = refl

regroup-3 : (n : Node Place) → regroup (on_right (on_right n)) ≡ on_right n
unfolding regroup
regroup-3 (inner p) = refl
regroup-3 (name X) = refl

pub sound-E3 : (F K M : Flat Place) → Iso (join (map_flat on_left F) (map_flat on_right (join (map_flat on_left K) (map_flat on_right M)))) (join (map_flat on_left (join (map_flat on_left F) (map_flat on_right K))) (map_flat on_right M))
unfolding regroup ungroup
sound-E3 F K M = iso-trans (relabel _ regroup ungroup (λ n m. ungroup-regroup n) (λ X. refl) (λ X. refl)) (iso-≡ (map_flat-join regroup (map_flat on_left F) (map_flat on_right (join (map_flat on_left K) (map_flat on_right M))) ∙ ap₂ join first rest ∙ join-assoc (map_flat on_left (map_flat on_left F)) (map_flat on_left (map_flat on_right K)) (map_flat on_right M) ∙ ap (λ x. join x (map_flat on_right M)) (sym (map_flat-join on_left (map_flat on_left F) (map_flat on_right K)))))
  where
    first : map_flat regroup (map_flat on_left F) ≡ map_flat on_left (map_flat on_left F)
    first = map_flat-one regroup on_left (λ n. on_left (on_left n)) F (λ n m. regroup-1 n) ∙ sym (map_flat-map_flat on_left on_left F)

    rest : map_flat regroup (map_flat on_right (join (map_flat on_left K) (map_flat on_right M))) ≡ join (map_flat on_left (map_flat on_right K)) (map_flat on_right M)
    rest = ap (map_flat regroup) (map_flat-join on_right (map_flat on_left K) (map_flat on_right M)) ∙ map_flat-join regroup (map_flat on_right (map_flat on_left K)) (map_flat on_right (map_flat on_right M)) ∙ ap₂ join (map_flat-three regroup on_right on_left on_left on_right K (λ n m. regroup-2 n)) (ap (map_flat regroup) (map_flat-map_flat on_right on_right M) ∙ map_flat-one regroup (λ n. on_right (on_right n)) on_right M (λ n m. regroup-3 n))

-- E7.
sink : Node Place → Node Place
sink (inner p) = inner here
sink (name X) = name X

sink-hidden : (X Y Z : Link) → (Z ≡ X) ⊎ (Z ≡ Y) → sink (hide X (hide Y (name Z))) ≡ inner here
unfolding sink
sink-hidden X Y Z h = at (Z ≟ Y) h
  where
    at : (d : Dec (Z ≡ Y)) → (Z ≡ X) ⊎ (Z ≡ Y) → sink (hide X (select d (inner here) (name Z))) ≡ inner here
    at (yes e) k = refl
    at (no n) (inl e) = ap sink (hide-at X Z e)
    at (no n) (inr e) = absurd (n e)

pub sound-E7 : (X Y : Link) → Iso (flat (ν X (ν Y (fusion X Y)))) (flat null)
unfolding sink
sound-E7 X Y = iso-by (flat (ν X (ν Y (fusion X Y)))) (flat null) sink (λ n. n) (λ e m. one e (Memᴰ.eq_of_singleton m)) (λ e m. absurd (Memᴰ.not-nil m)) (λ Z. (stay, stay)) ([], empty, done)
  where
    one : (e : Fusion Place) → e ≡ (hide X (hide Y (name X)), hide X (hide Y (name Y))) → Connected [] (sink e.0) (sink e.1)
    one e p = connected-≡ [] (ap (λ d. sink d.0) p ∙ sink-hidden X Y X (inl refl) ∙ sym (sink-hidden X Y Y (inr refl)) ∙ sym (ap (λ d. sink d.1) p))

-- E9.
exchange : Node Place → Node Place
exchange (inner here) = inner (under here)
exchange (inner (under here)) = inner here
exchange (inner (under (under p))) = inner (under (under p))
exchange (inner (under (left p))) = inner (under (left p))
exchange (inner (under (right p))) = inner (under (right p))
exchange (inner (left p)) = inner (left p)
exchange (inner (right p)) = inner (right p)
exchange (name X) = name X

exchange-exchange : (n : Node Place) → exchange (exchange n) ≡ n
unfolding exchange
exchange-exchange (inner here) = refl
exchange-exchange (inner (under here)) = refl
exchange-exchange (inner (under (under p))) = refl
exchange-exchange (inner (under (left p))) = refl
exchange-exchange (inner (under (right p))) = refl
exchange-exchange (inner (left p)) = refl
exchange-exchange (inner (right p)) = refl
exchange-exchange (name X) = refl

exchange-hide : (X Y : Link) → X ≢ Y → (n : Node Place) → exchange (hide X (hide Y n)) ≡ hide Y (hide X n)
unfolding exchange
exchange-hide X Y d (inner p) = refl
exchange-hide X Y d (name Z) = at (Z ≟ Y) (Z ≟ X)
  where
    at : (y : Dec (Z ≡ Y)) (x : Dec (Z ≡ X)) → exchange (hide X (select y (inner here) (name Z))) ≡ hide Y (select x (inner here) (name Z))
    at (yes e) (yes f) = absurd (d (sym f ∙ e))
    at (yes e) (no n) = sym (hide-at Y Z e)
    at (no m) (yes f) = ap exchange (hide-at X Z f)
    at (no m) (no n) = ap exchange (hide-off X Z n) ∙ sym (hide-off Y Z m)

pub sound-E9 : (X Y : Link) (F : Flat Place) → Iso (map_flat (hide X) (map_flat (hide Y) F)) (map_flat (hide Y) (map_flat (hide X) F))
unfolding exchange
sound-E9 X Y F = at (X ≟ Y)
  where
    at : Dec (X ≡ Y) → Iso (map_flat (hide X) (map_flat (hide Y) F)) (map_flat (hide Y) (map_flat (hide X) F))
    at (yes e) = iso-≡ (ap₂ (λ A B. map_flat (hide A) (map_flat (hide B) F)) e (sym e))
    at (no d) = iso-trans (relabel _ exchange exchange (λ n m. exchange-exchange n) (λ Z. refl) (λ Z. refl)) (iso-≡ (map_flat-three exchange (hide X) (hide Y) (hide Y) (hide X) F (λ n m. exchange-hide X Y d n)))

-- E10.
narrow : Node Place → Node Place
narrow (inner here) = inner (left here)
narrow (inner (under here)) = inner here
narrow (inner (under (under p))) = inner (under p)
narrow (inner (under (left p))) = inner (left (under p))
narrow (inner (under (right p))) = inner (right p)
narrow (inner (left p)) = inner (left (left p))
narrow (inner (right p)) = inner (left (right p))
narrow (name X) = name X

widen : Node Place → Node Place
widen (inner here) = inner (under here)
widen (inner (under p)) = inner (under (under p))
widen (inner (left here)) = inner here
widen (inner (left (under p))) = inner (under (left p))
widen (inner (left (left p))) = inner (left p)
widen (inner (left (right p))) = inner (right p)
widen (inner (right p)) = inner (under (right p))
widen (name X) = name X

widen-narrow : (n : Node Place) → widen (narrow n) ≡ n
unfolding widen narrow
widen-narrow (inner here) = refl
widen-narrow (inner (under here)) = refl
widen-narrow (inner (under (under p))) = refl
widen-narrow (inner (under (left p))) = refl
widen-narrow (inner (under (right p))) = refl
widen-narrow (inner (left p)) = refl
widen-narrow (inner (right p)) = refl
widen-narrow (name X) = refl

narrow-left : (X : Link) (n : Node Place) → narrow (hide X (on_left n)) ≡ on_left (hide X n)
unfolding narrow
narrow-left X (inner p) = refl
narrow-left X (name Z) = at (Z ≟ X)
  where
    at : (d : Dec (Z ≡ X)) → narrow (select d (inner here) (name Z)) ≡ on_left (select d (inner here) (name Z))
    at (yes e) = refl
    at (no n) = refl

pub sound-E10 : (X : Link) (F K : Flat Place) → ¬ On (name X) K → Iso (map_flat (hide X) (join (map_flat on_left F) (map_flat on_right K))) (join (map_flat on_left (map_flat (hide X) F)) (map_flat on_right K))
unfolding narrow widen
sound-E10 X F K none = iso-trans (relabel _ narrow widen (λ n m. widen-narrow n) (λ Z. refl) (λ Z. refl)) (iso-≡ (ap (map_flat narrow) (map_flat-join (hide X) (map_flat on_left F) (map_flat on_right K)) ∙ map_flat-join narrow (map_flat (hide X) (map_flat on_left F)) (map_flat (hide X) (map_flat on_right K)) ∙ ap₂ join (map_flat-three narrow (hide X) on_left on_left (hide X) F (λ n m. narrow-left X n)) (ap (map_flat narrow) (map_flat-map_flat (hide X) on_right K) ∙ map_flat-one narrow (λ n. hide X (on_right n)) on_right K narrow-right)))
  where
    narrow-right : (n : Node Place) → On n K → narrow (hide X (on_right n)) ≡ on_right n
    narrow-right (inner p) m = refl
    narrow-right (name Z) m = ap narrow (hide-off X Z (λ e. none (Memᴰ.cast (ap name (sym e)) m)))
