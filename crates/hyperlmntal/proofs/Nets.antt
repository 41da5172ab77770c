-- Templates without vertices come to nets, lists of fusions of free links; nets with the same free links and the same
-- connections are congruent.
use mathlib.Core.Path.{◌≡◌, refl, ap, ap₂, sym, ◌∙◌, subst}
use mathlib.Core.Logic.{◌⊎◌, inl, inr, ◌≢◌, ◌↔◌}
use mathlib.Core.List.Memᴰ
use mathlib.Core.List.{List, [], ◌∷◌, ◌++◌, map, map-map}
use Rattle.hyperlmntal.specs.Link.{Link, ◌≟◌, ◌∈◌, member}
use Rattle.hyperlmntal.specs.Template.{Template, null, atom, fusion, molecule, ν, context, fn}
use Rattle.hyperlmntal.specs.LinkSubstitution.{same, update, rename}
use Rattle.hyperlmntal.specs.Congruence.{◌≅◌, ≅-refl, ≅-sym, ≅-trans, E1, E2, E3, E4, E5, E7, E8, E10}
use Rattle.hyperlmntal.specs.Hypergraph.{Node, name, Cell, Fusion, Connected, along, map_cell, map_fusion, Place, on_left, on_right, hide, flat}
use Rattle.hyperlmntal.proofs.Links.{update-at, without-out}
use Rattle.hyperlmntal.proofs.Connection.{connected-ind}
use Rattle.hyperlmntal.proofs.Relational.{Iso}
use Rattle.hyperlmntal.proofs.FreeNames.{name-injective}
use Rattle.hyperlmntal.proofs.Soundness.{sound}
use Rattle.hyperlmntal.proofs.CongruentNames.{Within, congruent-within}
use Rattle.hyperlmntal.proofs.Derived.{≅-≡, E1-right, E4-right, E4-both, exchange, ν-unused, E10-right, fusion-absorbed}
use Rattle.hyperlmntal.proofs.Thesis.{fusion-symmetric, fusion-reflexive, fusion-transitive}

abbrev pub Pair : Type 0
Pair = Link × Link

abbrev pub net : List Pair → Template
net [] = null
net (e ∷ l) = molecule (fusion e.0 e.1) (net l)

abbrev pub map_pair : (Link → Link) → Pair → Pair
map_pair σ e = (σ e.0, σ e.1)

net-rename : (σ : Link → Link) (l : List Pair) → rename σ (net l) ≡ net (map (map_pair σ) l)
net-rename σ [] = refl
net-rename σ (e ∷ l) = ap (molecule (fusion (σ e.0) (σ e.1))) (net-rename σ l)

net-append : (l k : List Pair) → net (l ++ k) ≅ molecule (net l) (net k)
net-append [] k = ≅-sym E1
net-append (e ∷ l) k = ≅-trans (E4-right (net-append l k)) E3

net-member : {e : Pair} {l : List Pair} → e ∈ l → e.0 ∈ fn (net l)
net-member (Memᴰ.head p) = Memᴰ.head (ap (λ d. d.0) p)
net-member (Memᴰ.tail m) = Memᴰ.tail (Memᴰ.tail (net-member m))

net-pull : {e : Pair} {l : List Pair} → e ∈ l → (k : List Pair) × (net l ≅ molecule (fusion e.0 e.1) (net k))
net-pull (Memᴰ.head {xs = l} p) = (l, ≅-≡ (ap (λ d. molecule (fusion d.0 d.1) (net l)) (sym p)))
net-pull (Memᴰ.tail {x = x} m) = let t = net-pull m in (x ∷ t.0, ≅-trans (E4-right t.1) exchange)

-- The fusions of a net as a hypergraph.
abbrev pub named : {P : Type 0} → Pair → Fusion P
named e = (name e.0, name e.1)

pub flat-net : (l : List Pair) → (flat (net l)).fusions ≡ map named l
flat-net [] = refl
flat-net (e ∷ l) = ap (λ k. named e ∷ map (map_fusion on_right) k) (flat-net l) ∙ ap (λ k. named e ∷ k) (map-map (map_fusion on_right) named l)

-- A fusion that makes no difference to G.
abbrev Implied : Template → Link → Link → Type 0
Implied G X Y = G ≅ molecule (fusion X Y) G

implied-step : (G H : Template) (X A B : Link) → Implied G X A → G ≅ molecule (fusion A B) H → Implied G X B
implied-step G H X A B h p = ≅-trans q (≅-trans (E4 (fusion-transitive X A B)) (≅-trans (≅-sym E3) (E4-right (≅-sym q))))
  where
    q : G ≅ molecule (molecule (fusion X A) (fusion A B)) H
    q = ≅-trans h (≅-trans (E4-right p) E3)

-- Fusions of connected links make no difference.
abbrev Reached : List Pair → Link → Node Place → Type 0
Reached l X n = (Y : Link) × (n ≡ name Y) × Implied (net l) X Y

implied : (l : List Pair) (X Y : Link) → X ∈ fn (net l) → Connected {P = Place} (map named l) (name X) (name Y) → Implied (net l) X Y
implied l X Y m c = let t = (connected-ind (map named l) (Reached l X) edge c).0 (X, refl, fusion-reflexive X (net l) m) in subst (Implied (net l) X) (sym (name-injective t.1)) t.2
  where
    step : (A B : Link) → ((k : List Pair) × (net l ≅ molecule (fusion A B) (net k))) → Reached l X (name A) → Reached l X (name B)
    step A B p r = (B, refl, implied-step (net l) (net p.0) X A B (subst (Implied (net l) X) (sym (name-injective r.1)) r.2) p.1)

    both : (d : Pair) → d ∈ l → Reached l X (name d.0) ↔ Reached l X (name d.1)
    both d i = let t = net-pull i in (step d.0 d.1 t, step d.1 d.0 (t.0, ≅-trans t.1 (E4 (fusion-symmetric d.0 d.1))))

    edge : (e : Fusion Place) → e ∈ map named l → Reached l X e.0 ↔ Reached l X e.1
    edge e i = let t : (d : Pair) × (d ∈ l) × (named d ≡ e) = Memᴰ.of_map named l i in subst (λ x. Reached l X x.0 ↔ Reached l X x.1) t.2 (both t.0 t.1)

covers : (l k : List Pair) → ((e : Pair) → e ∈ k → Implied (net l) e.0 e.1) → net l ≅ molecule (net k) (net l)
covers l [] h = ≅-sym E1
covers l (e ∷ k) h = ≅-trans (h e (Memᴰ.head refl)) (≅-trans (E4-right (covers l k (λ d m. h d (Memᴰ.tail m)))) E3)

-- All links that one net connects are connected in the other.
abbrev Connects : List Pair → List Pair → Type 0
Connects l k = (X Y : Link) → Connected {P = Place} (map named l) (name X) (name Y) → Connected {P = Place} (map named k) (name X) (name Y)

net-same : (l k : List Pair) → Within (fn (net l)) (fn (net k)) → Within (fn (net k)) (fn (net l)) → Connects l k → Connects k l → net l ≅ net k
net-same l k f g c d = ≅-trans (covers l k (λ e m. implied l e.0 e.1 (g e.0 (net-member m)) (d e.0 e.1 (along (Memᴰ.map named m))))) (≅-trans E2 (≅-sym (covers k l (λ e m. implied k e.0 e.1 (f e.0 (net-member m)) (c e.0 e.1 (along (Memᴰ.map named m)))))))

-- A local link of a net: it vanishes, or leaves a fusion of the other end with itself, or that end takes its place.
loop-vanishes : (X : Link) → ν X (fusion X X) ≅ null
loop-vanishes X = ≅-trans (≅-sym (ν-unused X (ν X (fusion X X)) (λ m. (without-out X (X ∷ X ∷ []) m).0 refl))) E7

end-remains : (X Y : Link) → X ≢ Y → ν X (fusion X Y) ≅ fusion Y Y
end-remains X Y n = ≅-trans (E5 (≅-trans (fusion-reflexive X (fusion X Y) (Memᴰ.head refl)) E2)) (≅-trans (fusion-absorbed X Y (fusion X X) n (inl (Memᴰ.head refl))) (≅-≡ (ap₂ fusion (update-at same X Y X refl) (update-at same X Y X refl))))

-- What νX makes of a template is a net.
abbrev Hidden : Link → Template → Type 0
Hidden X G = (k : List Pair) × (ν X G ≅ net k)

hide-end : (X Y : Link) (l : List Pair) → X ≢ Y → Hidden X (molecule (fusion X Y) (net l))
hide-end X Y l n = at (member X (fn (net l))) (member Y (fn (net l)))
  where
    gone : (X ∈ fn (net l)) ⊎ (Y ∈ fn (net l)) → Hidden X (molecule (fusion X Y) (net l))
    gone h = (map (map_pair (update same X Y)) l, ≅-trans (fusion-absorbed X Y (net l) n h) (≅-≡ (net-rename (update same X Y) l)))

    at : Dec (X ∈ fn (net l)) → Dec (Y ∈ fn (net l)) → Hidden X (molecule (fusion X Y) (net l))
    at (yes m) d = gone (inl m)
    at (no m) (yes i) = gone (inr i)
    at (no m) (no i) = ((Y, Y) ∷ l, ≅-trans (E10 m) (E4 (end-remains X Y n)))

net-hide : (X : Link) (l : List Pair) → Hidden X (net l)
net-hide X [] = ([], E8)
net-hide X (e ∷ l) = at (X ≟ e.0) (X ≟ e.1) (net-hide X l)
  where
    loop : Dec (X ∈ fn (net l)) → Hidden X (net l) → Hidden X (molecule (fusion X X) (net l))
    loop (yes m) t = (t.0, ≅-trans (E5 (≅-sym (fusion-reflexive X (net l) m))) t.1)
    loop (no m) t = (l, ≅-trans (E10 m) (≅-trans (E4 (loop-vanishes X)) E1))

    off : X ≢ e.0 → X ≢ e.1 → ¬ (X ∈ (e.0 ∷ e.1 ∷ []))
    off n m i = from (Memᴰ.cases_cons i)
      where
        from : (X ≡ e.0) ⊎ (X ∈ (e.1 ∷ [])) → ⊥
        from (inl p) = n p
        from (inr k) = m (Memᴰ.eq_of_singleton k)

    at : Dec (X ≡ e.0) → Dec (X ≡ e.1) → Hidden X (net l) → Hidden X (net (e ∷ l))
    at (yes p) (yes q) t = subst (λ d. Hidden X (net (d ∷ l))) (λ i. (p i, q i)) (loop (member X (fn (net l))) t)
    at (yes p) (no n) t = subst (λ A. Hidden X (net ((A, e.1) ∷ l))) p (hide-end X e.1 l n)
    at (no n) (yes q) t = let u = subst (λ A. Hidden X (net ((A, e.0) ∷ l))) q (hide-end X e.0 l n) in (u.0, ≅-trans (E5 (E4 (fusion-symmetric e.0 e.1))) u.1)
    at (no n) (no m) t = (e ∷ t.0, ≅-trans (E10-right (off n m)) (E4-right t.1))

-- A template without vertices comes to a net.
abbrev pub Bare : Template → Type 0
Bare G = (c : Cell Place) → ¬ (c ∈ (flat G).atoms)

net-of : (G : Template) → Bare G → (l : List Pair) × (G ≅ net l)
net-of null h = ([], ≅-refl)
net-of (atom p Xs) h = absurd (h _ (Memᴰ.head refl))
net-of (fusion X Y) h = ((X, Y) ∷ [], ≅-sym E1-right)
net-of (molecule G H) h = let t = net-of G (λ c m. h (map_cell on_left c) (Memᴰ.append_left (map (map_cell on_right) (flat H).atoms) (Memᴰ.map (map_cell on_left) m))) in let u = net-of H (λ c m. h (map_cell on_right c) (Memᴰ.append_right (map (map_cell on_left) (flat G).atoms) (Memᴰ.map (map_cell on_right) m))) in (t.0 ++ u.0, ≅-trans (E4-both t.1 u.1) (≅-sym (net-append t.0 u.0)))
net-of (ν X G) h = let t = net-of G (λ c m. h (map_cell (hide X) c) (Memᴰ.map (map_cell (hide X)) m)) in let u = net-hide X t.0 in (u.0, ≅-trans (E5 t.1) u.1)
net-of (context x Xs) h = absurd (h _ (Memᴰ.head refl))

-- Isomorphic templates without vertices are congruent.
pub bare-complete : (G H : Template) → Bare G → Bare H → Iso (flat G) (flat H) → Within (fn G) (fn H) → Within (fn H) (fn G) → G ≅ H
bare-complete G H g h i f f' = ≅-trans t.1 (≅-trans (net-same t.0 u.0 (λ X m. (congruent-within u.1).0 X (f X ((congruent-within t.1).1 X m))) (λ X m. (congruent-within t.1).0 X (f' X ((congruent-within u.1).1 X m))) (λ X Y c. to H u X Y (i.onward (name X) (name Y) (name X) (name Y) (i.links X) (i.links Y) (from G t X Y c))) (λ X Y c. to G t X Y (i.backward (name X) (name Y) (name X) (name Y) (i.links X) (i.links Y) (from H u X Y c)))) (≅-sym u.1))
  where
    t : (l : List Pair) × (G ≅ net l)
    t = net-of G g

    u : (l : List Pair) × (H ≅ net l)
    u = net-of H h

    to : (K : Template) (v : (l : List Pair) × (K ≅ net l)) (X Y : Link) → Connected (flat K).fusions (name X) (name Y) → Connected {P = Place} (map named v.0) (name X) (name Y)
    to K v X Y c = let j = sound v.1 in subst (λ E. Connected E (name X) (name Y)) (flat-net v.0) (j.onward (name X) (name Y) (name X) (name Y) (j.links X) (j.links Y) c)

    from : (K : Template) (v : (l : List Pair) × (K ≅ net l)) (X Y : Link) → Connected {P = Place} (map named v.0) (name X) (name Y) → Connected (flat K).fusions (name X) (name Y)
    from K v X Y c = let j = sound v.1 in j.backward (name X) (name Y) (name X) (name Y) (j.links X) (j.links Y) (subst (λ E. Connected E (name X) (name Y)) (sym (flat-net v.0)) c)
