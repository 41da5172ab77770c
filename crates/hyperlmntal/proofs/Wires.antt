-- Fusions that tie new names to the nodes of ports.
use mathlib.Core.Path.{◌≡◌, refl, ap, ap₂, sym, ◌∙◌}
use mathlib.Core.Logic.{◌⊎◌, inl, inr, ◌↔◌}
use mathlib.Core.List.Memᴰ
use mathlib.Core.List.{List, [], ◌∷◌, ◌++◌, map, map-append}
use Rattle.hyperlmntal.specs.Link.{Link, ◌≟◌, select, ◌∈◌}
use Rattle.hyperlmntal.specs.GraphSubstitution.{Distinct}
use Rattle.hyperlmntal.specs.Hypergraph.{Node, inner, name, Fusion, Connected, stay, along, back, then, end_nodes, map_fusion}
use Rattle.hyperlmntal.proofs.Lists.{Each, done, more, Perm, after, perm-map, perm-sym, all_append}
use Rattle.hyperlmntal.proofs.Permutations.{perm-≡, perm-member}
use Rattle.hyperlmntal.proofs.Connection.{connected-map, connected-mono, connected-≡, recast}
use Rattle.hyperlmntal.proofs.Links.{select_yes, select_no}
use Rattle.hyperlmntal.proofs.Flats.{ends-in}
use Rattle.hyperlmntal.proofs.Nets.{named}
use Rattle.hyperlmntal.proofs.Ports.{Even, pairs}

abbrev pub wires : {P : Type 0} → List Link → List (Node P) → List (Fusion P)
wires [] ns = []
wires (X ∷ Xs) [] = []
wires (X ∷ Xs) (n ∷ ns) = (name X, n) ∷ wires Xs ns

pub wires-map : {P Q : Type 0} (g : Node P → Node Q) (Xs : List Link) (ns : List (Node P)) → ((Z : Link) → Z ∈ Xs → g (name Z) ≡ name Z) → map (map_fusion g) (wires Xs ns) ≡ wires Xs (map g ns)
wires-map g [] ns h = refl
wires-map g (X ∷ Xs) [] h = refl
wires-map g (X ∷ Xs) (n ∷ ns) h = ap₂ ◌∷◌ (λ i. (h X (Memᴰ.head refl) i, g n)) (wires-map g Xs ns (λ Z m. h Z (Memᴰ.tail m)))

pub wires-pairs : {P : Type 0} (Xs Ys : List Link) → map (named {P = P}) (pairs Xs Ys) ≡ wires Xs (map name Ys)
wires-pairs [] Ys = refl
wires-pairs (X ∷ Xs) [] = refl
wires-pairs (X ∷ Xs) (Y ∷ Ys) = ap (λ l. (name X, name Y) ∷ l) (wires-pairs Xs Ys)

pub wires-in : {P : Type 0} {Xs : List Link} {ns : List (Node P)} → Even Xs ns → (Z : Link) → Z ∈ Xs → (n : Node P) × ((name Z, n) ∈ wires Xs ns)
wires-in done Z m = absurd (Memᴰ.not-nil m)
wires-in {P} (more {a = X} {b = n} {l = Xs} {k = ns} u e) Z m = at (Memᴰ.cases_cons m) (λ i. wires-in e Z i)
  where
    at : (Z ≡ X) ⊎ (Z ∈ Xs) → (Z ∈ Xs → (k : Node P) × ((name Z, k) ∈ wires Xs ns)) → (k : Node P) × ((name Z, k) ∈ ((name X, n) ∷ wires Xs ns))
    at (inl q) f = (n, Memᴰ.head (λ i. (name (q i), n)))
    at (inr i) f = ((f i).0, Memᴰ.tail (f i).1)

-- With other fusions, under a map of nodes that keeps the new names.
pub wires-move : {P Q : Type 0} (g : Node P → Node Q) (Xs : List Link) (ns : List (Node P)) (E : List (Fusion P)) {D : List (Fusion P)} → ((Z : Link) → Z ∈ Xs → g (name Z) ≡ name Z) → Perm D (wires Xs ns ++ E) → Perm (map (map_fusion g) D) (wires Xs (map g ns) ++ map (map_fusion g) E)
wires-move g Xs ns E h p = after (perm-map (map_fusion g) p) (perm-≡ (map-append (map_fusion g) (wires Xs ns) E ∙ ap (λ l. l ++ map (map_fusion g) E) (wires-map g Xs ns h)))

-- The node that a name is tied to; a name that is not new stands for itself.
abbrev pub tied : {P : Type 0} → List Link → List (Node P) → Link → Node P
tied [] ns Z = name Z
tied (X ∷ Xs) [] Z = name Z
tied (X ∷ Xs) (n ∷ ns) Z = select (Z ≟ X) n (tied Xs ns Z)

abbrev pub stand : {P : Type 0} → List Link → List (Node P) → Node P → Node P
stand Xs ns (inner p) = inner p
stand Xs ns (name Z) = tied Xs ns Z

tied-off : {P : Type 0} (Xs : List Link) (ns : List (Node P)) (Z : Link) → ¬ (Z ∈ Xs) → tied Xs ns Z ≡ name Z
tied-off [] ns Z n = refl
tied-off (X ∷ Xs) [] Z n = refl
tied-off (X ∷ Xs) (k ∷ ns) Z n = select_no (Z ≟ X) k (tied Xs ns Z) (λ e. n (Memᴰ.head e)) ∙ tied-off Xs ns Z (λ m. n (Memᴰ.tail m))

tied-cases : {P : Type 0} (Xs : List Link) (ns : List (Node P)) (Z : Link) → (tied Xs ns Z ≡ name Z) ⊎ ((name Z, tied Xs ns Z) ∈ wires Xs ns)
tied-cases [] ns Z = inl refl
tied-cases (X ∷ Xs) [] Z = inl refl
tied-cases {P} (X ∷ Xs) (n ∷ ns) Z = at (Z ≟ X) (tied-cases Xs ns Z)
  where
    at : (d : Dec (Z ≡ X)) → (tied Xs ns Z ≡ name Z) ⊎ ((name Z, tied Xs ns Z) ∈ wires Xs ns) → (select d n (tied Xs ns Z) ≡ name Z) ⊎ (◌∈◌ {A = Fusion P} (name Z, select d n (tied Xs ns Z)) ((name X, n) ∷ wires Xs ns))
    at (yes e) r = inr (Memᴰ.head (λ i. (name (e i), n)))
    at (no k) (inl e) = inl e
    at (no k) (inr m) = inr (Memᴰ.tail m)

abbrev Tie : {P : Type 0} → List Link → List (Node P) → Fusion P → Type 0
Tie Xs ns e = (Z : Link) × (Z ∈ Xs) × (e.0 ≡ name Z) × (tied Xs ns Z ≡ e.1) × (e.1 ∈ ns)

wire-tie : {P : Type 0} (Xs : List Link) (ns : List (Node P)) → Distinct Xs → {e : Fusion P} → e ∈ wires Xs ns → Tie Xs ns e
wire-tie [] ns a m = absurd (Memᴰ.not-nil m)
wire-tie (X ∷ Xs) [] a m = absurd (Memᴰ.not-nil m)
wire-tie {P} (X ∷ Xs) (n ∷ ns) a {e} m = at (Memᴰ.cases_cons m) (λ i. wire-tie Xs ns a.1 i)
  where
    at : (e ≡ (name X, n)) ⊎ (e ∈ wires Xs ns) → (e ∈ wires Xs ns → Tie Xs ns e) → Tie (X ∷ Xs) (n ∷ ns) e
    at (inl q) f = (X, Memᴰ.head refl, ap (λ d. d.0) q, select_yes (X ≟ X) n (tied Xs ns X) refl ∙ sym (ap (λ d. d.1) q), Memᴰ.head (ap (λ d. d.1) q))
    at (inr i) f = let t = f i in (t.0, Memᴰ.tail t.1, t.2, select_no (t.0 ≟ X) n (tied Xs ns t.0) (λ q. a.0 (Memᴰ.cast (sym q) t.1)) ∙ t.3, Memᴰ.tail t.4)

-- A node that is none of the new names.
abbrev pub Old : {P : Type 0} → List Link → Node P → Type 0
Old Xs n = (Z : Link) → n ≡ name Z → ¬ (Z ∈ Xs)

pub stand-old : {P : Type 0} (Xs : List Link) (ns : List (Node P)) (n : Node P) → Old Xs n → stand Xs ns n ≡ n
stand-old Xs ns (inner p) h = refl
stand-old Xs ns (name Z) h = tied-off Xs ns Z (h Z refl)

-- Names are tied to related nodes where the nodes are related.
pub stand-related : {P Q : Type 0} (R : Node P → Node Q → Type 0) (Z : Link) → R (name Z) (name Z) → (Xs : List Link) {ns : List (Node P)} {ms : List (Node Q)} → Each R ns ms → R (tied Xs ns Z) (tied Xs ms Z)
stand-related R Z r [] e = r
stand-related R Z r (X ∷ Xs) done = r
stand-related R Z r (X ∷ Xs) (more {a = n} {b = m} {l = ns} {k = ms} s e) = at (Z ≟ X) (stand-related R Z r Xs e)
  where
    at : (d : Dec (Z ≡ X)) → R (tied Xs ns Z) (tied Xs ms Z) → R (select d n (tied Xs ns Z)) (select d m (tied Xs ms Z))
    at (yes q) t = s
    at (no q) t = t

-- Wires add no connection but that of each new name with its node.
pub wires-connected : {P : Type 0} (Xs : List Link) (ns : List (Node P)) (E D : List (Fusion P)) → Perm D (wires Xs ns ++ E) → Distinct Xs → ((n : Node P) → n ∈ ns → Old Xs n) → ((n : Node P) → n ∈ end_nodes E → Old Xs n) → (a b : Node P) → Connected D a b ↔ Connected E (stand Xs ns a) (stand Xs ns b)
wires-connected {P} Xs ns E D p apart on oe a b = (λ c. connected-map D E (stand Xs ns) (λ e m. all_append (wires Xs ns) E (λ d. Connected E (stand Xs ns d.0) (stand Xs ns d.1)) wire edge e (perm-member p e m)) c, λ c. then (reach a) (then (connected-mono E D (λ e m. perm-member (perm-sym p) e (Memᴰ.append_right (wires Xs ns) m)) c) (back (reach b))))
  where
    wire : (e : Fusion P) → e ∈ wires Xs ns → Connected E (stand Xs ns e.0) (stand Xs ns e.1)
    wire e m = let t = wire-tie Xs ns apart m in connected-≡ E (ap (stand Xs ns) t.2 ∙ t.3 ∙ sym (stand-old Xs ns e.1 (on e.1 t.4)))

    edge : (e : Fusion P) → e ∈ E → Connected E (stand Xs ns e.0) (stand Xs ns e.1)
    edge e m = let t = ends-in m in recast (sym (stand-old Xs ns e.0 (oe e.0 t.0))) (sym (stand-old Xs ns e.1 (oe e.1 t.1))) (along m)

    reach : (n : Node P) → Connected D n (stand Xs ns n)
    reach (inner q) = stay
    reach (name Z) = at (tied-cases Xs ns Z)
      where
        at : (tied Xs ns Z ≡ name Z) ⊎ ((name Z, tied Xs ns Z) ∈ wires Xs ns) → Connected D (name Z) (tied Xs ns Z)
        at (inl e) = connected-≡ D (sym e)
        at (inr m) = along (perm-member (perm-sym p) (name Z, tied Xs ns Z) (Memᴰ.append_left E m))
