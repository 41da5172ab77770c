-- The free link names of a term are those of its hypergraph, and renaming a term renames them.
use mathlib.Core.Path.{◌≡◌, refl, ap, ap₂, sym, ◌∙◌, subst}
use mathlib.Core.Logic.{◌⊎◌, inl, inr, ◌≢◌, ◌↔◌}
use mathlib.Core.List.Memᴰ
use mathlib.Core.List.{List, [], ◌∷◌, ◌++◌, map, map-map}
use Prim.Native.Nat.{ℕ}
use native.Mathlib.Omega.{arith}
use Rattle.hyperlmntal.specs.Link.{Link, ◌≟◌, select, ◌∈◌}
use Rattle.hyperlmntal.specs.Template.{Template, null, atom, fusion, molecule, ν, context, fn}
use Rattle.hyperlmntal.specs.LinkSubstitution.{avoid, update, rename}
use Rattle.hyperlmntal.specs.Hypergraph.{Node, inner, name, Flat, Place, here, map_flat, join, on_left, on_right, hide, flat, rename_node, On}
use Rattle.hyperlmntal.proofs.Lists.{unpadded}
use Rattle.hyperlmntal.proofs.Links.{select_yes, select_no, without_in, without-out, update-at, update-off, avoid-not}
use Rattle.hyperlmntal.proofs.Flats.{flat-≡, cell-≡, map_flat-two, map_flat-join, on-map, on-of-map, on-join, on-left, on-right}

pub name-injective : {P : Type 0} {X Y : Link} → ◌≡◌ {A = Node P} (name X) (name Y) → X ≡ Y
name-injective e = cc

pub on_left-name : (n : Node Place) {Z : Link} → on_left n ≡ name Z → n ≡ name Z
on_left-name (inner p) e = cc
on_left-name (name X) e = e

pub on_right-name : (n : Node Place) {Z : Link} → on_right n ≡ name Z → n ≡ name Z
on_right-name (inner p) e = cc
on_right-name (name X) e = e

pub hide-at : (X Z : Link) → Z ≡ X → hide X (name Z) ≡ inner here
hide-at X Z e = select_yes (Z ≟ X) (inner here) (name Z) e

pub hide-off : (X Z : Link) → Z ≢ X → hide X (name Z) ≡ name Z
hide-off X Z n = select_no (Z ≟ X) (inner here) (name Z) n

pub hide-name : (X : Link) (n : Node Place) {Z : Link} → hide X n ≡ name Z → (n ≡ name Z) × (Z ≢ X)
hide-name X (inner p) {Z} e = absurd (let z : ◌≡◌ {A = ℕ} 0 1 = cc in omega arith)
hide-name X (name Y) {Z} e = at (Y ≟ X) e
  where
    at : (d : Dec (Y ≡ X)) → ◌≡◌ {A = Node Place} (select d (inner here) (name Y)) (name Z) → (◌≡◌ {A = Node Place} (name Y) (name Z)) × (Z ≢ X)
    at (yes p) q = absurd (let z : ◌≡◌ {A = ℕ} 0 1 = cc in omega arith)
    at (no n) q = (q, λ r. n (name-injective q ∙ r))

listed : (Xs : List Link) {Z : Link} → ◌∈◌ {A = Node Place} (name Z) (map name Xs) → Z ∈ Xs
listed Xs {Z} m = let t : (W : Link) × (W ∈ Xs) × (◌≡◌ {A = Node Place} (name W) (name Z)) = Memᴰ.of_map name Xs m in Memᴰ.cast (sym (name-injective t.2)) t.1

pub fn-of-flat : (G : Template) {Z : Link} → On (name Z) (flat G) → Z ∈ fn G
fn-of-flat null m = absurd (Memᴰ.not-nil m)
fn-of-flat (atom p Xs) m = listed Xs (unpadded (map name Xs) m)
fn-of-flat (fusion X Y) m = listed (X ∷ Y ∷ []) m
fn-of-flat (molecule G H) {Z} m = side (on-join (map_flat on_left (flat G)) (map_flat on_right (flat H)) m) (λ k. fn-of-flat G k) (λ k. fn-of-flat H k)
  where
    side : On (name Z) (map_flat on_left (flat G)) ⊎ On (name Z) (map_flat on_right (flat H)) → (On (name Z) (flat G) → Z ∈ fn G) → (On (name Z) (flat H) → Z ∈ fn H) → Z ∈ fn G ++ fn H
    side (inl h) f g = let t = on-of-map on_left (flat G) h in Memᴰ.append_left (fn H) (f (Memᴰ.cast (sym (on_left-name t.0 t.2)) t.1))
    side (inr h) f g = let t = on-of-map on_right (flat H) h in Memᴰ.append_right (fn G) (g (Memᴰ.cast (sym (on_right-name t.0 t.2)) t.1))
fn-of-flat (ν X G) {Z} m = without_in X (fn G) (fn-of-flat G (Memᴰ.cast (sym b.0) t.1)) b.1
  where
    t : (k : Node Place) × On k (flat G) × (hide X k ≡ name Z)
    t = on-of-map (hide X) (flat G) m

    b : (t.0 ≡ name Z) × (Z ≢ X)
    b = hide-name X t.0 t.2
fn-of-flat (context x Xs) m = listed Xs (unpadded (map name Xs) m)

pub flat-of-fn : (G : Template) {Z : Link} → Z ∈ fn G → On (name Z) (flat G)
flat-of-fn null m = absurd (Memᴰ.not-nil m)
flat-of-fn (atom p Xs) m = Memᴰ.append_left [] (Memᴰ.append_left [] (Memᴰ.map name m))
flat-of-fn (fusion X Y) m = Memᴰ.map name m
flat-of-fn (molecule G H) {Z} m = side (Memᴰ.append_cases (fn G) m) (λ i. flat-of-fn G i) (λ i. flat-of-fn H i)
  where
    side : (Z ∈ fn G) ⊎ (Z ∈ fn H) → (Z ∈ fn G → On (name Z) (flat G)) → (Z ∈ fn H → On (name Z) (flat H)) → On (name Z) (flat (molecule G H))
    side (inl i) f g = on-left (map_flat on_left (flat G)) (map_flat on_right (flat H)) (on-map on_left (flat G) (f i))
    side (inr i) f g = on-right (map_flat on_left (flat G)) (map_flat on_right (flat H)) (on-map on_right (flat H) (g i))
flat-of-fn (ν X G) {Z} m = let t = without-out X (fn G) m in subst (λ n. On n (flat (ν X G))) (hide-off X Z t.0) (on-map (hide X) (flat G) (flat-of-fn G t.1))
flat-of-fn (context x Xs) m = Memᴰ.append_left [] (Memᴰ.append_left [] (Memᴰ.map name m))

-- The free link names of a term and of its hypergraph (004, lemma 2.4.3 and definition 2.4.6).
pub flat-names : (G : Template) (X : Link) → (X ∈ fn G) ↔ On (name X) (flat G)
flat-names G X = (λ m. flat-of-fn G m, λ m. fn-of-flat G m)

rename-left : (σ : Link → Link) (n : Node Place) → on_left (rename_node σ n) ≡ rename_node σ (on_left n)
rename-left σ (inner p) = refl
rename-left σ (name X) = refl

rename-right : (σ : Link → Link) (n : Node Place) → on_right (rename_node σ n) ≡ rename_node σ (on_right n)
rename-right σ (inner p) = refl
rename-right σ (name X) = refl

pub rename-molecule : (σ : Link → Link) (F K : Flat Place) → map_flat (rename_node σ) (join (map_flat on_left F) (map_flat on_right K)) ≡ join (map_flat on_left (map_flat (rename_node σ) F)) (map_flat on_right (map_flat (rename_node σ) K))
rename-molecule σ F K = map_flat-join (rename_node σ) (map_flat on_left F) (map_flat on_right K) ∙ ap₂ join (map_flat-two (rename_node σ) on_left on_left (rename_node σ) F (λ n m. sym (rename-left σ n))) (map_flat-two (rename_node σ) on_right on_right (rename_node σ) K (λ n m. sym (rename-right σ n)))

-- Hiding after renaming is renaming after hiding, where the new bound link W is none of the renamed free ones.
pub hide-rename : (σ : Link → Link) (X W : Link) (Zs : List Link) → ((Z : Link) → Z ∈ Zs → Z ≢ X → σ Z ≢ W) → (n : Node Place) → ((Z : Link) → n ≡ name Z → Z ∈ Zs) → hide W (rename_node (update σ X W) n) ≡ rename_node σ (hide X n)
hide-rename σ X W Zs apart (inner p) h = refl
hide-rename σ X W Zs apart (name Z) h = at (Z ≟ X)
  where
    at : (d : Dec (Z ≡ X)) → hide W (name (update σ X W Z)) ≡ rename_node σ (select d (inner here) (name Z))
    at (yes e) = hide-at W (update σ X W Z) (update-at σ X W Z e)
    at (no n) = ap (λ V'. hide W (name V')) (update-off σ X W Z n) ∙ hide-off W (σ Z) (apart Z (h Z refl) n)

-- The hypergraph of a renamed term (004, theorem 2.4.16, for several links at once).
pub flat-rename : (σ : Link → Link) (G : Template) → flat (rename σ G) ≡ map_flat (rename_node σ) (flat G)
flat-rename σ null = refl
flat-rename σ (atom p Xs) = flat-≡ (ap (λ c. c ∷ []) (cell-≡ refl (map-map name σ Xs ∙ sym (map-map (rename_node σ) name Xs)))) refl
flat-rename σ (fusion X Y) = refl
flat-rename σ (molecule G H) = ap₂ (λ F K. join (map_flat on_left F) (map_flat on_right K)) (flat-rename σ G) (flat-rename σ H) ∙ sym (rename-molecule σ (flat G) (flat H))
flat-rename σ (ν X G) = ap (map_flat (hide W)) (flat-rename (update σ X W) G) ∙ map_flat-two (hide W) (rename_node (update σ X W)) (rename_node σ) (hide X) (flat G) (λ n m. hide-rename σ X W (fn G) apart n (λ Z e. fn-of-flat G (Memᴰ.cast (sym e) m)))
  where
    W : Link
    W = avoid X (map σ (fn (ν X G)))

    apart : (Z : Link) → Z ∈ fn G → Z ≢ X → σ Z ≢ W
    apart Z m n e = avoid-not X (map σ (fn (ν X G))) (Memᴰ.cast (sym e) (Memᴰ.map σ (without_in X (fn G) m n)))
flat-rename σ (context x Xs) = flat-≡ (ap (λ c. c ∷ []) (cell-≡ refl (map-map name σ Xs ∙ sym (map-map (rename_node σ) name Xs)))) refl
