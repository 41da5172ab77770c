-- E5 and E6 give isomorphic hypergraphs.
use mathlib.Core.Path.{◌≡◌, refl, ap, sym, ◌∙◌}
use mathlib.Core.Logic.{◌⊎◌, inl, inr}
use mathlib.Core.List.Memᴰ
use mathlib.Core.List.{List, map}
use Rattle.hyperlmntal.specs.Link.{Link, ◌≟◌, select, ◌∈◌}
use Rattle.hyperlmntal.specs.Template.{fusion}
use Rattle.hyperlmntal.specs.LinkSubstitution.{same, update}
use Rattle.hyperlmntal.specs.Hypergraph.{Node, inner, name, Fusion, Flat, Connected, stay, along, back, then, Place, here, under, left, right, map_cell, map_fusion, map_flat, join, on_left, on_right, hide, flat, rename_node}
use Rattle.hyperlmntal.proofs.Lists.{Each, all_map, perm-refl, perm-map, each-map₂}
use Rattle.hyperlmntal.proofs.Connection.{connected-ind, connected-map, connected-image, connected-≡, recast}
use Rattle.hyperlmntal.proofs.Relational.{Alike, Iso, Keeps, Turned, iso-by}
use Rattle.hyperlmntal.proofs.Links.{update-at, update-off}
use Rattle.hyperlmntal.proofs.FreeNames.{hide-at, hide-off, hide-name}
use Rattle.hyperlmntal.proofs.Relabel.{cells-maps}

-- E5: hiding a link on both sides.
data Hidden (R : Node Place → Node Place → Type 0) (X : Link) (a b : Node Place) : Type 0 where
  inside : (n m : Node Place) → R n m → a ≡ hide X n → b ≡ hide X m → Hidden R X a b
  outside : a ≡ name X → b ≡ name X → Hidden R X a b

reveal : Link → Node Place → Node Place
reveal X (inner here) = name X
reveal X (inner (under p)) = inner p
reveal X (inner (left p)) = inner here
reveal X (inner (right p)) = inner here
reveal X (name Z) = name Z

reveal-hide : (X : Link) (n : Node Place) → reveal X (hide X n) ≡ n
unfolding reveal
reveal-hide X (inner p) = refl
reveal-hide X (name Z) = at (Z ≟ X)
  where
    at : (d : Dec (Z ≡ X)) → reveal X (select d (inner here) (name Z)) ≡ name Z
    at (yes e) = ap name (sym e)
    at (no n) = refl

-- What is hidden is not connected to the free link of that name.
hidden-apart : (X : Link) (E : List (Fusion Place)) {a : Node Place} → Connected (map (map_fusion (hide X)) E) a (name X) → a ≡ name X
hidden-apart X E c = (connected-ind (map (map_fusion (hide X)) E) (λ n. n ≡ name X) (all_map (map_fusion (hide X)) E _ (λ e m. (λ p. absurd ((hide-name X e.0 p).1 refl), λ p. absurd ((hide-name X e.1 p).1 refl)))) c).1 refl

revealed : (X : Link) (E : List (Fusion Place)) {a b : Node Place} → Connected (map (map_fusion (hide X)) E) a b → Connected E (reveal X a) (reveal X b)
revealed X E c = connected-map (map (map_fusion (hide X)) E) E (reveal X) (all_map (map_fusion (hide X)) E _ (λ e m. recast (sym (reveal-hide X e.0)) (sym (reveal-hide X e.1)) (along m))) c

hidden-keeps : (X : Link) (E D : List (Fusion Place)) (R : Node Place → Node Place → Type 0) → Keeps R E D → Keeps (Hidden R X) (map (map_fusion (hide X)) E) (map (map_fusion (hide X)) D)
hidden-keeps X E D R on a b c d (inside n m r p q) (inside k l s u v) h = recast (sym q) (sym v) (connected-image D (hide X) (on n k m l r s (recast (ap (reveal X) p ∙ reveal-hide X n) (ap (reveal X) u ∙ reveal-hide X k) (revealed X E h))))
hidden-keeps X E D R on a b c d (inside n m r p q) (outside u v) h = absurd ((hide-name X n (sym p ∙ hidden-apart X E (recast refl u h))).1 refl)
hidden-keeps X E D R on a b c d (outside p q) (inside k l s u v) h = absurd ((hide-name X k (sym u ∙ hidden-apart X E (recast refl p (back h)))).1 refl)
hidden-keeps X E D R on a b c d (outside p q) (outside u v) h = connected-≡ _ (q ∙ sym v)

hidden-sym : {R : Node Place → Node Place → Type 0} {X : Link} {a b : Node Place} → Hidden R X a b → Hidden (Turned R) X b a
hidden-sym (inside n m r p q) = inside m n r q p
hidden-sym (outside p q) = outside q p

pub sound-E5 : (X : Link) (F K : Flat Place) → Iso F K → Iso (map_flat (hide X) F) (map_flat (hide X) K)
sound-E5 X F K i = record { R = Hidden i.R X; links = λ Z. link Z (Z ≟ X); cells = (map (map_cell (hide X)) i.cells.0, perm-map (map_cell (hide X)) i.cells.1, each-map₂ (map_cell (hide X)) (map_cell (hide X)) (λ c d t. (t.0, each-map₂ (hide X) (hide X) (λ n m r. inside n m r refl refl) t.1)) i.cells.2); onward = hidden-keeps X F.fusions K.fusions i.R i.onward; backward = λ a b c d r s h. hidden-keeps X K.fusions F.fusions (Turned i.R) i.backward a b c d (hidden-sym r) (hidden-sym s) h }
  where
    link : (Z : Link) → Dec (Z ≡ X) → Hidden i.R X (name Z) (name Z)
    link Z (yes e) = outside (ap name e) (ap name e)
    link Z (no n) = inside (name Z) (name Z) (i.links Z) (sym (hide-off X Z n)) (sym (hide-off X Z n))

-- E6: a fusion with a hidden link is a renaming.
absorb : Link → Link → Node Place → Node Place
absorb X Y (inner here) = hide X (name Y)
absorb X Y (inner (under here)) = inner here
absorb X Y (inner (under (under p))) = inner here
absorb X Y (inner (under (left p))) = inner here
absorb X Y (inner (under (right p))) = inner (under p)
absorb X Y (inner (left p)) = inner here
absorb X Y (inner (right p)) = inner here
absorb X Y (name Z) = name Z

emit : Node Place → Node Place
emit (inner here) = inner here
emit (inner (under p)) = inner (under (right p))
emit (inner (left p)) = inner here
emit (inner (right p)) = inner here
emit (name Z) = name Z

pub sound-E6 : (X Y : Link) (F : Flat Place) → Iso (map_flat (hide X) (join (map_flat on_left (flat (fusion X Y))) (map_flat on_right F))) (map_flat (hide X) (map_flat (rename_node (update same X Y)) F))
unfolding absorb emit
sound-E6 X Y F = iso-by A B (absorb X Y) emit down-edge up-edge (λ Z. (stay, stay)) (A.atoms, perm-refl A.atoms, cells)
  where
    σ : Link → Link
    σ = update same X Y

    A : Flat Place
    A = map_flat (hide X) (join (map_flat on_left (flat (fusion X Y))) (map_flat on_right F))

    B : Flat Place
    B = map_flat (hide X) (map_flat (rename_node σ) F)

    absorb-Y : (d : Dec (Y ≡ X)) → absorb X Y (select d (inner here) (name Y)) ≡ hide X (name Y)
    absorb-Y (yes e) = refl
    absorb-Y (no n) = sym (hide-off X Y n)

    down : (n : Node Place) → absorb X Y (hide X (on_right n)) ≡ hide X (rename_node σ n)
    down (inner p) = refl
    down (name Z) = at (Z ≟ X)
      where
        at : (d : Dec (Z ≡ X)) → absorb X Y (select d (inner here) (name Z)) ≡ hide X (name (σ Z))
        at (yes e) = ap (λ W. hide X (name W)) (sym (update-at same X Y Z e))
        at (no n) = sym (ap (λ W. hide X (name W)) (update-off same X Y Z n) ∙ hide-off X Z n)

    down-edge : (e : Fusion Place) → e ∈ A.fusions → Connected B.fusions (absorb X Y e.0) (absorb X Y e.1)
    down-edge e m = either (Memᴰ.cases_cons m)
      where
        either : (e ≡ (hide X (name X), hide X (name Y))) ⊎ (e ∈ map (map_fusion (hide X)) (map (map_fusion on_right) F.fusions)) → Connected B.fusions (absorb X Y e.0) (absorb X Y e.1)
        either (inl p) = connected-≡ _ (ap (λ d. absorb X Y d.0) p ∙ ap (absorb X Y) (hide-at X X refl) ∙ sym (absorb-Y (Y ≟ X)) ∙ sym (ap (λ d. absorb X Y d.1) p))
        either (inr k) = all_map (map_fusion (hide X)) (map (map_fusion on_right) F.fusions) (λ d. Connected B.fusions (absorb X Y d.0) (absorb X Y d.1)) (all_map (map_fusion on_right) F.fusions (λ d. Connected B.fusions (absorb X Y (hide X d.0)) (absorb X Y (hide X d.1))) (λ d i. recast (sym (down d.0)) (sym (down d.1)) (along (Memᴰ.map (map_fusion (hide X)) (Memᴰ.map (map_fusion (rename_node σ)) i))))) e k

    emit-Y : (d : Dec (Y ≡ X)) → emit (select d (inner here) (name Y)) ≡ select d (inner here) (name Y)
    emit-Y (yes e) = refl
    emit-Y (no n) = refl

    up : (n : Node Place) → Connected A.fusions (emit (hide X (rename_node σ n))) (hide X (on_right n))
    up (inner p) = stay
    up (name Z) = at (Z ≟ X)
      where
        at : Dec (Z ≡ X) → Connected A.fusions (emit (hide X (name (σ Z)))) (hide X (name Z))
        at (yes e) = recast (sym (emit-Y (Y ≟ X)) ∙ ap (λ U. emit (hide X (name U))) (sym (update-at same X Y Z e))) (ap (λ U. hide X (name U)) (sym e)) (back (along (Memᴰ.head refl)))
        at (no n) = connected-≡ _ (ap (λ U. emit (hide X (name U))) (update-off same X Y Z n) ∙ ap emit (hide-off X Z n) ∙ sym (hide-off X Z n))

    up-edge : (e : Fusion Place) → e ∈ B.fusions → Connected A.fusions (emit e.0) (emit e.1)
    up-edge = all_map (map_fusion (hide X)) (map (map_fusion (rename_node σ)) F.fusions) (λ d. Connected A.fusions (emit d.0) (emit d.1)) (all_map (map_fusion (rename_node σ)) F.fusions (λ d. Connected A.fusions (emit (hide X d.0)) (emit (hide X d.1))) (λ d i. then (up d.0) (then (along (Memᴰ.tail (Memᴰ.map (map_fusion (hide X)) (Memᴰ.map (map_fusion on_right) i)))) (back (up d.1)))))

    cells : Each (Alike (λ a b. Connected B.fusions b (absorb X Y a) × Connected A.fusions a (emit b))) A.atoms B.atoms
    cells = each-map₂ (map_cell (hide X)) (map_cell (hide X)) (λ c d t. (t.0, each-map₂ (hide X) (hide X) (λ n m r. r) t.1)) (cells-maps (λ n m. Connected B.fusions (hide X m) (absorb X Y (hide X n)) × Connected A.fusions (hide X n) (emit (hide X m))) on_right (rename_node σ) F.atoms (λ n m. (connected-≡ _ (sym (down n)), back (up n))))
