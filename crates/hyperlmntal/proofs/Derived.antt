-- Congruences that follow from the rules at once.
use mathlib.Core.Path.{◌≡◌, refl, subst}
use mathlib.Core.Logic.{◌⊎◌, ◌≢◌}
use mathlib.Core.List.Memᴰ
use mathlib.Core.List.{List, [], ◌∷◌}
use Rattle.hyperlmntal.specs.Link.{Link, ◌∈◌}
use Rattle.hyperlmntal.specs.Template.{Template, null, fusion, molecule, ν, fn}
use Rattle.hyperlmntal.specs.LinkSubstitution.{subst_link}
use Rattle.hyperlmntal.specs.Congruence.{◌≅◌, ≅-refl, ≅-sym, ≅-trans, E1, E2, E3, E4, E5, E6, E8, E9, E10}
use Rattle.hyperlmntal.proofs.Links.{subst_link-gone}

pub ≅-≡ : {G H : Template} → G ≡ H → G ≅ H
≅-≡ {G} e = subst (λ H. G ≅ H) e ≅-refl

pub E1-right : {G : Template} → molecule G null ≅ G
E1-right = ≅-trans E2 E1

pub E4-right : {G H K : Template} → G ≅ H → molecule K G ≅ molecule K H
E4-right e = ≅-trans E2 (≅-trans (E4 e) E2)

pub E4-both : {G G' H H' : Template} → G ≅ G' → H ≅ H' → molecule G H ≅ molecule G' H'
E4-both e f = ≅-trans (E4 e) (E4-right f)

pub exchange : {G H K : Template} → molecule G (molecule H K) ≅ molecule H (molecule G K)
exchange = ≅-trans E3 (≅-trans (E4 E2) (≅-sym E3))

-- νX.G is G where X is not free in G (004, lemma A.0.1).
pub ν-unused : (X : Link) (G : Template) → ¬ (X ∈ fn G) → ν X G ≅ G
ν-unused X G n = ≅-trans (E5 (≅-sym E1)) (≅-trans (E10 n) (≅-trans (E4 E8) E1))

pub E10-right : {X : Link} {G H : Template} → ¬ (X ∈ fn G) → ν X (molecule G H) ≅ molecule G (ν X H)
E10-right n = ≅-trans (E5 E2) (≅-trans (E10 n) E2)

-- E6, where X is not Y: the binder goes too.
pub fusion-absorbed : (X Y : Link) (G : Template) → X ≢ Y → (X ∈ fn G) ⊎ (Y ∈ fn G) → ν X (molecule (fusion X Y) G) ≅ subst_link Y X G
fusion-absorbed X Y G n h = ≅-trans (E6 h) (ν-unused X (subst_link Y X G) (subst_link-gone Y X G n))

-- Several binders.
abbrev pub νs : List Link → Template → Template
νs [] G = G
νs (X ∷ l) G = ν X (νs l G)

-- No link of one list is in the other.
abbrev pub Off : List Link → List Link → Type 0
Off l k = (Z : Link) → Z ∈ l → ¬ (Z ∈ k)

pub νs-≅ : (l : List Link) {G H : Template} → G ≅ H → νs l G ≅ νs l H
νs-≅ [] e = e
νs-≅ (X ∷ l) e = E5 (νs-≅ l e)

pub νs-inward : (X : Link) (l : List Link) (G : Template) → ν X (νs l G) ≅ νs l (ν X G)
νs-inward X [] G = ≅-refl
νs-inward X (Y ∷ l) G = ≅-trans E9 (E5 (νs-inward X l G))

pub νs-molecule : (l : List Link) (G H : Template) → Off l (fn H) → νs l (molecule G H) ≅ molecule (νs l G) H
νs-molecule [] G H h = ≅-refl
νs-molecule (X ∷ l) G H h = ≅-trans (E5 (νs-molecule l G H (λ Z m. h Z (Memᴰ.tail m)))) (E10 (h X (Memᴰ.head refl)))
