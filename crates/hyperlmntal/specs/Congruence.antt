-- Structural congruence of terms.
use Rattle.std.specs.Prelude.{◌⊎◌}
use Rattle.hyperlmntal.specs.Link.{Link, ◌∈◌}
use Rattle.hyperlmntal.specs.Template.{Template, null, fusion, molecule, ν, fn}
use Rattle.hyperlmntal.specs.LinkSubstitution.{subst_link}

-- Structural congruence (001; 004, definition 2.2.5 and figure 2.4): the least equivalence with E1 to E10; in E6 Y may be X.
infix 20 ◌≅◌
pub data ◌≅◌ : Template → Template → Type 0 where
  ≅-refl : {G : Template} → G ≅ G
  ≅-sym : {G H : Template} → G ≅ H → H ≅ G
  ≅-trans : {G H K : Template} → G ≅ H → H ≅ K → G ≅ K
  E1 : {G : Template} → molecule null G ≅ G
  E2 : {G H : Template} → molecule G H ≅ molecule H G
  E3 : {G H K : Template} → molecule G (molecule H K) ≅ molecule (molecule G H) K
  E4 : {G H K : Template} → G ≅ H → molecule G K ≅ molecule H K
  E5 : {X : Link} {G H : Template} → G ≅ H → ν X G ≅ ν X H
  E6 : {X Y : Link} {G : Template} → (X ∈ fn G) ⊎ (Y ∈ fn G) → ν X (molecule (fusion X Y) G) ≅ ν X (subst_link Y X G)
  E7 : {X Y : Link} → ν X (ν Y (fusion X Y)) ≅ null
  E8 : {X : Link} → ν X null ≅ null
  E9 : {X Y : Link} {G : Template} → ν X (ν Y G) ≅ ν Y (ν X G)
  E10 : {X : Link} {G H : Template} → ¬ (X ∈ fn H) → ν X (molecule G H) ≅ molecule (ν X G) H
