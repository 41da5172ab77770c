-- H1: congruent templates denote isomorphic hypergraphs (004, theorem 2.5.2).
use mathlib.Core.Path.{ap, sym}
use Rattle.hyperlmntal.specs.Template.{Template, null}
use Rattle.hyperlmntal.specs.LinkSubstitution.{same, update}
use Rattle.hyperlmntal.specs.Congruence.{◌≅◌, ≅-refl, ≅-sym, ≅-trans, E1, E2, E3, E4, E5, E6, E7, E8, E9, E10}
use Rattle.hyperlmntal.specs.Hypergraph.{map_flat, hide, flat}
use Rattle.hyperlmntal.specs.Isomorphism.{Isomorphic}
use Rattle.hyperlmntal.proofs.Relational.{Iso, iso-refl, iso-sym, iso-trans, iso-≡}
use Rattle.hyperlmntal.proofs.FreeNames.{fn-of-flat, flat-of-fn, flat-rename}
use Rattle.hyperlmntal.proofs.CongruentNames.{congruent-free-names}
use Rattle.hyperlmntal.proofs.Equivalence.{isomorphic-of-iso}
use Rattle.hyperlmntal.proofs.SoundPlaces.{sound-E1, sound-E2, sound-E3, sound-E7, sound-E9, sound-E10}
use Rattle.hyperlmntal.proofs.SoundUnion.{sound-E4}
use Rattle.hyperlmntal.proofs.SoundHiding.{sound-E5, sound-E6}

-- By the relational isomorphism, rule by rule.
pub sound : {G H : Template} → G ≅ H → Iso (flat G) (flat H)
sound (≅-refl {G = G}) = iso-refl (flat G)
sound (≅-sym e) = iso-sym (sound e)
sound (≅-trans e f) = iso-trans (sound e) (sound f)
sound (E1 {G = G}) = sound-E1 G
sound (E2 {G = G} {H = H}) = sound-E2 (flat G) (flat H)
sound (E3 {G = G} {H = H} {K = K}) = sound-E3 (flat G) (flat H) (flat K)
sound (E4 {G = G} {H = H} {K = K} e) = sound-E4 (flat G) (flat H) (flat K) (sound e)
sound (E5 {X = X} {G = G} {H = H} e) = sound-E5 X (flat G) (flat H) (sound e)
sound (E6 {X = X} {Y = Y} {G = G} h) = iso-trans (sound-E6 X Y (flat G)) (iso-≡ (ap (map_flat (hide X)) (sym (flat-rename (update same X Y) G))))
sound (E7 {X = X} {Y = Y}) = sound-E7 X Y
sound (E8 {X = X}) = iso-refl (flat null)
sound (E9 {X = X} {Y = Y} {G = G}) = sound-E9 X Y (flat G)
sound (E10 {X = X} {G = G} {H = H} n) = sound-E10 X (flat G) (flat H) (λ m. n (fn-of-flat H m))

-- By the isomorphism of the definitions.
pub congruent-isomorphic : {G H : Template} → G ≅ H → Isomorphic (flat G) (flat H)
congruent-isomorphic {G} {H} e = isomorphic-of-iso (flat G) (flat H) (sound e) (λ X. (λ m. flat-of-fn H ((congruent-free-names e X).0 (fn-of-flat G m)), λ m. flat-of-fn G ((congruent-free-names e X).1 (fn-of-flat H m))))
