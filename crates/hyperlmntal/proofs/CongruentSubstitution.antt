-- Graph substitution respects congruence, of templates and of exact fillings.
use mathlib.Core.Path.{refl}
use mathlib.Core.List.{[], ◌∷◌}
use Rattle.hyperlmntal.specs.Template.{Template}
use Rattle.hyperlmntal.specs.Congruence.{◌≅◌, ≅-refl}
use Rattle.hyperlmntal.specs.GraphSubstitution.{Substitution, AllExact, AllCongruent, substitute}
use Rattle.hyperlmntal.proofs.Lists.{Each, done, more}
use Rattle.hyperlmntal.proofs.Soundness.{congruent-isomorphic}
use Rattle.hyperlmntal.proofs.Completeness.{isomorphic-congruent}
use Rattle.hyperlmntal.proofs.ExactPorts.{SameEntry, substitute-isomorphic}

same_entries : (θ η : Substitution) → AllCongruent θ η → Each SameEntry θ η
same_entries [] [] c = done
same_entries [] (f ∷ η) c = absurd c
same_entries (e ∷ θ) [] c = absurd c
same_entries (e ∷ θ) (f ∷ η) c = more (c.0, c.1, congruent-isomorphic c.2) (same_entries θ η c.3)

congruent-itself : (θ : Substitution) → AllCongruent θ θ
congruent-itself [] = tt
congruent-itself (e ∷ θ) = (refl, refl, ≅-refl, congruent-itself θ)

pub fillings-congruent : (θ η : Substitution) → AllExact θ → AllCongruent θ η → {T U : Template} → T ≅ U → substitute θ T ≅ substitute η U
fillings-congruent θ η exact c {T} {U} e = isomorphic-congruent (substitute-isomorphic T U (congruent-isomorphic e) (same_entries θ η c) exact)

pub substitute-congruent : (θ : Substitution) → AllExact θ → {T U : Template} → T ≅ U → substitute θ T ≅ substitute θ U
substitute-congruent θ exact e = fillings-congruent θ θ exact (congruent-itself θ) e
