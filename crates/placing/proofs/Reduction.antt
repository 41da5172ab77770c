-- A figure holding fillings is congruent to a sheet exactly when the filled hypergraph is isomorphic to the sheet's.
use Prim.Native.Nat.{ℕ}
use mathlib.Core.Path.{refl, sym, subst}
use mathlib.Core.Logic.{◌↔◌}
use mathlib.Core.List.{List, map, map-map}
use Rattle.hyperlmntal.specs.Link.{◌∈◌}
use Rattle.hyperlmntal.specs.Congruence.{◌≅◌}
use Rattle.hyperlmntal.specs.Hypergraph.{Flat, flat}
use Rattle.hyperlmntal.specs.TermOf.{term_of, Marked}
use Rattle.hyperlmntal.specs.DenotedSubstitution.{Spot, fill_flat, denoted_by, denoted_all}
use Rattle.hyperlmntal.specs.Isomorphism.{Isomorphic}
use Rattle.hyperlmntal.proofs.Lists.{Each, all_map, each_maps}
use Rattle.hyperlmntal.proofs.Equivalence.{isomorphic-sym, isomorphic-trans}
use Rattle.hyperlmntal.proofs.Soundness.{congruent-isomorphic}
use Rattle.hyperlmntal.proofs.Completeness.{isomorphic-congruent}
use Rattle.hyperlmntal.proofs.Denoting.{term_of-isomorphic}
use Rattle.hyperlmntal.proofs.Substitution.{flat-substitution}
use Rattle.hyperlmntal.proofs.Slots.{EntryAlike}
use Rattle.hyperlmntal.proofs.ExactPorts.{ExactFlat, fill-isomorphic}
use Rattle.placing.specs.Net.{Net, net_graph, net_term}
use Rattle.placing.specs.Fillings.{Filling, rows_graph, ExactMarks, Fits}
use Rattle.placing.specs.Holding.{entry_of, substitution_of, holding_term, holding}
use Rattle.placing.specs.Filled.{flat_entry}
use Rattle.placing.proofs.Names.{net-marked, rows-marked, exact-flat}

-- The filled hypergraph.
abbrev pub filled : Net → List Filling → Flat (Spot ℕ ℕ)
filled F θ = fill_flat (map flat_entry θ) (net_graph F)

entries-alike : (θ : List Filling) → Each EntryAlike (map flat_entry θ) (denoted_all (substitution_of θ))
entries-alike θ =
    subst (λ l. Each EntryAlike (map flat_entry θ) l) (sym (map-map (denoted_by flat) entry_of θ))
    (each_maps flat_entry (λ f. denoted_by flat (entry_of f)) EntryAlike θ (λ f i. (refl, refl, term_of-isomorphic (rows_graph f.rows) (rows-marked f.rows))))

-- For any figure whose free links are marks.
pub filling-isomorphic : (F : Flat ℕ) → Marked F → (θ : List Filling) → ((f : Filling) → f ∈ θ → ExactMarks f.ports f.rows)
    → Isomorphic (fill_flat (map flat_entry θ) F) (flat (holding_term (term_of F) θ))
filling-isomorphic F marked θ exact =
    isomorphic-trans (fill-isomorphic F (flat (term_of F)) (term_of-isomorphic F marked) (entries-alike θ) (all_map flat_entry θ ExactFlat (λ f i. exact-flat f (exact f i))))
    (isomorphic-sym (flat-substitution (substitution_of θ) (term_of F)))

pub holding-isomorphic : (F : Net) (θ : List Filling) → Fits F θ → Isomorphic (filled F θ) (flat (holding F θ))
holding-isomorphic F θ fit = filling-isomorphic (net_graph F) (net-marked F) θ fit.exact

pub holding-congruent : (S F : Net) (θ : List Filling) → Fits F θ → (holding F θ ≅ net_term S) ↔ Isomorphic (filled F θ) (net_graph S)
holding-congruent S F θ fit =
    let h = holding-isomorphic F θ fit in
    let s = term_of-isomorphic (net_graph S) (net-marked S) in (
      λ e. isomorphic-trans h (isomorphic-trans (congruent-isomorphic e) (isomorphic-sym s)),
      λ i. isomorphic-congruent (isomorphic-trans (isomorphic-sym h) (isomorphic-trans i s)),
    )
