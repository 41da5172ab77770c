-- A filled figure, as normal text, is what graph substitution makes of the figure.
use Prim.Native.Nat.{ℕ, zero, suc}
use mathlib.Core.Path.{◌≡◌, refl, ap, ap₂}
use mathlib.Core.Logic.{◌⊎◌, inl, inr, ◌↔◌}
use mathlib.Core.List.Memᴰ
use mathlib.Core.List.{List, [], ◌∷◌, map}
use native.Mathlib.Omega.{arith}
use native.Mathlib.Decide.{ℕ_discrete}
use Rattle.hyperlmntal.specs.Link.{select, ◌∈◌}
use Rattle.hyperlmntal.specs.Congruence.{◌≅◌, ≅-sym, ≅-trans}
use Rattle.hyperlmntal.specs.Hypergraph.{Node, inner, name, Flat, nodes}
use Rattle.hyperlmntal.specs.TermOf.{term_of, Marked}
use Rattle.hyperlmntal.specs.DenotedSubstitution.{Spot, outer, within, fill_flat}
use Rattle.hyperlmntal.specs.Isomorphism.{Isomorphic}
use Rattle.hyperlmntal.proofs.Lists.{all_map}
use Rattle.hyperlmntal.proofs.Relabel.{relabel, relabel-names}
use Rattle.hyperlmntal.proofs.Equivalence.{SameNames, isomorphic-of-iso, isomorphic-sym, isomorphic-trans}
use Rattle.hyperlmntal.proofs.Completeness.{isomorphic-congruent}
use Rattle.hyperlmntal.proofs.Denoting.{term_of-isomorphic}
use Rattle.hyperlmntal.proofs.ExactPorts.{ExactFlat, exact-names}
use Rattle.rows.specs.Held.{Held}
use Rattle.reading.specs.Graph.{graph_of, term_of_text}
use Rattle.reading.proofs.normal.TextGraph.{graph-marked}
use Rattle.texts.proofs.NormalIso.{normal-isomorphic, normal-marked}
use Rattle.placing.specs.Fillings.{Filling, AllExactMarks}
use Rattle.placing.specs.Holding.{holding_term}
use Rattle.placing.specs.Filled.{flat_entry, of_part, spot_number, spot_node, filled_graph, filled_normal}
use Rattle.placing.proofs.Names.{exact-flat}
use Rattle.placing.proofs.Reduction.{filling-isomorphic}

-- The numbers tell the links apart.
part-injective : (i j n m : ℕ) → of_part i n ≡ of_part j m → (i ≡ j) × (n ≡ m)
part-injective zero zero n m e = (refl, omega arith)
part-injective zero (suc j) n m e = absurd (omega arith)
part-injective (suc i) zero n m e = absurd (omega arith)
part-injective (suc i) (suc j) n m e = let t = part-injective i j n m (omega arith) in (ap suc t.0, t.1)

pub spot-injective : (s t : Spot ℕ ℕ) → spot_number s ≡ spot_number t → s ≡ t
spot-injective (outer n) (outer m) e = ap outer (part-injective zero zero n m e).1
spot-injective (outer n) (within j m) e = let t : zero ≡ suc j = (part-injective zero (suc j) n m e).0 in absurd (omega arith)
spot-injective (within i n) (outer m) e = let t : suc i ≡ zero = (part-injective (suc i) zero n m e).0 in absurd (omega arith)
spot-injective (within i n) (within j m) e =
    let t = part-injective (suc i) (suc j) n m e in
    let p : suc i ≡ suc j = t.0 in
    let q : i ≡ j = omega arith in
    ap₂ within q t.1

-- The first local link of number k among nodes.
abbrev spot_in : List (Node (Spot ℕ ℕ)) → ℕ → Node (Spot ℕ ℕ)
spot_in [] k = inner (outer k)
spot_in (inner s ∷ l) k = select (ℕ_discrete (spot_number s) k) (inner s) (spot_in l k)
spot_in (name X ∷ l) k = spot_in l k

spot_in_lem : (l : List (Node (Spot ℕ ℕ))) (s : Spot ℕ ℕ) → inner s ∈ l → spot_in l (spot_number s) ≡ inner s
spot_in_lem [] s i = absurd (Memᴰ.not-nil i)
spot_in_lem (inner t ∷ l) s i = at (ℕ_discrete (spot_number t) (spot_number s)) (Memᴰ.cases_cons i) (spot_in_lem l s)
  where
    at : (d : Dec (spot_number t ≡ spot_number s)) → (◌≡◌ {A = Node (Spot ℕ ℕ)} (inner s) (inner t)) ⊎ (inner s ∈ l)
        → (inner s ∈ l → spot_in l (spot_number s) ≡ inner s) → select d (inner t) (spot_in l (spot_number s)) ≡ inner s
    at (yes e) c f = ap inner (spot-injective t s e)
    at (no k) (inl e) f = absurd (let q : t ≡ s = cc in k (ap spot_number q))
    at (no k) (inr j) f = f j
spot_in_lem (name X ∷ l) s i = at (Memᴰ.cases_cons i) (spot_in_lem l s)
  where
    at : (◌≡◌ {A = Node (Spot ℕ ℕ)} (inner s) (name X)) ⊎ (inner s ∈ l) → (inner s ∈ l → spot_in l (spot_number s) ≡ inner s) → spot_in l (spot_number s) ≡ inner s
    at (inl e) f = absurd (let z : ◌≡◌ {A = ℕ} 0 1 = cc in omega arith)
    at (inr j) f = f j

abbrev node_in : List (Node (Spot ℕ ℕ)) → Node ℕ → Node (Spot ℕ ℕ)
node_in l (inner k) = spot_in l k
node_in l (name X) = name X

node_in_lem : (l : List (Node (Spot ℕ ℕ))) (n : Node (Spot ℕ ℕ)) → n ∈ l → node_in l (spot_node n) ≡ n
node_in_lem l (inner s) i = spot_in_lem l s i
node_in_lem l (name X) i = refl

module _ (F : Flat ℕ) (θ : List Filling) where
  numbered-names : SameNames (fill_flat (map flat_entry θ) F) (filled_graph F θ)
  numbered-names = let K = fill_flat (map flat_entry θ) F in relabel-names K spot_node (node_in (nodes K)) (node_in_lem (nodes K)) (λ X. refl) (λ X. refl)

  -- Numbering the links changes nothing.
  pub filled-numbered : Isomorphic (fill_flat (map flat_entry θ) F) (filled_graph F θ)
  filled-numbered = let K = fill_flat (map flat_entry θ) F in isomorphic-of-iso K (filled_graph F θ) (relabel K spot_node (node_in (nodes K)) (node_in_lem (nodes K)) (λ X. refl) (λ X. refl)) numbered-names

module _ (F : Flat ℕ) (marked : Marked F) (θ : List Filling) (exact : AllExactMarks θ) where
  -- The free links of a filled figure are those of the figure.
  pub filled-marked : Marked (filled_graph F θ)
  filled-marked X i = marked X ((exact-names ℕ ℕ (map flat_entry θ) (all_map flat_entry θ ExactFlat (λ f j. exact-flat f (exact f j))) X F).0 ((numbered-names F θ X).1 i))

  -- A filled figure, as normal text, is congruent to what graph substitution makes of the figure.
  pub filled-congruent : term_of (filled_normal F θ) ≅ holding_term (term_of F) θ
  filled-congruent =
      isomorphic-congruent
      (isomorphic-trans (isomorphic-sym (isomorphic-trans (normal-isomorphic (filled_graph F θ) filled-marked) (term_of-isomorphic (filled_normal F θ) (normal-marked (filled_graph F θ)))))
      (isomorphic-trans (isomorphic-sym (filled-numbered F θ)) (filling-isomorphic F marked θ exact)))

-- The same for the text of a figure.
pub filled-text : (h : Held) (θ : List Filling) → AllExactMarks θ → term_of (filled_normal (graph_of h) θ) ≅ holding_term (term_of_text h) θ
filled-text h θ exact = filled-congruent (graph_of h) (graph-marked h) θ exact

-- So the filled text is the same as a sheet exactly when the figure holding the fillings is.
pub filled-same : (s h : Held) (θ : List Filling) → AllExactMarks θ
    → (term_of (filled_normal (graph_of h) θ) ≅ term_of_text s) ↔ (holding_term (term_of_text h) θ ≅ term_of_text s)
filled-same s h θ exact = let t = filled-text h θ exact in (λ e. ≅-trans (≅-sym t) e, λ e. ≅-trans t e)
