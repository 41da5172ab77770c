-- The term of a hypergraph denotes it.
use mathlib.Core.Path.{◌≡◌, refl, ap, ap₂, sym, ◌∙◌, subst}
use mathlib.Core.Logic.{◌⊎◌, inl, inr, ◌≢◌, ◌↔◌}
use mathlib.Core.List.Memᴰ
use mathlib.Core.List.{List, [], ◌∷◌, map, append-nil}
use Prim.Native.Nat.{ℕ}
use native.Mathlib.Omega.{arith}
use Rattle.hyperlmntal.specs.Link.{local, free, ◌≟◌, ◌∈◌}
use Rattle.hyperlmntal.specs.Template.{Template, molecule}
use Rattle.hyperlmntal.specs.Congruence.{◌≅◌}
use Rattle.hyperlmntal.specs.Hypergraph.{Node, inner, name, Label, symbol, hole, Cell, Fusion, Flat, nodes, Place, here, under, left, right, map_flat, join, on_left, on_right, hide, flat, On}
use Rattle.hyperlmntal.specs.Numbered.{flat_n}
use Rattle.hyperlmntal.specs.Isomorphism.{Isomorphic}
use Rattle.hyperlmntal.specs.TermOf.{link_of, labelled, vertex_terms, fusion_terms, inners, bind_all, term_of, Marked}
use Rattle.hyperlmntal.proofs.Flats.{flat-≡, map_flat-map_flat, map_flat-idle, map_flat-one}
use Rattle.hyperlmntal.proofs.FreeNames.{hide-at, hide-off}
use Rattle.hyperlmntal.proofs.Relational.{Iso}
use Rattle.hyperlmntal.proofs.Relabel.{relabel, relabel-names}
use Rattle.hyperlmntal.proofs.Equivalence.{SameNames, isomorphic-of-iso, isomorphic-sym, isomorphic-trans}
use Rattle.hyperlmntal.proofs.Numbering.{numbered-isomorphic}
use Rattle.hyperlmntal.proofs.Soundness.{congruent-isomorphic}
use Rattle.hyperlmntal.proofs.Completeness.{isomorphic-congruent}

abbrev named : Node ℕ → Node Place
named n = name (link_of n)

named-left : (t : Label) (ns : List (Node ℕ)) → map_flat on_left (flat (labelled t (map link_of ns))) ≡ record { atoms = record { label = t; ports = map named ns } ∷ []; fusions = [] }
named-left t ns = at t ∙ flat-≡ (ap (λ l. record { label = t; ports = l } ∷ []) (ports ns)) refl
  where
    ports : (l : List (Node ℕ)) → map on_left (map name (map link_of l)) ≡ map named l
    ports [] = refl
    ports (n ∷ l) = ap (λ k. named n ∷ k) (ports l)

    at : (s : Label) → map_flat on_left (flat (labelled s (map link_of ns))) ≡ record { atoms = record { label = s; ports = map on_left (map name (map link_of ns)) } ∷ []; fusions = [] }
    at (symbol p) = refl
    at (hole x) = refl

vertices-flat : (l : List (Cell ℕ)) → flat (vertex_terms l) ≡ map_flat named (record { atoms = l; fusions = [] })
vertices-flat [] = refl
vertices-flat (c ∷ l) = ap₂ join (named-left c.label c.ports) (ap (map_flat on_right) (vertices-flat l) ∙ map_flat-one on_right named named (record { atoms = l; fusions = [] }) (λ n m. refl))

fusions-flat : (l : List (Fusion ℕ)) → flat (fusion_terms l) ≡ map_flat named (record { atoms = []; fusions = l })
fusions-flat [] = refl
fusions-flat (e ∷ l) = ap (λ F. join (record { atoms = []; fusions = (named e.0, named e.1) ∷ [] }) F) (ap (map_flat on_right) (fusions-flat l) ∙ map_flat-one on_right named named (record { atoms = []; fusions = l }) (λ n m. refl))

rows-flat : (F : Flat ℕ) → flat (molecule (vertex_terms F.atoms) (fusion_terms F.fusions)) ≡ map_flat named F
rows-flat F = ap₂ join (ap (map_flat on_left) (vertices-flat F.atoms) ∙ map_flat-one on_left named named (record { atoms = F.atoms; fusions = [] }) (λ n m. refl)) (ap (map_flat on_right) (fusions-flat F.fusions) ∙ map_flat-one on_right named named (record { atoms = []; fusions = F.fusions }) (λ n m. refl)) ∙ flat-≡ (append-nil _) refl

-- Hiding all local links.
abbrev hide_all : List ℕ → Node Place → Node Place
hide_all [] n = n
hide_all (k ∷ ks) n = hide (local k) (hide_all ks n)

bind_all-flat : (ks : List ℕ) (T : Template) → flat (bind_all ks T) ≡ map_flat (hide_all ks) (flat T)
bind_all-flat [] T = sym (map_flat-idle (hide_all []) (flat T) (λ n. refl))
bind_all-flat (k ∷ ks) T = ap (map_flat (hide (local k))) (bind_all-flat ks T) ∙ map_flat-map_flat (hide (local k)) (hide_all ks) (flat T)

hide_all-free : (ks : List ℕ) (m : ℕ) → hide_all ks (name (free m)) ≡ name (free m)
hide_all-free [] m = refl
hide_all-free (k ∷ ks) m = ap (hide (local k)) (hide_all-free ks m) ∙ hide-off (local k) (free m) (λ e. let z : ◌≡◌ {A = ℕ} 0 1 = cc in omega arith)

abbrev number_at : List ℕ → Place → ℕ
number_at [] p = 0
number_at (k ∷ ks) here = k
number_at (k ∷ ks) (under p) = number_at ks p
number_at (k ∷ ks) (left p) = 0
number_at (k ∷ ks) (right p) = 0

abbrev Bound : List ℕ → ℕ → Type 0
Bound ks n = (p : Place) × (hide_all ks (name (local n)) ≡ inner p) × (number_at ks p ≡ n)

bound : (ks : List ℕ) (n : ℕ) → Bound ks n ⊎ ((hide_all ks (name (local n)) ≡ name (local n)) × ¬ (n ∈ ks))
bound [] n = inr (refl, Memᴰ.not-nil)
bound (k ∷ ks) n = at (bound ks n) (local n ≟ local k)
  where
    neither : local n ≢ local k → ¬ (n ∈ ks) → (n ≡ k) ⊎ (n ∈ ks) → ⊥
    neither a b (inl e) = a (ap local e)
    neither a b (inr i) = b i

    at : Bound ks n ⊎ ((hide_all ks (name (local n)) ≡ name (local n)) × ¬ (n ∈ ks)) → Dec (local n ≡ local k) → Bound (k ∷ ks) n ⊎ ((hide_all (k ∷ ks) (name (local n)) ≡ name (local n)) × ¬ (n ∈ (k ∷ ks)))
    at (inl t) d = inl (under t.0, ap (hide (local k)) t.1, t.2)
    at (inr t) (yes e) = inl (here, ap (hide (local k)) t.0 ∙ hide-at (local k) (local n) e, cc)
    at (inr t) (no a) = inr (ap (hide (local k)) t.0 ∙ hide-off (local k) (local n) a, λ m. neither a t.1 (Memᴰ.cases_cons m))

inners-in : (l : List (Node ℕ)) (n : ℕ) → inner n ∈ l → n ∈ inners l
inners-in [] n m = absurd (Memᴰ.not-nil m)
inners-in (inner k ∷ l) n m = at (Memᴰ.cases_cons m) (λ i. inners-in l n i)
  where
    at : (◌≡◌ {A = Node ℕ} (inner n) (inner k)) ⊎ (inner n ∈ l) → (inner n ∈ l → n ∈ inners l) → n ∈ (k ∷ inners l)
    at (inl e) f = let s : n ≡ k = cc in Memᴰ.head s
    at (inr i) f = Memᴰ.tail (f i)
inners-in (name X ∷ l) n m = at (Memᴰ.cases_cons m) (λ i. inners-in l n i)
  where
    at : (◌≡◌ {A = Node ℕ} (inner n) (name X)) ⊎ (inner n ∈ l) → (inner n ∈ l → n ∈ inners l) → n ∈ inners l
    at (inl e) f = absurd (let z : ◌≡◌ {A = ℕ} 0 1 = cc in omega arith)
    at (inr i) f = f i

abbrev placed : List ℕ → Node ℕ → Node Place
placed ks (inner n) = hide_all ks (name (local n))
placed ks (name X) = name X

abbrev unplaced : List ℕ → Node Place → Node ℕ
unplaced ks (inner p) = inner (number_at ks p)
unplaced ks (name X) = name X

module _ (F : Flat ℕ) (marked : Marked F) where
  ks : List ℕ
  ks = inners (nodes F)

  whole : flat (term_of F) ≡ map_flat (placed ks) F
  unfolding ks
  whole = bind_all-flat ks (molecule (vertex_terms F.atoms) (fusion_terms F.fusions)) ∙ ap (map_flat (hide_all ks)) (rows-flat F) ∙ map_flat-one (hide_all ks) named (placed ks) F at
    where
      at : (n : Node ℕ) → On n F → hide_all ks (named n) ≡ placed ks n
      at (inner n) m = refl
      at (name X) m = let t = marked X m in ap (λ Y. hide_all ks (name Y)) t.1 ∙ hide_all-free ks t.0 ∙ ap name (sym t.1)

  inverse : (n : Node ℕ) → On n F → unplaced ks (placed ks n) ≡ n
  unfolding ks
  inverse (inner n) m = at (bound ks n)
    where
      at : Bound ks n ⊎ ((hide_all ks (name (local n)) ≡ name (local n)) × ¬ (n ∈ ks)) → unplaced ks (hide_all ks (name (local n))) ≡ inner n
      at (inl t) = ap (unplaced ks) t.1 ∙ ap inner t.2
      at (inr t) = absurd (t.1 (inners-in (nodes F) n m))
  inverse (name X) m = refl

  pub term_of-iso : Iso F (flat (term_of F))
  term_of-iso = subst (λ K. Iso F K) (sym whole) (relabel F (placed ks) (unplaced ks) inverse (λ X. refl) (λ X. refl))

  pub term_of-names : SameNames F (flat (term_of F))
  term_of-names = subst (λ K. SameNames F K) (sym whole) (relabel-names F (placed ks) (unplaced ks) inverse (λ X. refl) (λ X. refl))

  pub term_of-isomorphic : Isomorphic F (flat (term_of F))
  term_of-isomorphic = isomorphic-of-iso F (flat (term_of F)) term_of-iso term_of-names

-- Two hypergraphs are isomorphic exactly when their terms are congruent.
pub terms-congruent : (F K : Flat ℕ) → Marked F → Marked K → Isomorphic F K ↔ (term_of F ≅ term_of K)
terms-congruent F K f k = (λ i. isomorphic-congruent (isomorphic-trans (isomorphic-sym (term_of-isomorphic F f)) (isomorphic-trans i (term_of-isomorphic K k))), λ e. isomorphic-trans (term_of-isomorphic F f) (isomorphic-trans (congruent-isomorphic e) (isomorphic-sym (term_of-isomorphic K k))))

-- The term of the hypergraph of G is congruent to G.
pub term_of-flat_n : (G : Template) → Marked (flat_n G) → term_of (flat_n G) ≅ G
term_of-flat_n G marked = isomorphic-congruent (isomorphic-sym (isomorphic-trans (numbered-isomorphic G) (term_of-isomorphic (flat_n G) marked)))
