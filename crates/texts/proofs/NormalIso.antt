-- A hypergraph and its normal form are isomorphic; so their terms are congruent, and a text is congruent to its normal form.
use Prim.Native.Nat.{ℕ, suc}
use mathlib.Core.Path.{◌≡◌, refl, sym, ap}
use mathlib.Core.List.Memᴰ
use mathlib.Core.List.{List, [], ◌∷◌, map}
use mathlib.Core.Bool.{Bool, true, false}
use mathlib.Core.Logic.{◌⊎◌, inl, inr}
use native.Mathlib.Omega.{arith}
use borrow.Author.Tests.{eqb-true, eqb-false}
use lib.Dec.{eqb}
use Rattle.hyperlmntal.specs.Link.{free, ◌∈◌}
use Rattle.hyperlmntal.specs.Congruence.{◌≅◌}
use Rattle.hyperlmntal.specs.Hypergraph.{Node, inner, name, Fusion, Flat, Connected, stay, along, back, then, nodes}
use Rattle.hyperlmntal.specs.Isomorphism.{Isomorphic}
use Rattle.hyperlmntal.specs.TermOf.{term_of, Marked}
use Rattle.hyperlmntal.proofs.Lists.{all_map, perm-refl}
use Rattle.hyperlmntal.proofs.Flats.{on-atoms, on-fusions, ends-in}
use Rattle.hyperlmntal.proofs.Connection.{connected-≡}
use Rattle.hyperlmntal.proofs.Relational.{Iso, iso-by}
use Rattle.hyperlmntal.proofs.Relabel.{cells-map}
use Rattle.hyperlmntal.proofs.Equivalence.{SameNames, isomorphic-of-iso, isomorphic-sym, isomorphic-trans}
use Rattle.hyperlmntal.proofs.Denoting.{term_of-isomorphic}
use Rattle.hyperlmntal.proofs.Completeness.{isomorphic-congruent}
use Rattle.rows.specs.Pick.{pick}
use Rattle.rows.specs.Held.{Held, index_of}
use Rattle.reading.specs.Graph.{graph_of, term_of_text}
use Rattle.reading.specs.Normal.{class_of, mark_node, marks_of, shown, distinct, classes_by, number_by, numbered_by, marked_by, normal_form_by, normal_form}
use Rattle.reading.proofs.normal.Classes.{connected-of-class, class-of-connected}
use Rattle.reading.proofs.normal.Distinct.{index_below, index-injective, distinct-in}
use Rattle.reading.proofs.normal.Marks.{marks-in, marks-of}
use Rattle.reading.proofs.normal.NormalBy.{port-shown, mark-shown}
use Rattle.reading.proofs.normal.NormalNodes.{Formed, form-nodes, form-mark}
use Rattle.reading.proofs.normal.TextGraph.{graph-marked}

-- The first node of a list with number k.
abbrev found : (Node ℕ → ℕ) → List (Node ℕ) → ℕ → Node ℕ
found number [] k = inner 0
found number (x ∷ l) k = pick (eqb (number x) k) x (found number l k)

found_at : (number : Node ℕ → ℕ) (l : List (Node ℕ)) (x : Node ℕ) → x ∈ l
    → (found number l (number x) ∈ l) × (number (found number l (number x)) ≡ number x)
found_at number [] x i = absurd (Memᴰ.not-nil i)
found_at number (y ∷ l) x i = go (eqb (number y) (number x)) refl (Memᴰ.cases_cons i) (found_at number l x)
  where
    go : (t : Bool) → eqb (number y) (number x) ≡ t → (x ≡ y) ⊎ (x ∈ l)
        → (x ∈ l → (found number l (number x) ∈ l) × (number (found number l (number x)) ≡ number x))
        → (pick t y (found number l (number x)) ∈ (y ∷ l)) × (number (pick t y (found number l (number x))) ≡ number x)
    go true e c ih = (Memᴰ.head refl, eqb-true _ _ e)
    go false e (inl p) ih = absurd (eqb-false _ _ e (ap number (sym p)))
    go false e (inr j) ih = let t = ih j in (Memᴰ.tail t.0, t.1)

module _ (F : Flat ℕ) where
  -- The number of a node in the normal form.
  abbrev pub link_number : Node ℕ → ℕ
  link_number = number_by (class_of F.fusions) F

  -- Equal numbers: connected.
  pub number-of-connected : {x y : Node ℕ} → Connected F.fusions x y → link_number x ≡ link_number y
  unfolding number_by
  number-of-connected c = ap (λ k. suc (index_of k (classes_by (class_of F.fusions) F))) (class-of-connected F.fusions c)

  pub connected-of-number : (x y : Node ℕ) → x ∈ shown F → link_number x ≡ link_number y → Connected F.fusions x y
  unfolding number_by classes_by
  connected-of-number x y i e =
      let label = class_of F.fusions in
      let l = distinct (map label (shown F)) in
      let h = index_below (label x) l (distinct-in (label x) (map label (shown F)) (Memᴰ.map label i)) in
      connected-of-class F.fusions x y (index-injective (label x) (label y) l h (omega arith))

  -- Nodes of the hypergraph and of its normal form.
  abbrev forth : Node ℕ → Node ℕ
  forth (inner n) = inner (link_number (inner n))
  forth (name X) = name X

  abbrev home : Node ℕ → Node ℕ
  home (inner k) = found link_number (shown F) k
  home (name X) = name X

  homed : (x : Node ℕ) → x ∈ shown F → Connected F.fusions x (found link_number (shown F) (link_number x))
  homed x i = let t = found_at link_number (shown F) x i in connected-of-number x (found link_number (shown F) (link_number x)) i (sym t.1)

  tied : Marked F → (x : Node ℕ) → x ∈ nodes F → Connected (normal_form F).fusions (forth x) (inner (link_number x))
  unfolding normal_form normal_form_by
  tied marked (inner n) i = stay
  tied marked (name X) i =
      let t = marked X i in
      rw t.1 (back (along (Memᴰ.map (marked_by (class_of F.fusions) F) (marks-in (nodes F) t.0 (rw t.1 at i)))))

  forth-keeps : Marked F → (e : Fusion ℕ) → e ∈ F.fusions → Connected (normal_form F).fusions (forth e.0) (forth e.1)
  forth-keeps marked e i =
      let o = ends-in i in
      then (tied marked e.0 (on-fusions F o.0)) (then (connected-≡ _ (ap inner (number-of-connected (along i)))) (back (tied marked e.1 (on-fusions F o.1))))

  home-keeps : (e : Fusion ℕ) → e ∈ (normal_form F).fusions → Connected F.fusions (home e.0) (home e.1)
  unfolding normal_form normal_form_by
  home-keeps =
      all_map (marked_by (class_of F.fusions) F) (marks_of F) (λ e. Connected F.fusions (home e.0) (home e.1))
      (λ m i. back (homed (mark_node m) (mark-shown F m i)))

  pub normal-iso : Marked F → Iso F (normal_form F)
  unfolding normal_form normal_form_by
  normal-iso marked =
      iso-by F (normal_form F) forth home (forth-keeps marked) home-keeps (λ X. (stay, stay))
      (F.atoms, perm-refl F.atoms, cells-map _ (numbered_by (class_of F.fusions) F) F.atoms (λ x i. (back (tied marked x (on-atoms F i)), homed x (port-shown F i))))

  pub normal-names : Marked F → SameNames F (normal_form F)
  unfolding normal_form
  normal-names marked X = (there, λ i. here (form-nodes (class_of F.fusions) F (name X) i))
    where
      there : name X ∈ nodes F → name X ∈ nodes (normal_form_by (class_of F.fusions) F)
      there i = let t = marked X i in rw t.1 (form-mark (class_of F.fusions) F t.0 (marks-in (nodes F) t.0 (rw t.1 at i)))

      here : Formed (class_of F.fusions) F (name X) → name X ∈ nodes F
      here (inl t) = let p : name X ≡ inner (link_number t.0) = t.2 in absurd (let z : ◌≡◌ {A = ℕ} 0 1 = cc in omega arith)
      here (inr t) = Memᴰ.cast t.2 (marks-of (nodes F) t.0 t.1)

  pub normal-isomorphic : Marked F → Isomorphic F (normal_form F)
  normal-isomorphic marked = isomorphic-of-iso F (normal_form F) (normal-iso marked) (normal-names marked)

  -- The free links of a normal form are marks.
  pub normal-marked : Marked (normal_form F)
  unfolding normal_form
  normal-marked X i = at (form-nodes (class_of F.fusions) F (name X) i)
    where
      at : Formed (class_of F.fusions) F (name X) → (m : ℕ) × (X ≡ free m)
      at (inl t) = let p : name X ≡ inner (link_number t.0) = t.2 in absurd (let z : ◌≡◌ {A = ℕ} 0 1 = cc in omega arith)
      at (inr t) = let p : name X ≡ name (free t.0) = t.2 in (t.0, cc)

-- Theorem N.
pub normal-congruent : (F : Flat ℕ) → Marked F → term_of F ≅ term_of (normal_form F)
normal-congruent F marked =
    let i = isomorphic-trans (normal-isomorphic F marked) (term_of-isomorphic (normal_form F) (normal-marked F)) in
    isomorphic-congruent (isomorphic-trans (isomorphic-sym (term_of-isomorphic F marked)) i)

pub text-normal : (h : Held) → term_of_text h ≅ term_of (normal_form (graph_of h))
text-normal h = normal-congruent (graph_of h) (graph-marked h)
