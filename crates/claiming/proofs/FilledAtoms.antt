-- A figure of which every blank has a filling: the vertices of the filled figure are its atoms and those of the fillings.
use Prim.Native.Nat.{ℕ}
use mathlib.Core.Path.{◌≡◌, refl, ap, sym, ◌∙◌, subst}
use mathlib.Core.Logic.{◌⊎◌, inl, inr}
use mathlib.Core.List.Memᴰ
use mathlib.Core.List.{List, [], ◌∷◌, ◌++◌, map}
use mathlib.Core.Option.{some}
use native.Mathlib.Omega.{arith}
use lib.ListN.{length, take, length-map, length-take}
use Rattle.hyperlmntal.specs.Link.{select, ◌∈◌}
use Rattle.hyperlmntal.specs.GraphSubstitution.{same_functor, lookup}
use Rattle.hyperlmntal.specs.Hypergraph.{Node, inner, Label, symbol, Cell, map_cell}
use Rattle.hyperlmntal.specs.Isomorphism.{functor}
use Rattle.hyperlmntal.proofs.Lists.{all_map}
use Rattle.rows.specs.Held.{Held}
use Rattle.rows.specs.declared.Context.{Context}
use Rattle.reading.specs.Graph.{atom_cell, context_cell, graph_of}
use Rattle.reading.specs.Normal.{class_of, numbered_by, normal_form_by, normal_form}
use Rattle.sheet.specs.declared.kind.Kind.{Kind}
use Rattle.sheet.specs.HeldLimits.{Every, ContextRange}
use Rattle.sheet.proofs.read.Every.{every_append}
use Rattle.texts.proofs.BuiltRows.{every_in}
use Rattle.placing.specs.Net.{NetCell, atom_vertex}
use Rattle.placing.specs.Fillings.{Filling, rows_graph}
use Rattle.placing.specs.Holding.{marks_from}
use Rattle.placing.specs.Filled.{flat_entry, filled_graph, filled_normal}
use Rattle.placing.specs.ListFits.{symbols_in}
use Rattle.placing.specs.FilledOrder.{put_for, put_for_all}
use Rattle.placing.proofs.Names.{rows-atoms, marks-length}
use Rattle.placing.proofs.FilledOrder.{text-order}
use Rattle.filling.proofs.ResultNet.{Atoms}
use Rattle.finding.proofs.Blanks.{Covering}

-- The first filling of a number and a port count is put for a blank of these.
abbrev Found : List Filling → ℕ → ℕ → Type 0
Found θ x n = (g : Filling) × (g ∈ θ) × (lookup x n (map flat_entry θ) ≡ some (flat_entry g))

found : (θ : List Filling) (x n : ℕ) (f : Filling) → f ∈ θ → f.number ≡ x → f.ports ≡ n → Found θ x n
found [] x n f m p q = absurd (Memᴰ.not-nil m)
found (g ∷ θ) x n f m p q = at (same_functor x n (flat_entry g)) (Memᴰ.cases_cons m) (λ i. found θ x n f i p q)
  where
    at : (d : Dec ((x ≡ g.number) × (n ≡ length (marks_from 1 g.ports)))) → (f ≡ g) ⊎ (f ∈ θ) → (f ∈ θ → Found θ x n)
        → (h : Filling) × (h ∈ (g ∷ θ)) × (select d (some (flat_entry g)) (lookup x n (map flat_entry θ)) ≡ some (flat_entry h))
    at (yes t) c ih = (g, Memᴰ.head refl, refl)
    at (no k) (inl e) ih = absurd (k (sym p ∙ ap (λ z. z.number) e, sym q ∙ ap (λ z. z.ports) e ∙ sym (marks-length 1 g.ports)))
    at (no k) (inr i) ih = let t = ih i in (t.0, Memᴰ.tail t.1, t.2)

-- What holds of the name and the port count of each atom of the figure and of the fillings holds of each vertex.
module _ (P : Label → ℕ → Type 0) where
  abbrev pub Each : List (Cell ℕ) → Type 0
  Each l = Every (λ (c : Cell ℕ). P c.label (length c.ports)) l

  append : (k l : List (Cell ℕ)) → Each k → Each l → Each (k ++ l)
  append k l p q = every_append (λ (c : Cell ℕ). P c.label (length c.ports)) k l p q

  same-functors : (k l : List (Cell ℕ)) → map functor k ≡ map functor l → Each l → Each k
  same-functors [] l e a = tt
  same-functors (c ∷ k) [] e a = absurd (let z : ◌≡◌ {A = ℕ} 0 1 = cc in omega arith)
  same-functors (c ∷ k) (d ∷ l) e a =
      let p : functor c ≡ functor d = cc in
      let q : map functor k ≡ map functor l = cc in
      (subst (λ (t : Label × ℕ). P t.0 t.1) (sym p) a.0, same-functors k l q a.1)

  unnumbered : (f : Node ℕ → Node ℕ) (l : List (Cell ℕ)) → Each (map (map_cell f) l) → Each l
  unnumbered f [] a = tt
  unnumbered f (c ∷ l) a = (subst (P c.label) (length-map c.ports f) a.0, unnumbered f l a.1)

  module _ (kind : Kind) (θ : List Filling) (filling : (f : Filling) → f ∈ θ → (c : NetCell) → c ∈ symbols_in f.rows → P (symbol c.0) (length (map inner c.1))) where
    vertices : (f : Filling) → f ∈ θ → Each (rows_graph f.rows).atoms
    vertices f m =
        subst Each (sym (rows-atoms f.rows))
        (every_in (λ (c : Cell ℕ). P c.label (length c.ports)) (map atom_vertex (symbols_in f.rows)) (all_map atom_vertex (symbols_in f.rows) (λ (c : Cell ℕ). P c.label (length c.ports)) (filling f m)))

    put : (l : List Context) → Every (ContextRange kind) l → Every (Covering θ) l → Each (put_for_all θ (map context_cell l))
    put [] r c = tt
    put (b ∷ l) r c =
        let w : length (map inner (take b.count b.links)) ≡ b.count = omega (arith, length-map (take b.count b.links) inner, length-take b.count b.links, r.0.count, r.0.ports.width) in
        let f = c.0 in
        let t = found θ b.number b.count f.0 f.1 f.2 f.3 in
        let o = lookup b.number (length (map inner (take b.count b.links))) (map flat_entry θ) in
        let e : o ≡ some (flat_entry t.0) = ap (λ n. lookup b.number n (map flat_entry θ)) w ∙ t.2 in
        append (put_for o (context_cell b)) (put_for_all θ (map context_cell l)) (subst (λ o. Each (put_for o (context_cell b))) (sym e) (vertices t.0 t.1)) (put l r.1 c.1)

    pub filled-each : (h : Held) → Each (map atom_cell h.atoms) → Every (ContextRange kind) h.contexts → Every (Covering θ) h.contexts → Each (filled_graph (graph_of h) θ).atoms
    unfolding normal_form normal_form_by
    filled-each h a r c =
        unnumbered (numbered_by (class_of (filled_graph (graph_of h) θ).fusions) (filled_graph (graph_of h) θ)) (filled_graph (graph_of h) θ).atoms
        (same-functors (filled_normal (graph_of h) θ).atoms (map atom_cell h.atoms ++ put_for_all θ (map context_cell h.contexts)) (text-order θ h)
        (append (map atom_cell h.atoms) (put_for_all θ (map context_cell h.contexts)) a (put h.contexts r c)))

-- So they are all atoms.
pub filled-atoms : (kind : Kind) (h : Held) (θ : List Filling) → Every (ContextRange kind) h.contexts → Every (Covering θ) h.contexts → Atoms (filled_graph (graph_of h) θ).atoms
filled-atoms kind h θ r c =
    filled-each (λ t n. (p : ℕ) × (t ≡ symbol p)) kind θ (λ f m d i. (d.0, refl)) h
    (every_in (λ (c : Cell ℕ). (p : ℕ) × (c.label ≡ symbol p)) (map atom_cell h.atoms) (all_map atom_cell h.atoms (λ (c : Cell ℕ). (p : ℕ) × (c.label ≡ symbol p)) (λ a i. (a.name, refl)))) r c
