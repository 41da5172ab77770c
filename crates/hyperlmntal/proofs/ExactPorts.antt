-- Fillings whose free link names are exactly their ports: they change no free link names, and isomorphic ones serve alike.
use mathlib.Core.Path.{◌≡◌, refl, ap, sym, ◌∙◌, subst}
use mathlib.Core.Logic.{◌⊎◌, inl, inr, ◌↔◌}
use mathlib.Core.List.Memᴰ
use mathlib.Core.List.{List, [], ◌∷◌, ◌++◌, map}
use mathlib.Core.Option.{Option, some, none}
use Prim.Native.Nat.{ℕ, suc}
use native.Mathlib.Omega.{arith}
use lib.ListN.{length}
use Rattle.hyperlmntal.specs.Link.{Link, ◌≟◌, select, ◌∈◌}
use Rattle.hyperlmntal.specs.Template.{Template, fn}
use Rattle.hyperlmntal.specs.GraphSubstitution.{Entry, Substitution, Distinct, AllExact, substitute}
use Rattle.hyperlmntal.specs.Hypergraph.{Node, inner, name, Cell, Flat, Place, port_nodes, end_nodes, map_fusion, join, flat, On}
use Rattle.hyperlmntal.specs.Numbered.{flat_n}
use Rattle.hyperlmntal.specs.Isomorphism.{Isomorphic}
use Rattle.hyperlmntal.specs.DenotedSubstitution.{Spot, outer_node, connect, plug, fill_with, fill_cells, fill_flat, denoted_by, denoted_all, denoted_all_n}
use Rattle.hyperlmntal.proofs.Lists.{unpadded, Each, done, more, all_map, each_maps, each-map₂}
use Rattle.hyperlmntal.proofs.Links.{select_yes, select_no}
use Rattle.hyperlmntal.proofs.Flats.{end_nodes-map, on-map, on-of-map, on-join, on-left, on-right, on-atoms, on-fusions}
use Rattle.hyperlmntal.proofs.FreeNames.{flat-names}
use Rattle.hyperlmntal.proofs.Equivalence.{isomorphic-of-iso, isomorphic-sym, isomorphic-trans}
use Rattle.hyperlmntal.proofs.Numbering.{numbered-isomorphic}
use Rattle.hyperlmntal.proofs.Filling.{entry-fits}
use Rattle.hyperlmntal.proofs.Slots.{entry_at, EntryAlike}
use Rattle.hyperlmntal.proofs.FillingIso.{fill-iso}
use Rattle.hyperlmntal.proofs.Substitution.{substitution-names, flat-substitution}

pub record ExactFlat {Q : Type 0} (e : Entry (Flat Q)) : Type 0 where
  pub distinct : Distinct e.ports
  pub names : (Z : Link) → On (name Z) e.body ↔ (Z ∈ e.ports)

outer_name : {P Q : Type 0} (m : Node P) (X : Link) → ◌≡◌ {A = Node (Spot P Q)} (outer_node m) (name X) → m ≡ name X
outer_name (inner p) X e = cc
outer_name (name Y) X e = cc

module _ (P Q : Type 0) where
  -- A port goes to a node of the vertex, and each node of the vertex is where some port goes.
  connect-hit : (ns : List (Node P)) (Ys : List Link) (Z : Link) → length ns ≡ length Ys → Z ∈ Ys → (m : Node P) × (m ∈ ns) × (connect {Q = Q} ns Ys Z ≡ outer_node m)
  unfolding connect
  connect-hit [] [] Z s m = absurd (Memᴰ.not-nil m)
  connect-hit [] (Y ∷ Ys) Z s m = absurd (omega arith)
  connect-hit (n ∷ ns) [] Z s m = absurd (omega arith)
  connect-hit (n ∷ ns) (Y ∷ Ys) Z s m = at (Z ≟ Y) (Memᴰ.cases_cons m) (λ i. connect-hit ns Ys Z (omega arith) i)
    where
      at : (d : Dec (Z ≡ Y)) → (Z ≡ Y) ⊎ (Z ∈ Ys) → (Z ∈ Ys → (m : Node P) × (m ∈ ns) × (connect {Q = Q} ns Ys Z ≡ outer_node m)) → (m : Node P) × (m ∈ (n ∷ ns)) × (select d (outer_node {Q = Q} n) (connect ns Ys Z) ≡ outer_node m)
      at (yes e) c f = (n, Memᴰ.head refl, refl)
      at (no k) (inl e) f = absurd (k e)
      at (no k) (inr i) f = let t = f i in (t.0, Memᴰ.tail t.1, t.2)

  connect-onto : (ns : List (Node P)) (Ys : List Link) (m : Node P) → length ns ≡ length Ys → Distinct Ys → m ∈ ns → (Y : Link) × (Y ∈ Ys) × (connect {Q = Q} ns Ys Y ≡ outer_node m)
  unfolding connect
  connect-onto [] Ys m s u i = absurd (Memᴰ.not-nil i)
  connect-onto (n ∷ ns) [] m s u i = absurd (omega arith)
  connect-onto (n ∷ ns) (Y ∷ Ys) m s u i = at (Memᴰ.cases_cons i) (λ k. connect-onto ns Ys m (omega arith) u.1 k)
    where
      at : (m ≡ n) ⊎ (m ∈ ns) → (m ∈ ns → (Z : Link) × (Z ∈ Ys) × (connect {Q = Q} ns Ys Z ≡ outer_node m)) → (Z : Link) × (Z ∈ (Y ∷ Ys)) × (select (Z ≟ Y) (outer_node {Q = Q} n) (connect ns Ys Z) ≡ outer_node m)
      at (inl e) f = (Y, Memᴰ.head refl, select_yes (Y ≟ Y) (outer_node n) (connect ns Ys Y) refl ∙ ap outer_node (sym e))
      at (inr k) f = let t = f k in (t.0, Memᴰ.tail t.1, select_no (t.0 ≟ Y) (outer_node n) (connect ns Ys t.0) (λ e. u.0 (Memᴰ.cast (sym e) t.1)) ∙ t.2)

  module _ (θ : List (Entry (Flat Q))) (exact : (e : Entry (Flat Q)) → e ∈ θ → ExactFlat e) (X : Link) where
    abbrev Fit : Cell P → Option (Entry (Flat Q)) → Type 0
    Fit c o = (e : Entry (Flat Q)) → o ≡ some e → (e ∈ θ) × (length c.ports ≡ length e.ports)

    with-names : (o : Option (Entry (Flat Q))) (i : ℕ) (c : Cell P) → Fit c o → On (name X) (fill_with o i c) → name X ∈ c.ports
    with-names none i c fit m = let t : (a : Node P) × (a ∈ c.ports) × (◌≡◌ {A = Node (Spot P Q)} (outer_node a) (name X)) = Memᴰ.of_map outer_node c.ports (unpadded (map outer_node c.ports) m) in Memᴰ.cast (sym (outer_name t.0 X t.2)) t.1
    with-names (some e) i c fit m = let t = on-of-map (plug i c.ports e.ports) e.body m in at t.0 t.1 t.2
      where
        at : (n : Node Q) → On n e.body → plug i c.ports e.ports n ≡ name X → name X ∈ c.ports
        at (inner q) k p = absurd (let z : ◌≡◌ {A = ℕ} 0 1 = cc in omega arith)
        at (name Z) k p = let f = fit e refl in let t = connect-hit c.ports e.ports Z f.1 (((exact e f.0).names Z).0 k) in Memᴰ.cast (sym (outer_name t.0 X (sym t.2 ∙ p))) t.1

    with-back : (o : Option (Entry (Flat Q))) (i : ℕ) (c : Cell P) → Fit c o → name X ∈ c.ports → On (name X) (fill_with o i c)
    with-back none i c fit m = Memᴰ.append_left [] (Memᴰ.append_left [] (Memᴰ.map outer_node m))
    with-back (some e) i c fit m = let f = fit e refl in let x = exact e f.0 in let t = connect-onto c.ports e.ports (name X) f.1 x.distinct m in Memᴰ.cast (sym t.2) (on-map (plug i c.ports e.ports) e.body ((x.names t.0).1 t.1))

    cells-names : (i : ℕ) (l : List (Cell P)) → On (name X) (fill_cells θ i l) → name X ∈ port_nodes l
    cells-names i [] m = absurd (Memᴰ.not-nil m)
    cells-names i (c ∷ l) m = side (on-join (fill_with (entry_at θ c) i c) (fill_cells θ (suc i) l) m) (λ k. cells-names (suc i) l k)
      where
        side : On (name X) (fill_with (entry_at θ c) i c) ⊎ On (name X) (fill_cells θ (suc i) l) → (On (name X) (fill_cells θ (suc i) l) → name X ∈ port_nodes l) → name X ∈ c.ports ++ port_nodes l
        side (inl k) f = Memᴰ.append_left (port_nodes l) (with-names (entry_at θ c) i c (entry-fits θ c.label (length c.ports)) k)
        side (inr k) f = Memᴰ.append_right c.ports (f k)

    cells-back : (i : ℕ) (l : List (Cell P)) → name X ∈ port_nodes l → On (name X) (fill_cells θ i l)
    cells-back i [] m = absurd (Memᴰ.not-nil m)
    cells-back i (c ∷ l) m = side (Memᴰ.append_cases c.ports m) (λ k. cells-back (suc i) l k)
      where
        side : (name X ∈ c.ports) ⊎ (name X ∈ port_nodes l) → (name X ∈ port_nodes l → On (name X) (fill_cells θ (suc i) l)) → On (name X) (join (fill_with (entry_at θ c) i c) (fill_cells θ (suc i) l))
        side (inl k) f = on-left (fill_with (entry_at θ c) i c) (fill_cells θ (suc i) l) (with-back (entry_at θ c) i c (entry-fits θ c.label (length c.ports)) k)
        side (inr k) f = on-right (fill_with (entry_at θ c) i c) (fill_cells θ (suc i) l) (f k)

    pub exact-names : (F : Flat P) → On (name X) (fill_flat θ F) ↔ On (name X) F
    exact-names F = (λ m. onward (on-join (fill_cells θ 0 F.atoms) outers m), λ m. backward (Memᴰ.append_cases (port_nodes F.atoms) m))
      where
        outers : Flat (Spot P Q)
        outers = record { atoms = []; fusions = map (map_fusion outer_node) F.fusions }

        ends : end_nodes outers.fusions ≡ map outer_node (end_nodes F.fusions)
        ends = end_nodes-map outer_node F.fusions

        onward : On (name X) (fill_cells θ 0 F.atoms) ⊎ On (name X) outers → On (name X) F
        onward (inl k) = on-atoms F (cells-names 0 F.atoms k)
        onward (inr k) = let t : (a : Node P) × (a ∈ end_nodes F.fusions) × (◌≡◌ {A = Node (Spot P Q)} (outer_node a) (name X)) = Memᴰ.of_map outer_node (end_nodes F.fusions) (subst (λ l. name X ∈ l) ends k) in on-fusions F (Memᴰ.cast (sym (outer_name t.0 X t.2)) t.1)

        backward : (name X ∈ port_nodes F.atoms) ⊎ (name X ∈ end_nodes F.fusions) → On (name X) (fill_flat θ F)
        backward (inl k) = on-left (fill_cells θ 0 F.atoms) outers (cells-back 0 F.atoms k)
        backward (inr k) = on-right (fill_cells θ 0 F.atoms) outers (subst (λ l. ◌∈◌ {A = Node (Spot P Q)} (name X) l) (sym ends) (Memᴰ.map outer_node k))

-- Filling isomorphic hypergraphs with isomorphic exact ones gives isomorphic ones.
exact-alike : {Q Q' : Type 0} {θ : List (Entry (Flat Q))} {θ' : List (Entry (Flat Q'))} → Each EntryAlike θ θ' → ((e : Entry (Flat Q)) → e ∈ θ → ExactFlat e) → (f : Entry (Flat Q')) → f ∈ θ' → ExactFlat f
exact-alike done exact f m = absurd (Memᴰ.not-nil m)
exact-alike {Q} {Q'} (more {a = e} {b = d} {l = θ} {k = θ'} r s) exact f m = at (Memᴰ.cases_cons m) (exact-alike s (λ x i. exact x (Memᴰ.tail i)) f)
  where
    first : ExactFlat d
    first = let x = exact e (Memᴰ.head refl) in record { distinct = subst Distinct r.1 x.distinct; names = λ Z. subst (λ Ys. On (name Z) d.body ↔ (Z ∈ Ys)) r.1 (λ h. (x.names Z).0 ((r.2.names Z).1 h), λ h. (r.2.names Z).0 ((x.names Z).1 h)) }

    at : (f ≡ d) ⊎ (f ∈ θ') → (f ∈ θ' → ExactFlat f) → ExactFlat f
    at (inl p) g = subst ExactFlat (sym p) first
    at (inr i) g = g i

pub fill-isomorphic : {P P' Q Q' : Type 0} (F : Flat P) (K : Flat P') → Isomorphic F K → {θ : List (Entry (Flat Q))} {θ' : List (Entry (Flat Q'))} → Each EntryAlike θ θ' → ((e : Entry (Flat Q)) → e ∈ θ → ExactFlat e) → Isomorphic (fill_flat θ F) (fill_flat θ' K)
fill-isomorphic {P} {P'} {Q} {Q'} F K i {θ} {θ'} es exact = isomorphic-of-iso (fill_flat θ F) (fill_flat θ' K) (fill-iso F K i es) (λ X. let a = exact-names P Q θ exact X F in let b = exact-names P' Q' θ' (exact-alike es exact) X K in (λ m. b.1 ((i.names X).0 (a.0 m)), λ m. a.1 ((i.names X).1 (b.0 m))))

-- The same for terms.
exact-denoted : (θ : Substitution) → AllExact θ → (f : Entry (Flat Place)) → f ∈ denoted_all θ → ExactFlat f
exact-denoted θ exact = all_map (denoted_by flat) θ ExactFlat (λ e m. record { distinct = (exact e m).distinct; names = λ Z. (λ h. ((exact e m).names Z).0 ((flat-names e.body Z).1 h), λ h. (flat-names e.body Z).0 (((exact e m).names Z).1 h)) })

pub substitute-free-names : (θ : Substitution) → AllExact θ → (T : Template) (X : Link) → (X ∈ fn (substitute θ T)) ↔ (X ∈ fn T)
substitute-free-names θ exact T X = let a = substitution-names θ T X in let b = exact-names Place Place (denoted_all θ) (exact-denoted θ exact) X (flat T) in let c = flat-names (substitute θ T) X in let d = flat-names T X in (λ m. d.1 (b.0 (a.0 (c.0 m))), λ m. c.1 (a.1 (b.1 (d.0 m))))

abbrev pub SameEntry : Entry Template → Entry Template → Type 0
SameEntry e f = (e.number ≡ f.number) × (e.ports ≡ f.ports) × Isomorphic (flat e.body) (flat f.body)

pub substitute-isomorphic : (T U : Template) {θ η : Substitution} → Isomorphic (flat T) (flat U) → Each SameEntry θ η → AllExact θ → Isomorphic (flat (substitute θ T)) (flat (substitute η U))
substitute-isomorphic T U {θ} {η} i es exact = isomorphic-trans (flat-substitution θ T) (isomorphic-trans (fill-isomorphic (flat T) (flat U) i (each-map₂ (denoted_by flat) (denoted_by flat) (λ e f r. r) es) (exact-denoted θ exact)) (isomorphic-sym (flat-substitution η U)))

-- What graph substitution denotes, with numbered local links.
pub flat_n-substitution : (θ : Substitution) → AllExact θ → (T : Template) → Isomorphic (flat_n (substitute θ T)) (fill_flat (denoted_all_n θ) (flat_n T))
flat_n-substitution θ exact T = isomorphic-trans (isomorphic-sym (numbered-isomorphic (substitute θ T))) (isomorphic-trans (flat-substitution θ T) (fill-isomorphic (flat T) (flat_n T) (numbered-isomorphic T) (each_maps (denoted_by flat) (denoted_by flat_n) EntryAlike θ (λ e m. (refl, refl, numbered-isomorphic e.body))) (exact-denoted θ exact)))
