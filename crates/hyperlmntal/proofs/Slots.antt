-- The fusions of a filled hypergraph, vertex by vertex.
use mathlib.Core.Path.{◌≡◌, refl, ap, sym, ◌∙◌, subst}
use mathlib.Core.List.Memᴰ
use mathlib.Core.List.{List, [], ◌∷◌, map}
use mathlib.Core.Option.{Option, some, none}
use Prim.Native.Nat.{ℕ, zero, suc, ◌+◌}
use native.Mathlib.Omega.{arith}
use lib.ListN.{length, get_elem?}
use Rattle.hyperlmntal.specs.Link.{Link, ◌≟◌, select, ◌∈◌}
use Rattle.hyperlmntal.specs.GraphSubstitution.{Entry, same_functor, lookup}
use Rattle.hyperlmntal.specs.Hypergraph.{Node, name, Label, symbol, hole, Cell, Fusion, Flat, map_fusion}
use Rattle.hyperlmntal.specs.Isomorphism.{Isomorphic}
use Rattle.hyperlmntal.specs.DenotedSubstitution.{Spot, outer_node, connect, plug, fill_with, entry_for, fill_cells, fill_flat}
use Rattle.hyperlmntal.proofs.Lists.{Each, done, more, all_map, all_append}
use Rattle.hyperlmntal.proofs.Positions.{some-injective}

abbrev pub body_of : {Q : Type 0} → Option (Entry (Flat Q)) → Flat Q
body_of none = record { atoms = []; fusions = [] }
body_of (some e) = e.body

abbrev pub ports_of : {B : Type 0} → Option (Entry B) → List Link
ports_of none = []
ports_of (some e) = e.ports

-- What is put for a vertex, and where its nodes go.
abbrev pub entry_at : {P Q : Type 0} → List (Entry (Flat Q)) → Cell P → Option (Entry (Flat Q))
entry_at θ c = entry_for θ c.label (length c.ports)

abbrev pub plug_at : {P Q : Type 0} → List (Entry (Flat Q)) → ℕ → Cell P → Node Q → Node (Spot P Q)
plug_at θ i c = plug i c.ports (ports_of (entry_at θ c))

module _ {P Q : Type 0} where
  fill_with-all : (o : Option (Entry (Flat Q))) (i : ℕ) (c : Cell P) (I : Fusion (Spot P Q) → Type 0) → ((d : Fusion Q) → d ∈ (body_of o).fusions → I (map_fusion (plug i c.ports (ports_of o)) d)) → (e : Fusion (Spot P Q)) → e ∈ (fill_with o i c).fusions → I e
  fill_with-all none i c I h e m = absurd (Memᴰ.not-nil m)
  fill_with-all (some x) i c I h e m = all_map (map_fusion (plug i c.ports x.ports)) x.body.fusions I h e m

  fill_with-in : (o : Option (Entry (Flat Q))) (i : ℕ) (c : Cell P) (d : Fusion Q) → d ∈ (body_of o).fusions → map_fusion (plug i c.ports (ports_of o)) d ∈ (fill_with o i c).fusions
  fill_with-in none i c d m = absurd (Memᴰ.not-nil m)
  fill_with-in (some x) i c d m = Memᴰ.map (map_fusion (plug i c.ports x.ports)) m

  fill_cells-all : (θ : List (Entry (Flat Q))) (i : ℕ) (l : List (Cell P)) (I : Fusion (Spot P Q) → Type 0) → ((k a : ℕ) (c : Cell P) → a ≡ i + k → get_elem? l k ≡ some c → (d : Fusion Q) → d ∈ (body_of (entry_at θ c)).fusions → I (map_fusion (plug_at θ a c) d)) → (e : Fusion (Spot P Q)) → e ∈ (fill_cells θ i l).fusions → I e
  fill_cells-all θ i [] I h e m = absurd (Memᴰ.not-nil m)
  fill_cells-all θ i (c ∷ l) I h e m = all_append (fill_with (entry_at θ c) i c).fusions (fill_cells θ (suc i) l).fusions I (fill_with-all (entry_at θ c) i c I (h 0 i c (omega arith) refl)) (fill_cells-all θ (suc i) l I (λ k a b p. h (suc k) a b (omega arith))) e m

  fill_cells-in : (θ : List (Entry (Flat Q))) (i : ℕ) (l : List (Cell P)) (k a : ℕ) (c : Cell P) → a ≡ i + k → get_elem? l k ≡ some c → (d : Fusion Q) → d ∈ (body_of (entry_at θ c)).fusions → map_fusion (plug_at θ a c) d ∈ (fill_cells θ i l).fusions
  fill_cells-in θ i [] k a c p e d m = absurd (let z : ◌≡◌ {A = ℕ} 0 1 = cc in omega arith)
  fill_cells-in θ i (b ∷ l) zero a c p e d m = Memᴰ.append_left (fill_cells θ (suc i) l).fusions (subst (λ x. map_fusion (plug_at θ a c) d ∈ (fill_with (entry_at θ x) i x).fusions) (sym (some-injective e)) (subst (λ x. map_fusion (plug_at θ a c) d ∈ (fill_with (entry_at θ c) x c).fusions) (let z : a ≡ i = omega arith in z) (fill_with-in (entry_at θ c) a c d m)))
  fill_cells-in θ i (b ∷ l) (suc k) a c p e d m = Memᴰ.append_right (fill_with (entry_at θ b) i b).fusions (fill_cells-in θ (suc i) l k a c (omega arith) e d m)

  -- All fusions of a filled hypergraph are those of the template and those of the fillings.
  pub fill_flat-all : (θ : List (Entry (Flat Q))) (F : Flat P) (I : Fusion (Spot P Q) → Type 0) → ((i : ℕ) (c : Cell P) → get_elem? F.atoms i ≡ some c → (d : Fusion Q) → d ∈ (body_of (entry_at θ c)).fusions → I (map_fusion (plug_at θ i c) d)) → ((e : Fusion P) → e ∈ F.fusions → I (map_fusion outer_node e)) → (e : Fusion (Spot P Q)) → e ∈ (fill_flat θ F).fusions → I e
  fill_flat-all θ F I h g e m = all_append (fill_cells θ 0 F.atoms).fusions (map (map_fusion outer_node) F.fusions) I (fill_cells-all θ 0 F.atoms I (λ k a c p q. h a c (ap (get_elem? F.atoms) (let z : a ≡ k = omega arith in z) ∙ q))) (all_map (map_fusion outer_node) F.fusions I g) e m

  pub fill_flat-slot : (θ : List (Entry (Flat Q))) (F : Flat P) (i : ℕ) (c : Cell P) → get_elem? F.atoms i ≡ some c → (d : Fusion Q) → d ∈ (body_of (entry_at θ c)).fusions → map_fusion (plug_at θ i c) d ∈ (fill_flat θ F).fusions
  fill_flat-slot θ F i c e d m = Memᴰ.append_left (map (map_fusion outer_node) F.fusions) (fill_cells-in θ 0 F.atoms i i c (omega arith) e d m)

  pub fill_flat-outer : (θ : List (Entry (Flat Q))) (F : Flat P) (e : Fusion P) → e ∈ F.fusions → map_fusion (outer_node {Q = Q}) e ∈ (fill_flat θ F).fusions
  fill_flat-outer θ F e m = Memᴰ.append_right (fill_cells θ 0 F.atoms).fusions (Memᴰ.map (map_fusion outer_node) m)

-- Entries for the same contexts with isomorphic bodies, and what they find.
abbrev pub EntryAlike : {Q Q' : Type 0} → Entry (Flat Q) → Entry (Flat Q') → Type 0
EntryAlike e f = (e.number ≡ f.number) × (e.ports ≡ f.ports) × Isomorphic e.body f.body

pub data Found {Q Q' : Type 0} : Option (Entry (Flat Q)) → Option (Entry (Flat Q')) → Type 0 where
  missing : Found none none
  hit : {e : Entry (Flat Q)} {f : Entry (Flat Q')} → EntryAlike e f → Found (some e) (some f)

lookup-found : {Q Q' : Type 0} {θ : List (Entry (Flat Q))} {θ' : List (Entry (Flat Q'))} → Each EntryAlike θ θ' → (x n : ℕ) → Found (lookup x n θ) (lookup x n θ')
lookup-found done x n = missing
lookup-found {Q} {Q'} (more {a = e} {b = f} {l = θ} {k = θ'} r s) x n = at (same_functor x n e) (same_functor x n f) (lookup-found s x n)
  where
    at : (c : Dec ((x ≡ e.number) × (n ≡ length e.ports))) (d : Dec ((x ≡ f.number) × (n ≡ length f.ports))) → Found (lookup x n θ) (lookup x n θ') → Found (select c (some e) (lookup x n θ)) (select d (some f) (lookup x n θ'))
    at (yes p) (yes q) h = hit r
    at (yes p) (no k) h = absurd (k (p.0 ∙ r.0, p.1 ∙ ap length r.1))
    at (no k) (yes q) h = absurd (k (q.0 ∙ sym r.0, q.1 ∙ ap length (sym r.1)))
    at (no k) (no l) h = h

pub entries-found : {Q Q' : Type 0} {θ : List (Entry (Flat Q))} {θ' : List (Entry (Flat Q'))} → Each EntryAlike θ θ' → (t : Label) (n : ℕ) → Found (entry_for θ t n) (entry_for θ' t n)
entries-found s (symbol p) n = missing
entries-found s (hole x) n = lookup-found s x n

pub found-ports : {Q Q' : Type 0} {o : Option (Entry (Flat Q))} {o' : Option (Entry (Flat Q'))} → Found o o' → ports_of o ≡ ports_of o'
found-ports missing = refl
found-ports (hit r) = r.1

-- A free link name of a filling goes to a node of the template, and to its partner in a template with related ports.
pub connect-related : {P P' Q Q' : Type 0} {R : Node P → Node P' → Type 0} → ((X : Link) → R (name X) (name X)) → {ns : List (Node P)} {ms : List (Node P')} → Each R ns ms → (Ys : List Link) (Z : Link) → (n : Node P) × (m : Node P') × R n m × (connect {Q = Q} ns Ys Z ≡ outer_node n) × (connect {Q = Q'} ms Ys Z ≡ outer_node m)
unfolding connect
connect-related links done Ys Z = (name Z, name Z, links Z, refl, refl)
connect-related links (more r s) [] Z = (name Z, name Z, links Z, refl, refl)
connect-related {P} {P'} {Q} {Q'} {R} links (more {a = n} {b = m} {l = ns} {k = ms} r s) (Y ∷ Ys) Z = at (Z ≟ Y) (connect-related {Q = Q} {Q' = Q'} links s Ys Z)
  where
    at : (d : Dec (Z ≡ Y)) → (x : Node P) × (y : Node P') × R x y × (connect {Q = Q} ns Ys Z ≡ outer_node x) × (connect {Q = Q'} ms Ys Z ≡ outer_node y) → (x : Node P) × (y : Node P') × R x y × (select d (outer_node {Q = Q} n) (connect ns Ys Z) ≡ outer_node x) × (select d (outer_node {Q = Q'} m) (connect ms Ys Z) ≡ outer_node y)
    at (yes e) t = (n, m, r, refl, refl)
    at (no e) t = t
