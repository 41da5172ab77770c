-- Laws of filling a hypergraph.
use mathlib.Core.Path.{◌≡◌, refl, ap, ap₂, sym, ◌∙◌}
use mathlib.Core.Logic.{◌⊎◌, inl, inr, ◌≢◌}
use mathlib.Core.List.Memᴰ
use mathlib.Core.List.{List, [], ◌∷◌, ◌++◌, map, map-map}
use mathlib.Core.Option.{Option, some, none}
use Prim.Native.Nat.{ℕ, suc, ◌+◌, ◌<◌}
use native.Mathlib.Omega.{arith}
use lib.ListN.{length, length-map}
use Rattle.hyperlmntal.specs.Link.{Link, ◌≟◌, select, ◌∈◌}
use Rattle.hyperlmntal.specs.GraphSubstitution.{Entry, same_functor, lookup}
use Rattle.hyperlmntal.specs.Hypergraph.{Node, inner, name, Label, symbol, hole, Cell, Fusion, Flat, port_nodes, end_nodes, map_cell, map_fusion, map_flat, join, On}
use Rattle.hyperlmntal.specs.DenotedSubstitution.{Spot, within, outer_node, connect, plug, fill_with, entry_for, fill_cells, fill_flat}
use Rattle.hyperlmntal.proofs.Lists.{map-agree}
use Rattle.hyperlmntal.proofs.Flats.{on-atoms, on-fusions, flat-≡, cell-≡, map_flat-join, map_flat-two, join-assoc}
use Rattle.hyperlmntal.proofs.Positions.{some-injective}

-- What a found entry is.
abbrev Fits : {B : Type 0} → List (Entry B) → ℕ → Entry B → Type 0
Fits θ n e = (e ∈ θ) × (n ≡ length e.ports)

pub lookup-fits : {B : Type 0} (x n : ℕ) (θ : List (Entry B)) (e : Entry B) → lookup x n θ ≡ some e → Fits θ n e
lookup-fits x n [] e p = absurd (let z : ◌≡◌ {A = ℕ} 0 1 = cc in omega arith)
lookup-fits {B} x n (d ∷ θ) e p = at (same_functor x n d) p (λ q. lookup-fits x n θ e q)
  where
    at : (c : Dec ((x ≡ d.number) × (n ≡ length d.ports))) → ◌≡◌ {A = Option (Entry B)} (select c (some d) (lookup x n θ)) (some e) → (lookup x n θ ≡ some e → Fits θ n e) → Fits (d ∷ θ) n e
    at (yes t) q f = let s : d ≡ e = some-injective q in (Memᴰ.head (sym s), t.1 ∙ ap (λ z. length z.ports) s)
    at (no k) q f = let t = f q in (Memᴰ.tail t.0, t.1)

pub entry-fits : {Q : Type 0} (θ : List (Entry (Flat Q))) (t : Label) (n : ℕ) (e : Entry (Flat Q)) → entry_for θ t n ≡ some e → Fits θ n e
entry-fits θ (symbol p) n e q = absurd (let z : ◌≡◌ {A = ℕ} 0 1 = cc in omega arith)
entry-fits θ (hole x) n e q = lookup-fits x n θ e q

-- A free link name of a filling that is no port.
abbrev pub LooseIn : {Q : Type 0} → List (Entry (Flat Q)) → Link → Type 0
LooseIn {Q} θ Z = (e : Entry (Flat Q)) × (e ∈ θ) × On (name Z) e.body × ¬ (Z ∈ e.ports)

pub fill_cells-append : {P Q : Type 0} (θ : List (Entry (Flat Q))) (i : ℕ) (l k : List (Cell P)) → fill_cells θ i (l ++ k) ≡ join (fill_cells θ i l) (fill_cells θ (i + length l) k)
fill_cells-append θ i [] k = ap (λ j. fill_cells θ j k) (omega arith)
fill_cells-append {P} {Q} θ i (c ∷ l) k = ap (join head) (fill_cells-append θ (suc i) l k ∙ ap (λ j. join (fill_cells θ (suc i) l) (fill_cells θ j k)) (omega arith)) ∙ join-assoc head (fill_cells θ (suc i) l) (fill_cells θ (i + suc (length l)) k)
  where
    head : Flat (Spot P Q)
    head = fill_with (entry_for θ c.label (length c.ports)) i c

-- Filling commutes with a map f of the template's nodes: u and v agree on what is filled before and after it.
module _ {P P' Q S : Type 0} (θ : List (Entry (Flat Q))) (f : Node P → Node P') (v : Node (Spot P' Q) → Node S) (u : Node (Spot P Q) → Node S) (loose : (Z : Link) → LooseIn θ Z → v (name Z) ≡ u (name Z)) where
  connect-natural : (ns : List (Node P)) (Ys : List Link) (Z : Link) → length ns ≡ length Ys → ((n : Node P) → n ∈ ns → v (outer_node (f n)) ≡ u (outer_node n)) → (¬ (Z ∈ Ys) → v (name Z) ≡ u (name Z)) → v (connect (map f ns) Ys Z) ≡ u (connect ns Ys Z)
  unfolding connect
  connect-natural [] [] Z s h k = k Memᴰ.not-nil
  connect-natural [] (Y ∷ Ys) Z s h k = absurd (omega arith)
  connect-natural (n ∷ ns) [] Z s h k = absurd (omega arith)
  connect-natural (n ∷ ns) (Y ∷ Ys) Z s h k = at (Z ≟ Y) (λ g. connect-natural ns Ys Z (omega arith) (λ m i. h m (Memᴰ.tail i)) g)
    where
      not_in : Z ≢ Y → ¬ (Z ∈ Ys) → (Z ≡ Y) ⊎ (Z ∈ Ys) → ⊥
      not_in a b (inl e) = a e
      not_in a b (inr i) = b i

      at : (d : Dec (Z ≡ Y)) → ((¬ (Z ∈ Ys) → v (name Z) ≡ u (name Z)) → v (connect (map f ns) Ys Z) ≡ u (connect ns Ys Z)) → v (select d (outer_node (f n)) (connect (map f ns) Ys Z)) ≡ u (select d (outer_node n) (connect ns Ys Z))
      at (yes e) g = h n (Memᴰ.head refl)
      at (no a) g = g (λ b. k (λ i. not_in a b (Memᴰ.cases_cons i)))

  fill_with-natural : (o : Option (Entry (Flat Q))) (c : Cell P) → ((e : Entry (Flat Q)) → o ≡ some e → Fits θ (length c.ports) e) → (i j : ℕ) → ((q : Q) → v (inner (within i q)) ≡ u (inner (within j q))) → ((n : Node P) → n ∈ c.ports → v (outer_node (f n)) ≡ u (outer_node n)) → map_flat v (fill_with o i (map_cell f c)) ≡ map_flat u (fill_with o j c)
  fill_with-natural none c fits i j w h = flat-≡ (ap (λ d. d ∷ []) (cell-≡ refl (map-map v outer_node (map f c.ports) ∙ map-map (λ n. v (outer_node n)) f c.ports ∙ map-agree _ _ c.ports h ∙ sym (map-map u outer_node c.ports)))) refl
  fill_with-natural (some e) c fits i j w h = map_flat-two v (plug i (map f c.ports) e.ports) u (plug j c.ports e.ports) e.body at
    where
      at : (n : Node Q) → On n e.body → v (plug i (map f c.ports) e.ports n) ≡ u (plug j c.ports e.ports n)
      at (inner q) m = w q
      at (name Z) m = let t = fits e refl in connect-natural c.ports e.ports Z t.1 h (λ k. loose Z (e, t.0, m, k))

  pub fill_cells-natural : (l : List (Cell P)) (i j : ℕ) → ((k a b : ℕ) (q : Q) → k < length l → a ≡ i + k → b ≡ j + k → v (inner (within a q)) ≡ u (inner (within b q))) → ((n : Node P) → n ∈ port_nodes l → v (outer_node (f n)) ≡ u (outer_node n)) → map_flat v (fill_cells θ i (map (map_cell f) l)) ≡ map_flat u (fill_cells θ j l)
  fill_cells-natural [] i j w h = refl
  fill_cells-natural (c ∷ l) i j w h = map_flat-join v (fill_with (entry_for θ c.label (length (map f c.ports))) i (map_cell f c)) (fill_cells θ (suc i) (map (map_cell f) l)) ∙ ap₂ join (ap (λ n. map_flat v (fill_with (entry_for θ c.label n) i (map_cell f c))) (length-map c.ports f) ∙ fill_with-natural (entry_for θ c.label (length c.ports)) c (entry-fits θ c.label (length c.ports)) i j (λ q. w 0 i j q (omega arith) (omega arith) (omega arith)) (λ n m. h n (Memᴰ.append_left (port_nodes l) m))) (fill_cells-natural l (suc i) (suc j) (λ k a b q s p r. w (suc k) a b q (omega arith) (omega arith) (omega arith)) (λ n m. h n (Memᴰ.append_right c.ports m))) ∙ sym (map_flat-join u (fill_with (entry_for θ c.label (length c.ports)) j c) (fill_cells θ (suc j) l))

  pub fill_fusions-natural : (E : List (Fusion P)) → ((n : Node P) → n ∈ end_nodes E → v (outer_node (f n)) ≡ u (outer_node n)) → map (map_fusion v) (map (map_fusion outer_node) (map (map_fusion f) E)) ≡ map (map_fusion u) (map (map_fusion outer_node) E)
  fill_fusions-natural [] h = refl
  fill_fusions-natural (e ∷ E) h = ap₂ ◌∷◌ (λ i. (h e.0 (Memᴰ.head refl) i, h e.1 (Memᴰ.tail (Memᴰ.head refl)) i)) (fill_fusions-natural E (λ n m. h n (Memᴰ.tail (Memᴰ.tail m))))

  pub fill_flat-natural : (F : Flat P) → ((i : ℕ) (q : Q) → i < length F.atoms → v (inner (within i q)) ≡ u (inner (within i q))) → ((n : Node P) → On n F → v (outer_node (f n)) ≡ u (outer_node n)) → map_flat v (fill_flat θ (map_flat f F)) ≡ map_flat u (fill_flat θ F)
  fill_flat-natural F w h = map_flat-join v (fill_cells θ 0 (map (map_cell f) F.atoms)) (map_flat outer_node (map_flat f (only F))) ∙ ap₂ join (fill_cells-natural F.atoms 0 0 at (λ n m. h n (on-atoms F m))) (flat-≡ refl (fill_fusions-natural F.fusions (λ n m. h n (on-fusions F m)))) ∙ sym (map_flat-join u (fill_cells θ 0 F.atoms) (map_flat outer_node (only F)))
    where
      only : {A : Type 0} → Flat A → Flat A
      only K = record { atoms = []; fusions = K.fusions }

      at : (k a b : ℕ) (q : Q) → k < length F.atoms → a ≡ 0 + k → b ≡ 0 + k → v (inner (within a q)) ≡ u (inner (within b q))
      at k a b q s p r = w a q (omega arith) ∙ ap (λ x. u (inner (within x q))) (let e : a ≡ b = omega arith in e)
