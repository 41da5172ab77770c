-- The nodes of a filled hypergraph.
use mathlib.Core.Path.{◌≡◌, refl, subst}
use mathlib.Core.Logic.{◌⊎◌, inl, inr}
use mathlib.Core.List.Memᴰ
use mathlib.Core.List.{List, [], ◌∷◌, map}
use mathlib.Core.Option.{Option, some, none}
use Prim.Native.Nat.{ℕ, suc, ◌+◌, ◌≤◌, ◌<◌}
use native.Mathlib.Omega.{arith}
use lib.ListN.{length}
use Rattle.hyperlmntal.specs.Link.{Link, ◌≟◌, select, ◌∈◌}
use Rattle.hyperlmntal.specs.GraphSubstitution.{Entry}
use Rattle.hyperlmntal.specs.Hypergraph.{Node, inner, name, Cell, Flat, port_nodes, end_nodes, map_fusion, On}
use Rattle.hyperlmntal.specs.DenotedSubstitution.{Spot, outer, within, outer_node, connect, plug, fill_with, entry_for, fill_cells, fill_flat}
use Rattle.hyperlmntal.proofs.Lists.{unpadded}
use Rattle.hyperlmntal.proofs.Flats.{end_nodes-map, on-of-map, on-join}

-- I holds of those that are the template's, and those of fillings have positions from i, below k.
abbrev pub Filled : {P Q : Type 0} → (Node P → Type 0) → ℕ → ℕ → Node (Spot P Q) → Type 0
Filled I i k (inner (outer p)) = I (inner p)
Filled I i k (inner (within j q)) = (i ≤ j) × (j < k)
Filled I i k (name X) = Unit {0}

module _ (P Q : Type 0) where
  filled-outer : (I : Node P → Type 0) (i k : ℕ) (n : Node P) → I n → Filled {Q = Q} I i k (outer_node n)
  filled-outer I i k (inner p) h = h
  filled-outer I i k (name X) h = tt

  pub filled_more : (I J : Node P → Type 0) (i j k l : ℕ) → ((n : Node P) → I n → J n) → j ≤ i → k ≤ l → (n : Node (Spot P Q)) → Filled I i k n → Filled J j l n
  filled_more I J i j k l f a b (inner (outer p)) h = f (inner p) h
  filled_more I J i j k l f a b (inner (within x q)) h = let s = h.0 in let t = h.1 in (omega arith, omega arith)
  filled_more I J i j k l f a b (name X) h = tt

  filled-connect : (I : Node P → Type 0) (i k : ℕ) (ns : List (Node P)) (Ys : List Link) (Z : Link) → ((n : Node P) → n ∈ ns → I n) → Filled {Q = Q} I i k (connect ns Ys Z)
  unfolding connect
  filled-connect I i k [] Ys Z h = tt
  filled-connect I i k (n ∷ ns) [] Z h = tt
  filled-connect I i k (n ∷ ns) (Y ∷ Ys) Z h = at (Z ≟ Y) (filled-connect I i k ns Ys Z (λ m j. h m (Memᴰ.tail j)))
    where
      at : (d : Dec (Z ≡ Y)) → Filled {Q = Q} I i k (connect ns Ys Z) → Filled {Q = Q} I i k (select d (outer_node n) (connect ns Ys Z))
      at (yes e) g = filled-outer I i k n (h n (Memᴰ.head refl))
      at (no e) g = g

  filled-with : (o : Option (Entry (Flat Q))) (i : ℕ) (c : Cell P) (n : Node (Spot P Q)) → On n (fill_with o i c) → Filled (λ m. m ∈ c.ports) i (suc i) n
  filled-with none i c n m = let t : (a : Node P) × (a ∈ c.ports) × (outer_node a ≡ n) = Memᴰ.of_map outer_node c.ports (unpadded (map outer_node c.ports) m) in subst (Filled (λ m. m ∈ c.ports) i (suc i)) t.2 (filled-outer (λ m. m ∈ c.ports) i (suc i) t.0 t.1)
  filled-with (some e) i c n m = let t = on-of-map (plug i c.ports e.ports) e.body m in subst (Filled (λ m. m ∈ c.ports) i (suc i)) t.2 (at t.0)
    where
      at : (k : Node Q) → Filled (λ m. m ∈ c.ports) i (suc i) (plug i c.ports e.ports k)
      at (inner q) = (omega arith, omega arith)
      at (name Z) = filled-connect _ i (suc i) c.ports e.ports Z (λ a j. j)

  filled-cells : (θ : List (Entry (Flat Q))) (i : ℕ) (l : List (Cell P)) (n : Node (Spot P Q)) → On n (fill_cells θ i l) → Filled (λ m. m ∈ port_nodes l) i (i + length l) n
  filled-cells θ i [] n m = absurd (Memᴰ.not-nil m)
  filled-cells θ i (c ∷ l) n m = side (on-join (fill_with (entry_for θ c.label (length c.ports)) i c) (fill_cells θ (suc i) l) m) (λ k. filled-cells θ (suc i) l n k)
    where
      side : On n (fill_with (entry_for θ c.label (length c.ports)) i c) ⊎ On n (fill_cells θ (suc i) l) → (On n (fill_cells θ (suc i) l) → Filled (λ m. m ∈ port_nodes l) (suc i) (suc i + length l) n) → Filled (λ m. m ∈ port_nodes (c ∷ l)) i (i + length (c ∷ l)) n
      side (inl k) g = filled_more (λ m. m ∈ c.ports) (λ m. m ∈ port_nodes (c ∷ l)) i i (suc i) (i + length (c ∷ l)) (λ a j. Memᴰ.append_left (port_nodes l) j) (omega arith) (omega arith) n (filled-with (entry_for θ c.label (length c.ports)) i c n k)
      side (inr k) g = filled_more (λ m. m ∈ port_nodes l) (λ m. m ∈ port_nodes (c ∷ l)) (suc i) i (suc i + length l) (i + length (c ∷ l)) (λ a j. Memᴰ.append_right c.ports j) (omega arith) (omega arith) n (g k)

  pub filled-nodes : (θ : List (Entry (Flat Q))) (F : Flat P) (n : Node (Spot P Q)) → On n (fill_flat θ F) → Filled (λ m. On m F) 0 (length F.atoms) n
  filled-nodes θ F n m = side (on-join (fill_cells θ 0 F.atoms) fusions m)
    where
      fusions : Flat (Spot P Q)
      fusions = record { atoms = []; fusions = map (map_fusion outer_node) F.fusions }

      side : On n (fill_cells θ 0 F.atoms) ⊎ On n fusions → Filled (λ m. On m F) 0 (length F.atoms) n
      side (inl k) = filled_more (λ m. m ∈ port_nodes F.atoms) (λ m. On m F) 0 0 (0 + length F.atoms) (length F.atoms) (λ a j. Memᴰ.append_left (end_nodes F.fusions) j) (omega arith) (omega arith) n (filled-cells θ 0 F.atoms n k)
      side (inr k) = let t : (a : Node P) × (a ∈ end_nodes F.fusions) × (outer_node a ≡ n) = Memᴰ.of_map outer_node (end_nodes F.fusions) (subst (λ l. n ∈ l) (end_nodes-map outer_node F.fusions) k) in subst (Filled (λ m. On m F) 0 (length F.atoms)) t.2 (filled-outer (λ m. On m F) 0 (length F.atoms) t.0 (Memᴰ.append_right (port_nodes F.atoms) t.1))
