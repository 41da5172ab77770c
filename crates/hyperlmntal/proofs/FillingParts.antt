-- Filling a molecule and filling under a ν.
use mathlib.Core.Path.{◌≡◌, refl, ap, ap₂, sym, ◌∙◌}
use mathlib.Core.Logic.{◌≢◌}
use mathlib.Core.List.{List, [], map, map-append}
use Prim.Native.Nat.{ℕ, ◌+◌, ◌-◌, ◌<◌}
use native.Mathlib.Omega.{arith}
use native.Mathlib.Decide.{dec_lt}
use lib.ListN.{length, length-map}
use Rattle.hyperlmntal.specs.Link.{Link, ◌≟◌, select}
use Rattle.hyperlmntal.specs.GraphSubstitution.{Entry}
use Rattle.hyperlmntal.specs.Hypergraph.{Node, inner, name, Cell, Flat, Place, here, under, left, right, map_cell, map_fusion, map_flat, join, on_left, on_right, hide}
use Rattle.hyperlmntal.specs.DenotedSubstitution.{Spot, within, outer_node, fill_cells, fill_flat}
use Rattle.hyperlmntal.proofs.Links.{select_yes, select_no}
use Rattle.hyperlmntal.proofs.Flats.{flat-≡, map_flat-join, map_flat-map_flat}
use Rattle.hyperlmntal.proofs.FreeNames.{hide-off}
use Rattle.hyperlmntal.proofs.Reordering.{Reordered, reordered-middle, reordered-≡, reordered-trans}
use Rattle.hyperlmntal.proofs.Filling.{LooseIn, fill_cells-append, fill_cells-natural, fill_fusions-natural, fill_flat-natural}
use Rattle.hyperlmntal.proofs.Grafting.{beside, settle}

module _ (θ : List (Entry (Flat Place))) where
  pub fill-molecule : (g h : ℕ → Place → Place) (c : ℕ) (F K : Flat Place) → length F.atoms ≡ c → Reordered (map_flat (settle (beside c g h)) (fill_flat θ (join (map_flat on_left F) (map_flat on_right K)))) (join (map_flat on_left (map_flat (settle g) (fill_flat θ F))) (map_flat on_right (map_flat (settle h) (fill_flat θ K))))
  fill-molecule g h c F K size = reordered-trans (reordered-≡ parts) (reordered-trans exchanged (reordered-≡ (sym (ap₂ join (whole on_left g F) (whole on_right h K)))))
    where
      s : Node (Spot Place Place) → Node Place
      s = settle (beside c g h)

      lefts : List (Cell Place)
      lefts = map (map_cell on_left) F.atoms

      rights : List (Cell Place)
      rights = map (map_cell on_right) K.atoms

      only : Flat Place → Flat (Spot Place Place)
      only M = record { atoms = []; fusions = map (map_fusion outer_node) M.fusions }

      -- A part of the result, moved to its side.
      part : (Node Place → Node Place) → (ℕ → Place → Place) → Flat (Spot Place Place) → Flat Place
      part f k M = map_flat f (map_flat (settle k) M)

      whole : (f : Node Place → Node Place) (k : ℕ → Place → Place) (M : Flat Place) → part f k (fill_flat θ M) ≡ join (part f k (fill_cells θ 0 M.atoms)) (part f k (only M))
      whole f k M = ap (map_flat f) (map_flat-join (settle k) (fill_cells θ 0 M.atoms) (only M)) ∙ map_flat-join f (map_flat (settle k) (fill_cells θ 0 M.atoms)) (map_flat (settle k) (only M))

      outer-left : (n : Node Place) → s (outer_node (on_left n)) ≡ on_left (settle g (outer_node n))
      outer-left (inner p) = refl
      outer-left (name X) = refl

      outer-right : (n : Node Place) → s (outer_node (on_right n)) ≡ on_right (settle h (outer_node n))
      outer-right (inner p) = refl
      outer-right (name X) = refl

      within-left : (k a b : ℕ) (q : Place) → k < length F.atoms → a ≡ 0 + k → b ≡ 0 + k → s (inner (within a q)) ≡ on_left (settle g (inner (within b q)))
      within-left k a b q r p e = ap inner (select_yes (dec_lt a c) (left (g a q)) (right (h (a - c) q)) (omega arith) ∙ ap (λ x. left (g x q)) (let z : a ≡ b = omega arith in z))

      within-right : (k a b : ℕ) (q : Place) → k < length K.atoms → a ≡ 0 + length lefts + k → b ≡ 0 + k → s (inner (within a q)) ≡ on_right (settle h (inner (within b q)))
      within-right k a b q r p e = let n : length lefts ≡ length F.atoms = length-map F.atoms (map_cell on_left) in ap inner (select_no (dec_lt a c) (left (g a q)) (right (h (a - c) q)) (omega arith) ∙ ap (λ x. right (h x q)) (let z : a - c ≡ b = omega arith in z))

      cells_left : map_flat s (fill_cells θ 0 lefts) ≡ part on_left g (fill_cells θ 0 F.atoms)
      cells_left = fill_cells-natural θ on_left s (λ n. on_left (settle g n)) (λ Z l. refl) F.atoms 0 0 within-left (λ n m. outer-left n) ∙ sym (map_flat-map_flat on_left (settle g) (fill_cells θ 0 F.atoms))

      cells_right : map_flat s (fill_cells θ (0 + length lefts) rights) ≡ part on_right h (fill_cells θ 0 K.atoms)
      cells_right = fill_cells-natural θ on_right s (λ n. on_right (settle h n)) (λ Z l. refl) K.atoms (0 + length lefts) 0 within-right (λ n m. outer-right n) ∙ sym (map_flat-map_flat on_right (settle h) (fill_cells θ 0 K.atoms))

      only-left : map_flat s (only (map_flat on_left F)) ≡ part on_left g (only F)
      only-left = flat-≡ refl (fill_fusions-natural θ on_left s (λ n. on_left (settle g n)) (λ Z l. refl) F.fusions (λ n m. outer-left n)) ∙ sym (map_flat-map_flat on_left (settle g) (only F))

      only-right : map_flat s (only (map_flat on_right K)) ≡ part on_right h (only K)
      only-right = flat-≡ refl (fill_fusions-natural θ on_right s (λ n. on_right (settle h n)) (λ Z l. refl) K.fusions (λ n m. outer-right n)) ∙ sym (map_flat-map_flat on_right (settle h) (only K))

      parts : map_flat s (fill_flat θ (join (map_flat on_left F) (map_flat on_right K))) ≡ join (join (part on_left g (fill_cells θ 0 F.atoms)) (part on_right h (fill_cells θ 0 K.atoms))) (join (part on_left g (only F)) (part on_right h (only K)))
      parts = ap₂ (λ A B. map_flat s (join A B)) (fill_cells-append θ 0 lefts rights) (flat-≡ refl (map-append (map_fusion outer_node) (map (map_fusion on_left) F.fusions) (map (map_fusion on_right) K.fusions))) ∙ map_flat-join s (join (fill_cells θ 0 lefts) (fill_cells θ (0 + length lefts) rights)) (join (only (map_flat on_left F)) (only (map_flat on_right K))) ∙ ap₂ join (map_flat-join s (fill_cells θ 0 lefts) (fill_cells θ (0 + length lefts) rights) ∙ ap₂ join cells_left cells_right) (map_flat-join s (only (map_flat on_left F)) (only (map_flat on_right K)) ∙ ap₂ join only-left only-right)

      exchanged : Reordered (join (join (part on_left g (fill_cells θ 0 F.atoms)) (part on_right h (fill_cells θ 0 K.atoms))) (join (part on_left g (only F)) (part on_right h (only K)))) (join (join (part on_left g (fill_cells θ 0 F.atoms)) (part on_left g (only F))) (join (part on_right h (fill_cells θ 0 K.atoms)) (part on_right h (only K))))
      exchanged = reordered-middle (part on_left g (fill_cells θ 0 F.atoms)) (part on_right h (fill_cells θ 0 K.atoms)) (part on_left g (only F)).fusions (part on_right h (only K)).fusions

  pub fill-hide : (g : ℕ → Place → Place) (W : Link) (F : Flat Place) → ((Z : Link) → LooseIn θ Z → Z ≢ W) → map_flat (settle (λ i q. under (g i q))) (fill_flat θ (map_flat (hide W) F)) ≡ map_flat (hide W) (map_flat (settle g) (fill_flat θ F))
  fill-hide g W F apart = fill_flat-natural θ (hide W) (settle (λ i q. under (g i q))) (λ n. hide W (settle g n)) (λ Z l. sym (hide-off W Z (apart Z l))) F (λ i q h. refl) (λ n m. outer-hide n) ∙ sym (map_flat-map_flat (hide W) (settle g) (fill_flat θ F))
    where
      at : (Z : Link) (d : Dec (Z ≡ W)) → settle (λ i q. under (g i q)) (outer_node (select d (inner here) (name Z))) ≡ select d (inner here) (name Z)
      at Z (yes e) = refl
      at Z (no n) = refl

      outer-hide : (n : Node Place) → settle (λ i q. under (g i q)) (outer_node (hide W n)) ≡ hide W (settle g (outer_node n))
      outer-hide (inner p) = refl
      outer-hide (name Z) = at Z (Z ≟ W)
