-- Isomorphisms that change only the local links, the order, or fusions that make no difference.
use mathlib.Core.Path.{◌≡◌, refl, sym, ◌∙◌}
use mathlib.Core.Logic.{◌↔◌}
use mathlib.Core.List.Memᴰ
use mathlib.Core.List.{List, [], ◌∷◌, ◌++◌, map}
use Rattle.hyperlmntal.specs.Link.{Link, ◌∈◌}
use Rattle.hyperlmntal.specs.Hypergraph.{Node, name, Cell, Fusion, Flat, Connected, stay, along, port_nodes, map_cell, map_fusion, map_flat, join, On}
use Rattle.hyperlmntal.proofs.Lists.{Each, done, more, all_map, all_append, perm-refl, perm_comm, each_map, each_maps}
use Rattle.hyperlmntal.proofs.Connection.{connected-≡, recast}
use Rattle.hyperlmntal.proofs.Relational.{Alike, Iso, cells-refl, iso-by}
use Rattle.hyperlmntal.proofs.Flats.{on-atoms, on-fusions, ends-in, on-map, on-of-map}

pub cells-maps : {P Q T : Type 0} (R : Node Q → Node T → Type 0) (f : Node P → Node Q) (g : Node P → Node T) (l : List (Cell P)) → ((n : Node P) → n ∈ port_nodes l → R (f n) (g n)) → Each (Alike R) (map (map_cell f) l) (map (map_cell g) l)
cells-maps R f g [] h = done
cells-maps R f g (c ∷ l) h = more (refl, each_maps f g R c.ports (λ n m. h n (Memᴰ.append_left (port_nodes l) m))) (cells-maps R f g l (λ n m. h n (Memᴰ.append_right c.ports m)))

pub cells-map : {P Q : Type 0} (R : Node P → Node Q → Type 0) (g : Node P → Node Q) (l : List (Cell P)) → ((n : Node P) → n ∈ port_nodes l → R n (g n)) → Each (Alike R) l (map (map_cell g) l)
cells-map R g [] h = done
cells-map R g (c ∷ l) h = more (refl, each_map g R c.ports (λ n m. h n (Memᴰ.append_left (port_nodes l) m))) (cells-map R g l (λ n m. h n (Memᴰ.append_right c.ports m)))

-- A map that keeps names and has an inverse on the nodes.
pub relabel : {P Q : Type 0} (F : Flat P) (t : Node P → Node Q) (u : Node Q → Node P) → ((n : Node P) → On n F → u (t n) ≡ n) → ((X : Link) → t (name X) ≡ name X) → ((X : Link) → u (name X) ≡ name X) → Iso F (map_flat t F)
relabel {P} {Q} F t u inverse tn un = iso-by F (map_flat t F) t u (λ e m. along (Memᴰ.map (map_fusion t) m)) (all_map (map_fusion t) F.fusions (λ e. Connected F.fusions (u e.0) (u e.1)) edge) (λ X. (connected-≡ _ (sym (tn X)), connected-≡ _ (sym (un X)))) (F.atoms, perm-refl F.atoms, cells-map _ t F.atoms (λ n m. (stay, connected-≡ _ (sym (inverse n (on-atoms F m))))))
  where
    edge : (e : Fusion P) → e ∈ F.fusions → Connected F.fusions (u (t e.0)) (u (t e.1))
    edge e m = let o = ends-in m in recast (sym (inverse e.0 (on-fusions F o.0))) (sym (inverse e.1 (on-fusions F o.1))) (along m)

pub relabel-names : {P Q : Type 0} (F : Flat P) (t : Node P → Node Q) (u : Node Q → Node P) → ((n : Node P) → On n F → u (t n) ≡ n) → ((X : Link) → t (name X) ≡ name X) → ((X : Link) → u (name X) ≡ name X) → (X : Link) → On (name X) F ↔ On (name X) (map_flat t F)
relabel-names {P} F t u inverse tn un X = (λ m. Memᴰ.cast (sym (tn X)) (on-map t F m), λ m. from (on-of-map t F m))
  where
    from : (n : Node P) × On n F × (t n ≡ name X) → On (name X) F
    from w = Memᴰ.cast (sym (sym (inverse w.0 w.1) ∙ ap-u)) w.1
      where
        ap-u : u (t w.0) ≡ name X
        ap-u = (λ i. u (w.2 i)) ∙ un X

-- Two joined hypergraphs in the other order.
pub join-comm : {P : Type 0} (F K : Flat P) → Iso (join F K) (join K F)
join-comm F K = iso-by (join F K) (join K F) (λ n. n) (λ n. n) (all_append F.fusions K.fusions _ (λ e m. along (Memᴰ.append_right K.fusions m)) (λ e m. along (Memᴰ.append_left F.fusions m))) (all_append K.fusions F.fusions _ (λ e m. along (Memᴰ.append_right F.fusions m)) (λ e m. along (Memᴰ.append_left K.fusions m))) (λ X. (stay, stay)) (K.atoms ++ F.atoms, perm_comm F.atoms K.atoms, cells-refl _ (λ a. (stay, stay)) (K.atoms ++ F.atoms))
