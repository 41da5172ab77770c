-- Maps and joins of hypergraphs, over any type of local links.
use mathlib.Core.Path.{◌≡◌, refl, ap, ap₂, sym, ◌∙◌, subst}
use mathlib.Core.Logic.{◌⊎◌, inl, inr}
use mathlib.Core.List.Memᴰ
use mathlib.Core.List.{List, [], ◌∷◌, ◌++◌, map, map-map, map-append, append_assoc}
use Rattle.hyperlmntal.specs.Link.{◌∈◌}
use Rattle.hyperlmntal.specs.Hypergraph.{Node, Cell, Fusion, Flat, port_nodes, end_nodes, nodes, On, map_cell, map_fusion, map_flat, join}
use Rattle.hyperlmntal.proofs.Lists.{map-agree, map-idle}

pub flat-≡ : {P : Type 0} {F K : Flat P} → F.atoms ≡ K.atoms → F.fusions ≡ K.fusions → F ≡ K
flat-≡ p q = λ i. record { atoms = p i; fusions = q i }

pub cell-≡ : {P : Type 0} {c d : Cell P} → c.label ≡ d.label → c.ports ≡ d.ports → c ≡ d
cell-≡ p q = λ i. record { label = p i; ports = q i }

pub map_flat-map_flat : {P Q T : Type 0} (f : Node Q → Node T) (g : Node P → Node Q) (F : Flat P) → map_flat f (map_flat g F) ≡ map_flat (λ n. f (g n)) F
map_flat-map_flat f g F = flat-≡ (map-map (map_cell f) (map_cell g) F.atoms ∙ map-agree _ _ F.atoms (λ c m. cell-≡ refl (map-map f g c.ports))) (map-map (map_fusion f) (map_fusion g) F.fusions)

pub map_flat-join : {P Q : Type 0} (f : Node P → Node Q) (F K : Flat P) → map_flat f (join F K) ≡ join (map_flat f F) (map_flat f K)
map_flat-join f F K = flat-≡ (map-append (map_cell f) F.atoms K.atoms) (map-append (map_fusion f) F.fusions K.fusions)

pub join-assoc : {P : Type 0} (F K M : Flat P) → join F (join K M) ≡ join (join F K) M
join-assoc F K M = flat-≡ (sym (append_assoc F.atoms K.atoms M.atoms)) (sym (append_assoc F.fusions K.fusions M.fusions))

-- Nodes of a hypergraph.
pub on-atoms : {P : Type 0} (F : Flat P) {n : Node P} → n ∈ port_nodes F.atoms → On n F
on-atoms F m = Memᴰ.append_left (end_nodes F.fusions) m

pub on-fusions : {P : Type 0} (F : Flat P) {n : Node P} → n ∈ end_nodes F.fusions → On n F
on-fusions F m = Memᴰ.append_right (port_nodes F.atoms) m

pub ends-in : {P : Type 0} {e : Fusion P} {l : List (Fusion P)} → e ∈ l → (e.0 ∈ end_nodes l) × (e.1 ∈ end_nodes l)
ends-in (Memᴰ.head p) = (Memᴰ.head (ap (λ x. x.0) p), Memᴰ.tail (Memᴰ.head (ap (λ x. x.1) p)))
ends-in (Memᴰ.tail m) = let t = ends-in m in (Memᴰ.tail (Memᴰ.tail t.0), Memᴰ.tail (Memᴰ.tail t.1))

pub port_nodes-map : {P Q : Type 0} (f : Node P → Node Q) (l : List (Cell P)) → port_nodes (map (map_cell f) l) ≡ map f (port_nodes l)
port_nodes-map f [] = refl
port_nodes-map f (c ∷ l) = ap (λ k. map f c.ports ++ k) (port_nodes-map f l) ∙ sym (map-append f c.ports (port_nodes l))

pub end_nodes-map : {P Q : Type 0} (f : Node P → Node Q) (l : List (Fusion P)) → end_nodes (map (map_fusion f) l) ≡ map f (end_nodes l)
end_nodes-map f [] = refl
end_nodes-map f (e ∷ l) = ap (λ k. f e.0 ∷ f e.1 ∷ k) (end_nodes-map f l)

pub nodes-map : {P Q : Type 0} (f : Node P → Node Q) (F : Flat P) → nodes (map_flat f F) ≡ map f (nodes F)
nodes-map f F = ap₂ ◌++◌ (port_nodes-map f F.atoms) (end_nodes-map f F.fusions) ∙ sym (map-append f (port_nodes F.atoms) (end_nodes F.fusions))

pub port_nodes-append : {P : Type 0} (k l : List (Cell P)) → port_nodes (k ++ l) ≡ port_nodes k ++ port_nodes l
port_nodes-append [] l = refl
port_nodes-append (c ∷ k) l = ap (λ r. c.ports ++ r) (port_nodes-append k l) ∙ sym (append_assoc c.ports (port_nodes k) (port_nodes l))

pub end_nodes-append : {P : Type 0} (k l : List (Fusion P)) → end_nodes (k ++ l) ≡ end_nodes k ++ end_nodes l
end_nodes-append [] l = refl
end_nodes-append (e ∷ k) l = ap (λ r. e.0 ∷ e.1 ∷ r) (end_nodes-append k l)

pub on-map : {P Q : Type 0} (f : Node P → Node Q) (F : Flat P) {n : Node P} → On n F → On (f n) (map_flat f F)
on-map f F {n} m = subst (λ l. f n ∈ l) (sym (nodes-map f F)) (Memᴰ.map f m)

pub on-of-map : {P Q : Type 0} (f : Node P → Node Q) (F : Flat P) {n : Node Q} → On n (map_flat f F) → (k : Node P) × On k F × (f k ≡ n)
on-of-map f F {n} m = Memᴰ.of_map f (nodes F) (subst (λ l. n ∈ l) (nodes-map f F) m)

pub on-join : {P : Type 0} (F K : Flat P) {n : Node P} → On n (join F K) → On n F ⊎ On n K
on-join F K {n} m = side (Memᴰ.append_cases (port_nodes (F.atoms ++ K.atoms)) m)
  where
    ports : (n ∈ port_nodes F.atoms) ⊎ (n ∈ port_nodes K.atoms) → On n F ⊎ On n K
    ports (inl h) = inl (on-atoms F h)
    ports (inr h) = inr (on-atoms K h)

    ends : (n ∈ end_nodes F.fusions) ⊎ (n ∈ end_nodes K.fusions) → On n F ⊎ On n K
    ends (inl h) = inl (on-fusions F h)
    ends (inr h) = inr (on-fusions K h)

    side : (n ∈ port_nodes (F.atoms ++ K.atoms)) ⊎ (n ∈ end_nodes (F.fusions ++ K.fusions)) → On n F ⊎ On n K
    side (inl h) = ports (Memᴰ.append_cases (port_nodes F.atoms) (rw port_nodes-append at h))
    side (inr h) = ends (Memᴰ.append_cases (end_nodes F.fusions) (rw end_nodes-append at h))

pub on-left : {P : Type 0} (F K : Flat P) {n : Node P} → On n F → On n (join F K)
on-left F K {n} m = side (Memᴰ.append_cases (port_nodes F.atoms) m)
  where
    side : (n ∈ port_nodes F.atoms) ⊎ (n ∈ end_nodes F.fusions) → On n (join F K)
    side (inl i) = on-atoms (join F K) (subst (λ l. n ∈ l) (sym (port_nodes-append F.atoms K.atoms)) (Memᴰ.append_left (port_nodes K.atoms) i))
    side (inr i) = on-fusions (join F K) (subst (λ l. n ∈ l) (sym (end_nodes-append F.fusions K.fusions)) (Memᴰ.append_left (end_nodes K.fusions) i))

pub on-right : {P : Type 0} (F K : Flat P) {n : Node P} → On n K → On n (join F K)
on-right F K {n} m = side (Memᴰ.append_cases (port_nodes K.atoms) m)
  where
    side : (n ∈ port_nodes K.atoms) ⊎ (n ∈ end_nodes K.fusions) → On n (join F K)
    side (inl i) = on-atoms (join F K) (subst (λ l. n ∈ l) (sym (port_nodes-append F.atoms K.atoms)) (Memᴰ.append_right (port_nodes F.atoms) i))
    side (inr i) = on-fusions (join F K) (subst (λ l. n ∈ l) (sym (end_nodes-append F.fusions K.fusions)) (Memᴰ.append_right (end_nodes F.fusions) i))

-- A map matters only on the nodes.
pub map_cells-agree : {P Q : Type 0} (f g : Node P → Node Q) (l : List (Cell P)) → ((n : Node P) → n ∈ port_nodes l → f n ≡ g n) → map (map_cell f) l ≡ map (map_cell g) l
map_cells-agree f g [] h = refl
map_cells-agree f g (c ∷ l) h = ap₂ ◌∷◌ (cell-≡ refl (map-agree f g c.ports (λ n m. h n (Memᴰ.append_left (port_nodes l) m)))) (map_cells-agree f g l (λ n m. h n (Memᴰ.append_right c.ports m)))

pub map_fusions-agree : {P Q : Type 0} (f g : Node P → Node Q) (l : List (Fusion P)) → ((n : Node P) → n ∈ end_nodes l → f n ≡ g n) → map (map_fusion f) l ≡ map (map_fusion g) l
map_fusions-agree f g [] h = refl
map_fusions-agree f g (e ∷ l) h = ap₂ ◌∷◌ (λ i. (h e.0 (Memᴰ.head refl) i, h e.1 (Memᴰ.tail (Memᴰ.head refl)) i)) (map_fusions-agree f g l (λ n m. h n (Memᴰ.tail (Memᴰ.tail m))))

pub map_flat-agree : {P Q : Type 0} (f g : Node P → Node Q) (F : Flat P) → ((n : Node P) → On n F → f n ≡ g n) → map_flat f F ≡ map_flat g F
map_flat-agree f g F h = flat-≡ (map_cells-agree f g F.atoms (λ n m. h n (on-atoms F m))) (map_fusions-agree f g F.fusions (λ n m. h n (on-fusions F m)))

pub map_flat-idle : {P : Type 0} (f : Node P → Node P) (F : Flat P) → ((n : Node P) → f n ≡ n) → map_flat f F ≡ F
map_flat-idle f F h = flat-≡ (map-idle (map_cell f) F.atoms (λ c m. cell-≡ refl (map-idle f c.ports (λ n i. h n)))) (map-idle (map_fusion f) F.fusions (λ e m. λ i. (h e.0 i, h e.1 i)))

-- Two maps in a row that come to one, or to two others.
pub map_flat-one : {P Q T : Type 0} (f : Node Q → Node T) (g : Node P → Node Q) (k : Node P → Node T) (F : Flat P) → ((n : Node P) → On n F → f (g n) ≡ k n) → map_flat f (map_flat g F) ≡ map_flat k F
map_flat-one f g k F h = map_flat-map_flat f g F ∙ map_flat-agree (λ n. f (g n)) k F h

pub map_flat-two : {P Q S T : Type 0} (f : Node Q → Node T) (g : Node P → Node Q) (h : Node S → Node T) (k : Node P → Node S) (F : Flat P) → ((n : Node P) → On n F → f (g n) ≡ h (k n)) → map_flat f (map_flat g F) ≡ map_flat h (map_flat k F)
map_flat-two f g h k F e = map_flat-one f g (λ n. h (k n)) F e ∙ sym (map_flat-map_flat h k F)

pub map_flat-three : {P Q S T U : Type 0} (t : Node Q → Node U) (g : Node P → Node Q) (h : Node S → Node P) (k : Node T → Node U) (l : Node S → Node T) (F : Flat S) → ((n : Node S) → On n F → t (g (h n)) ≡ k (l n)) → map_flat t (map_flat g (map_flat h F)) ≡ map_flat k (map_flat l F)
map_flat-three t g h k l F e = ap (map_flat t) (map_flat-map_flat g h F) ∙ map_flat-two t (λ n. g (h n)) k l F e
