-- Hypergraphs that differ only in the order of their fusions.
use mathlib.Core.Path.{◌≡◌, refl, ap, ap₂, sym, ◌∙◌, subst}
use mathlib.Core.Logic.{◌⊎◌, inl, inr}
use mathlib.Core.List.Memᴰ
use mathlib.Core.List.{List, [], ◌∷◌, ◌++◌, map, append_assoc, append-nil}
use Rattle.hyperlmntal.specs.Link.{◌∈◌}
use Rattle.hyperlmntal.specs.Hypergraph.{Node, name, Fusion, Flat, stay, along, end_nodes, port_nodes, map_cell, map_fusion, map_flat, join, On}
use Rattle.hyperlmntal.proofs.Lists.{Perm, after, perm-sym, perm-append, perm-map, perm_comm}
use Rattle.hyperlmntal.proofs.Permutations.{perm-≡, perm-prepend, perm-member}
use Rattle.hyperlmntal.proofs.Relational.{Match, Iso, match-refl, Via, iso-by}
use Rattle.hyperlmntal.proofs.Flats.{on-atoms, on-fusions, ends-in}
use Rattle.hyperlmntal.proofs.Equivalence.{SameNames}

abbrev pub Reordered : {P : Type 0} → Flat P → Flat P → Type 0
Reordered F K = (F.atoms ≡ K.atoms) × Perm F.fusions K.fusions

pub perm_middle : {A : Type 0} (a b c d : List A) → Perm ((a ++ b) ++ (c ++ d)) ((a ++ c) ++ (b ++ d))
perm_middle {A} a b c d = after (perm-≡ (spread b c)) (after (perm-prepend a (perm-append d (perm_comm b c))) (perm-≡ (sym (spread c b))))
  where
    spread : (x y : List A) → (a ++ x) ++ (y ++ d) ≡ a ++ ((x ++ y) ++ d)
    spread x y = append_assoc a x (y ++ d) ∙ ap (λ l. a ++ l) (sym (append_assoc x y d))

pub reordered-≡ : {P : Type 0} {F K : Flat P} → F ≡ K → Reordered F K
reordered-≡ e = (ap (λ F. F.atoms) e, perm-≡ (ap (λ F. F.fusions) e))

pub reordered-trans : {P : Type 0} {F K M : Flat P} → Reordered F K → Reordered K M → Reordered F M
reordered-trans r s = (r.0 ∙ s.0, after r.1 s.1)

pub reordered-map : {P Q : Type 0} (f : Node P → Node Q) {F K : Flat P} → Reordered F K → Reordered (map_flat f F) (map_flat f K)
reordered-map f r = (ap (map (map_cell f)) r.0, perm-map (map_fusion f) r.1)

pub reordered-join : {P : Type 0} {F F' K K' : Flat P} → Reordered F F' → Reordered K K' → Reordered (join F K) (join F' K')
reordered-join {F = F} {F' = F'} {K = K} {K' = K'} r s = (ap₂ ◌++◌ r.0 s.0, after (perm-append K.fusions r.1) (perm-prepend F'.fusions s.1))

-- Two joined hypergraphs, and fusions for each.
pub reordered-middle : {P : Type 0} (F K : Flat P) (E D : List (Fusion P)) → Reordered (join (join F K) (record { atoms = []; fusions = E ++ D })) (join (join F (record { atoms = []; fusions = E })) (join K (record { atoms = []; fusions = D })))
reordered-middle F K E D = (append-nil (F.atoms ++ K.atoms) ∙ sym (ap₂ ◌++◌ (append-nil F.atoms) (append-nil K.atoms)), perm_middle F.fusions K.fusions E D)

pub reordered-iso : {P : Type 0} (F K : Flat P) → Reordered F K → Iso F K
reordered-iso F K r = iso-by F K (λ n. n) (λ n. n) (λ e m. along (perm-member r.1 e m)) (λ e m. along (perm-member (perm-sym r.1) e m)) (λ X. (stay, stay)) (subst (λ l. Match (Via F K (λ n. n) (λ n. n)) F.atoms l) r.0 (match-refl (Via F K (λ n. n) (λ n. n)) (λ a. (stay, stay)) F.atoms))

-- The fusion of an end.
end_of : {P : Type 0} (l : List (Fusion P)) (n : Node P) → n ∈ end_nodes l → (e : Fusion P) × (e ∈ l) × ((n ≡ e.0) ⊎ (n ≡ e.1))
end_of [] n m = absurd (Memᴰ.not-nil m)
end_of {P} (e ∷ l) n m = first (Memᴰ.cases_cons m) (λ i. end_of l n i)
  where
    Found : Type 0
    Found = (d : Fusion P) × (d ∈ (e ∷ l)) × ((n ≡ d.0) ⊎ (n ≡ d.1))

    second : (n ≡ e.1) ⊎ (n ∈ end_nodes l) → (n ∈ end_nodes l → (d : Fusion P) × (d ∈ l) × ((n ≡ d.0) ⊎ (n ≡ d.1))) → Found
    second (inl p) f = (e, Memᴰ.head refl, inr p)
    second (inr i) f = let t = f i in (t.0, Memᴰ.tail t.1, t.2)

    first : (n ≡ e.0) ⊎ (n ∈ (e.1 ∷ end_nodes l)) → (n ∈ end_nodes l → (d : Fusion P) × (d ∈ l) × ((n ≡ d.0) ⊎ (n ≡ d.1))) → Found
    first (inl p) f = (e, Memᴰ.head refl, inl p)
    first (inr i) f = second (Memᴰ.cases_cons i) f

pub reordered-on : {P : Type 0} (F K : Flat P) → Reordered F K → (n : Node P) → On n F → On n K
reordered-on {P} F K r n m = side (Memᴰ.append_cases (port_nodes F.atoms) m)
  where
    which : (e : Fusion P) → e ∈ K.fusions → (n ≡ e.0) ⊎ (n ≡ e.1) → On n K
    which e i (inl p) = on-fusions K (Memᴰ.cast p (ends-in i).0)
    which e i (inr p) = on-fusions K (Memᴰ.cast p (ends-in i).1)

    side : (n ∈ port_nodes F.atoms) ⊎ (n ∈ end_nodes F.fusions) → On n K
    side (inl i) = on-atoms K (subst (λ l. n ∈ port_nodes l) r.0 i)
    side (inr i) = let t = end_of F.fusions n i in which t.0 (perm-member r.1 t.0 t.1) t.2

pub reordered-names : {P : Type 0} (F K : Flat P) → Reordered F K → SameNames F K
reordered-names F K r X = (reordered-on F K r (name X), reordered-on K F (sym r.0, perm-sym r.1) (name X))
