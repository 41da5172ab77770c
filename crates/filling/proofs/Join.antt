-- Labels joined pair by pair: equal exactly where the pairs connect.
use Prim.Native.Nat.{ℕ, zero, suc, ◌+◌, ◌<◌}
use mathlib.Core.Path.{◌≡◌, refl, ap, sym, ◌∙◌, subst}
use mathlib.Core.Logic.{◌⊎◌, inl, inr}
use mathlib.Core.List.Memᴰ
use mathlib.Core.List.{List, [], ◌∷◌, ◌++◌}
use native.Mathlib.Omega.{arith}
use lib.ListN.{length, get_or, length-map}
use Rattle.hyperlmntal.specs.Link.{◌∈◌}
use Rattle.rows.specs.Held.{relabelled}
use Rattle.rows.specs.declared.Context.{Context}
use Rattle.rows.proofs.Lists.{get_d-mapped}
use Rattle.reading.proofs.normal.Merging.{Cross, relabelled-same, relabelled-one}
use Rattle.filling.specs.Glued.{place_of, joined_at, joined_all, port_pairs, context_pairs, all_pairs}

pub all_append : (labels : List ℕ) (l k : List (ℕ × ℕ)) → joined_all labels (l ++ k) ≡ joined_all (joined_all labels l) k
unfolding joined_all
all_append labels [] k = refl
all_append labels (e ∷ l) k = all_append (joined_at labels e) l k

-- The label of a place after one pair.
module _ (labels : List ℕ) (e : ℕ × ℕ) where
  pub joined_length : length (joined_at labels e) ≡ length labels
  joined_length = length-map labels (relabelled (get_or labels e.1 0) (get_or labels e.0 0))

  pub joined_at_lem : (k : ℕ) → k < length labels → get_or (joined_at labels e) k 0 ≡ relabelled (get_or labels e.1 0) (get_or labels e.0 0) (get_or labels k 0)
  joined_at_lem k h = get_d-mapped (relabelled (get_or labels e.1 0) (get_or labels e.0 0)) labels k 0 0 h

-- Equal labels stay equal, and the two of a pair become equal.
pub same-stays : (l : List (ℕ × ℕ)) (labels : List ℕ) (a b : ℕ) → a < length labels → b < length labels → get_or labels a 0 ≡ get_or labels b 0
    → get_or (joined_all labels l) a 0 ≡ get_or (joined_all labels l) b 0
unfolding joined_all
same-stays [] labels a b p q e = e
same-stays (x ∷ l) labels a b p q e =
    let n = joined_length labels x in
    same-stays l (joined_at labels x) a b (omega arith) (omega arith)
    (joined_at_lem labels x a p ∙ ap (relabelled (get_or labels x.1 0) (get_or labels x.0 0)) e ∙ sym (joined_at_lem labels x b q))

pub pair_same : (l : List (ℕ × ℕ)) (labels : List ℕ) (a b : ℕ) → a < length labels → b < length labels → (a, b) ∈ l
    → get_or (joined_all labels l) a 0 ≡ get_or (joined_all labels l) b 0
unfolding joined_all
pair_same [] labels a b p q m = absurd (Memᴰ.not-nil m)
pair_same (x ∷ l) labels a b p q m = at (Memᴰ.cases_cons m) (let n = joined_length labels x in pair_same l (joined_at labels x) a b (omega arith) (omega arith))
  where
    here : (get_or (joined_at labels (a, b)) a 0) ≡ get_or (joined_at labels (a, b)) b 0
    here = joined_at_lem labels (a, b) a p ∙ relabelled-one (get_or labels b 0) (get_or labels a 0) ∙ sym (joined_at_lem labels (a, b) b q)

    at : ((a, b) ≡ x) ⊎ ((a, b) ∈ l) → ((a, b) ∈ l → get_or (joined_all (joined_at labels x) l) a 0 ≡ get_or (joined_all (joined_at labels x) l) b 0) → get_or (joined_all (joined_at labels x) l) a 0 ≡ get_or (joined_all (joined_at labels x) l) b 0
    at (inl e) f =
        let n = joined_length labels x in
        same-stays l (joined_at labels x) a b (omega arith) (omega arith) (subst (λ (d : ℕ × ℕ). get_or (joined_at labels d) a 0 ≡ get_or (joined_at labels d) b 0) e here)
    at (inr k) f = f k

-- Where equal labels relate what is known, and each pair is of two related known things, they do so when the pairs are joined.
module _ {X : Type 0} (Known : X → Type 0) (code : X → ℕ) (R : X → X → Type 0) (turn : (x y : X) → R x y → R y x) (link : (x y z : X) → R x y → R y z → R x z) where
  abbrev pub Tells : List ℕ → Type 0
  Tells labels = (x y : X) → Known x → Known y → get_or labels (code x) 0 ≡ get_or labels (code y) 0 → R x y

  abbrev pub Pair : ℕ × ℕ → Type 0
  Pair e = (x : X) × (y : X) × Known x × Known y × (code x ≡ e.0) × (code y ≡ e.1) × R x y

  one-tells : (labels : List ℕ) → ((x : X) → Known x → code x < length labels) → (e : ℕ × ℕ) → Pair e → Tells labels → Tells (joined_at labels e)
  one-tells labels low e t tells x y kx ky q =
      at (relabelled-same (get_or labels e.1 0) (get_or labels e.0 0) (get_or labels (code x) 0) (get_or labels (code y) 0)
      (sym (joined_at_lem labels e (code x) (low x kx)) ∙ q ∙ joined_at_lem labels e (code y) (low y ky)))
    where
      u : X
      u = t.0

      v : X
      v = t.1

      to-u : (z : X) → Known z → get_or labels (code z) 0 ≡ get_or labels e.0 0 → R z u
      to-u z k p = tells z u k t.2 (p ∙ ap (λ n. get_or labels n 0) (sym t.4))

      to-v : (z : X) → Known z → get_or labels (code z) 0 ≡ get_or labels e.1 0 → R z v
      to-v z k p = tells z v k t.3 (p ∙ ap (λ n. get_or labels n 0) (sym t.5))

      at : (get_or labels (code x) 0 ≡ get_or labels (code y) 0) ⊎ Cross (get_or labels e.0 0) (get_or labels e.1 0) (get_or labels (code x) 0) (get_or labels (code y) 0) → R x y
      at (inl p) = tells x y kx ky p
      at (inr (inl p)) = link x u y (to-u x kx p.0) (link u v y t.6 (turn y v (to-v y ky p.1)))
      at (inr (inr p)) = link x v y (to-v x kx p.0) (link v u y (turn u v t.6) (turn y u (to-u y ky p.1)))

  pub all_tell : (l : List (ℕ × ℕ)) (labels : List ℕ) → ((x : X) → Known x → code x < length labels) → ((e : ℕ × ℕ) → e ∈ l → Pair e) → Tells labels → Tells (joined_all labels l)
  unfolding joined_all
  all_tell [] labels low pairs tells = tells
  all_tell (e ∷ l) labels low pairs tells =
      all_tell l (joined_at labels e) (λ x k. let n = joined_length labels e in let h = low x k in omega arith) (λ d m. pairs d (Memᴰ.tail m))
      (one-tells labels low e (pairs e (Memᴰ.head refl)) tells)

-- The pairs of one context, by its ports.
pub port-pair : (p : ℕ) (links marked : List ℕ) (k : ℕ) → k < length links → k < length marked → (get_or links k 0, place_of p (get_or marked k 0)) ∈ port_pairs p links marked
unfolding port_pairs
port-pair p [] marked k h i = absurd (omega arith)
port-pair p (x ∷ links) [] k h i = absurd (omega arith)
port-pair p (x ∷ links) (m ∷ marked) zero h i = Memᴰ.head refl
port-pair p (x ∷ links) (m ∷ marked) (suc k) h i = Memᴰ.tail (port-pair p links marked k (omega arith) (omega arith))

abbrev pub PortPair : ℕ → List ℕ → List ℕ → ℕ × ℕ → Type 0
PortPair p links marked e = (k : ℕ) × (k < length links) × (k < length marked) × (e ≡ (get_or links k 0, place_of p (get_or marked k 0)))

pub pair-port : (p : ℕ) (links marked : List ℕ) (e : ℕ × ℕ) → e ∈ port_pairs p links marked → PortPair p links marked e
unfolding port_pairs
pair-port p [] marked e m = absurd (Memᴰ.not-nil m)
pair-port p (x ∷ links) [] e m = absurd (Memᴰ.not-nil m)
pair-port p (x ∷ links) (y ∷ marked) e m = at (Memᴰ.cases_cons m) (pair-port p links marked e)
  where
    at : (e ≡ (x, place_of p y)) ⊎ (e ∈ port_pairs p links marked) → (e ∈ port_pairs p links marked → PortPair p links marked e) → PortPair p (x ∷ links) (y ∷ marked) e
    at (inl q) f = (0, omega arith, omega arith, q)
    at (inr j) f = let t = f j in let a : t.0 < length links = t.1 in let b : t.0 < length marked = t.2 in (suc t.0, omega arith, omega arith, t.3)

-- The pairs of all contexts, by the place of the context.
abbrev pub PairAt : List ℕ → ℕ → List Context → Context → ℕ × ℕ → Type 0
PairAt list p l d e = (j : ℕ) × (j < length l) × (e ∈ context_pairs list (p + j) (get_or l j d))

pub pair-at : (list : List ℕ) (p : ℕ) (l : List Context) (d : Context) (e : ℕ × ℕ) → e ∈ all_pairs list p l → PairAt list p l d e
unfolding all_pairs
pair-at list p [] d e m = absurd (Memᴰ.not-nil m)
pair-at list p (c ∷ l) d e m = at (Memᴰ.append_cases (context_pairs list p c) m) (pair-at list (p + 1) l d e)
  where
    at : (e ∈ context_pairs list p c) ⊎ (e ∈ all_pairs list (p + 1) l) → (e ∈ all_pairs list (p + 1) l → PairAt list (p + 1) l d e) → PairAt list p (c ∷ l) d e
    at (inl k) f = (0, omega arith, subst (λ n. e ∈ context_pairs list n c) (let z : p ≡ p + 0 = omega arith in z) k)
    at (inr k) f =
        let t = f k in
        let a : t.0 < length l = t.1 in
        (suc t.0, omega arith, subst (λ n. e ∈ context_pairs list n (get_or l t.0 d)) (let z : p + 1 + t.0 ≡ p + suc t.0 = omega arith in z) t.2)

pub at_pair : (list : List ℕ) (p : ℕ) (l : List Context) (d : Context) (e : ℕ × ℕ) (j : ℕ) → j < length l → e ∈ context_pairs list (p + j) (get_or l j d) → e ∈ all_pairs list p l
unfolding all_pairs
at_pair list p [] d e j h m = absurd (omega arith)
at_pair list p (c ∷ l) d e zero h m = Memᴰ.append_left (all_pairs list (p + 1) l) (subst (λ n. e ∈ context_pairs list n c) (let z : p + 0 ≡ p = omega arith in z) m)
at_pair list p (c ∷ l) d e (suc j) h m =
    Memᴰ.append_right (context_pairs list p c) (at_pair list (p + 1) l d e j (omega arith) (subst (λ n. e ∈ context_pairs list n (get_or l j d)) (let z : p + suc j ≡ p + 1 + j = omega arith in z) m))
