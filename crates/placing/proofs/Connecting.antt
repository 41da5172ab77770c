-- Whether two nodes are connected is decided, and nodes of a filled figure are told apart.
use Prim.Native.Nat.{ℕ}
use mathlib.Core.Path.{◌≡◌, refl, ap, sym, ◌∙◌}
use mathlib.Core.Logic.{◌⊎◌, inl, inr}
use mathlib.Core.List.Memᴰ
use mathlib.Core.List.{List, [], ◌∷◌}
use native.Mathlib.Omega.{arith}
use native.Mathlib.Decide.{ℕ_discrete}
use Rattle.hyperlmntal.specs.Link.{◌≟◌, ◌∈◌}
use Rattle.hyperlmntal.specs.Hypergraph.{Node, inner, name, Fusion, Connected, stay, along, back, then}
use Rattle.hyperlmntal.specs.DenotedSubstitution.{Spot, outer, within}
use Rattle.hyperlmntal.proofs.Connection.{connected-≡, connected-mono}

module _ {P : Type 0} (same : (a b : Node P) → Dec (a ≡ b)) where
  -- Connected without the fusion e, or over it one way or the other.
  abbrev Over : Fusion P → List (Fusion P) → Node P → Node P → Type 0
  Over e E a b = Connected E a b ⊎ ((Connected E a e.0 × Connected E e.1 b) ⊎ (Connected E a e.1 × Connected E e.0 b))

  over-back : (e : Fusion P) (E : List (Fusion P)) {a b : Node P} → Over e E a b → Over e E b a
  over-back e E (inl c) = inl (back c)
  over-back e E (inr (inl t)) = inr (inr (back t.1, back t.0))
  over-back e E (inr (inr t)) = inr (inl (back t.1, back t.0))

  over-then : (e : Fusion P) (E : List (Fusion P)) {a b c : Node P} → Over e E a b → Over e E b c → Over e E a c
  over-then e E (inl p) (inl q) = inl (then p q)
  over-then e E (inl p) (inr (inl t)) = inr (inl (then p t.0, t.1))
  over-then e E (inl p) (inr (inr t)) = inr (inr (then p t.0, t.1))
  over-then e E (inr (inl s)) (inl q) = inr (inl (s.0, then s.1 q))
  over-then e E (inr (inl s)) (inr (inl t)) = inr (inl (s.0, t.1))
  over-then e E (inr (inl s)) (inr (inr t)) = inl (then s.0 t.1)
  over-then e E (inr (inr s)) (inl q) = inr (inr (s.0, then s.1 q))
  over-then e E (inr (inr s)) (inr (inl t)) = inl (then s.0 t.1)
  over-then e E (inr (inr s)) (inr (inr t)) = inr (inr (s.0, t.1))

  over : (e : Fusion P) (E : List (Fusion P)) {a b : Node P} → Connected (e ∷ E) a b → Over e E a b
  over e E stay = inl stay
  over e E (along {a} {b} m) = at (Memᴰ.cases_cons m)
    where
      at : ((a, b) ≡ e) ⊎ ((a, b) ∈ E) → Over e E a b
      at (inl q) = inr (inl (connected-≡ E (ap (λ d. d.0) q), connected-≡ E (sym (ap (λ d. d.1) q))))
      at (inr i) = inl (along i)
  over e E (back c) = over-back e E (over e E c)
  over e E (then c d) = over-then e E (over e E c) (over e E d)

  pub connected-dec : (E : List (Fusion P)) (a b : Node P) → Dec (Connected E a b)
  connected-dec [] a b = at (same a b)
    where
      equal : {x y : Node P} → Connected [] x y → x ≡ y
      equal stay = refl
      equal (along m) = absurd (Memᴰ.not-nil m)
      equal (back c) = sym (equal c)
      equal (then c d) = equal c ∙ equal d

      at : Dec (a ≡ b) → Dec (Connected [] a b)
      at (yes e) = yes (connected-≡ [] e)
      at (no n) = no (λ c. n (equal c))
  connected-dec (e ∷ E) a b = at (connected-dec E a b) (pair (connected-dec E a e.0) (connected-dec E e.1 b)) (pair (connected-dec E a e.1) (connected-dec E e.0 b))
    where
      pair : {A B : Type 0} → Dec A → Dec B → Dec (A × B)
      pair (yes x) (yes y) = yes (x, y)
      pair (yes x) (no n) = no (λ t. n t.1)
      pair (no n) d = no (λ t. n t.0)

      wider : {x y : Node P} → Connected E x y → Connected (e ∷ E) x y
      wider c = connected-mono E (e ∷ E) (λ d m. Memᴰ.tail m) c

      edge : Connected (e ∷ E) e.0 e.1
      edge = along (Memᴰ.head refl)

      at : Dec (Connected E a b) → Dec (Connected E a e.0 × Connected E e.1 b) → Dec (Connected E a e.1 × Connected E e.0 b) → Dec (Connected (e ∷ E) a b)
      at (yes c) x y = yes (wider c)
      at (no n) (yes t) y = yes (then (wider t.0) (then edge (wider t.1)))
      at (no n) (no k) (yes t) = yes (then (wider t.0) (then (back edge) (wider t.1)))
      at (no n) (no k) (no l) = no (λ c. none (over e E c))
        where
          none : Over e E a b → ⊥
          none (inl c) = n c
          none (inr (inl t)) = k t
          none (inr (inr t)) = l t

spot-dec : (s t : Spot ℕ ℕ) → Dec (s ≡ t)
spot-dec (outer x) (outer y) = at (ℕ_discrete x y)
  where
    at : Dec (x ≡ y) → Dec (◌≡◌ {A = Spot ℕ ℕ} (outer x) (outer y))
    at (yes e) = yes (ap outer e)
    at (no n) = no (λ e. n cc)
spot-dec (outer x) (within k n) = no (λ e. let z : ◌≡◌ {A = ℕ} 0 1 = cc in omega arith)
spot-dec (within k n) (outer x) = no (λ e. let z : ◌≡◌ {A = ℕ} 0 1 = cc in omega arith)
spot-dec (within k n) (within j m) = at (ℕ_discrete k j) (ℕ_discrete n m)
  where
    at : Dec (k ≡ j) → Dec (n ≡ m) → Dec (◌≡◌ {A = Spot ℕ ℕ} (within k n) (within j m))
    at (yes p) (yes q) = yes (λ i. within (p i) (q i))
    at (yes p) (no q) = no (λ e. q cc)
    at (no p) d = no (λ e. p cc)

pub node-dec : (a b : Node (Spot ℕ ℕ)) → Dec (a ≡ b)
node-dec (inner s) (inner t) = at (spot-dec s t)
  where
    at : Dec (s ≡ t) → Dec (◌≡◌ {A = Node (Spot ℕ ℕ)} (inner s) (inner t))
    at (yes e) = yes (ap inner e)
    at (no n) = no (λ e. n cc)
node-dec (inner s) (name X) = no (λ e. let z : ◌≡◌ {A = ℕ} 0 1 = cc in omega arith)
node-dec (name X) (inner s) = no (λ e. let z : ◌≡◌ {A = ℕ} 0 1 = cc in omega arith)
node-dec (name X) (name Y) = at (X ≟ Y)
  where
    at : Dec (X ≡ Y) → Dec (◌≡◌ {A = Node (Spot ℕ ℕ)} (name X) (name Y))
    at (yes e) = yes (ap name e)
    at (no n) = no (λ e. n cc)
