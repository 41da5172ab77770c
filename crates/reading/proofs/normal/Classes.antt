-- Two nodes have one class exactly when the fusions connect them.
use Prim.Native.Nat.{ℕ}
use mathlib.Core.Path.{◌≡◌, refl, sym, ap, ◌∙◌}
use mathlib.Core.List.Memᴰ
use mathlib.Core.List.{List, [], ◌∷◌}
use mathlib.Core.Bool.{Bool, true, false}
use mathlib.Core.Logic.{◌↔◌, ◌⊎◌, inl, inr}
use native.Mathlib.Omega.{arith}
use borrow.Author.Tests.{eqb-true, eq-eqb}
use lib.Dec.{eqb}
use Rattle.hyperlmntal.specs.Link.{local, free, ◌∈◌}
use Rattle.hyperlmntal.specs.Hypergraph.{Node, inner, name, Fusion, Connected, stay, along, back, then}
use Rattle.hyperlmntal.proofs.Connection.{connected-mono, connected-≡}
use Rattle.rows.specs.Pick.{pick}
use Rattle.rows.specs.Held.{relabelled}
use Rattle.reading.specs.Normal.{own_class, class_of}

-- No two nodes have one number.
pub own-class : (x y : Node ℕ) → own_class x ≡ own_class y → x ≡ y
own-class (inner n) (inner m) e = ap inner (omega arith)
own-class (inner n) (name (local m)) e = absurd (omega arith)
own-class (inner n) (name (free m)) e = absurd (omega arith)
own-class (name (local n)) (inner m) e = absurd (omega arith)
own-class (name (local n)) (name (local m)) e = ap (λ k. name (local k)) (omega arith)
own-class (name (local n)) (name (free m)) e = absurd (omega arith)
own-class (name (free n)) (inner m) e = absurd (omega arith)
own-class (name (free n)) (name (local m)) e = absurd (omega arith)
own-class (name (free n)) (name (free m)) e = ap (λ k. name (free k)) (omega arith)

-- One class: connected.
pub connected-of-class : (E : List (Fusion ℕ)) (x y : Node ℕ) → class_of E x ≡ class_of E y → Connected E x y
unfolding class_of
connected-of-class [] x y e = connected-≡ [] (own-class x y e)
connected-of-class (f ∷ E) x y e =
    go (eqb (class_of E x) (class_of E f.1)) refl (eqb (class_of E y) (class_of E f.1)) refl
    (λ a b q. connected-mono E (f ∷ E) (λ d m. Memᴰ.tail m) (connected-of-class E a b q)) e
  where
    go : (s : Bool) → eqb (class_of E x) (class_of E f.1) ≡ s → (t : Bool) → eqb (class_of E y) (class_of E f.1) ≡ t
        → ((a b : Node ℕ) → class_of E a ≡ class_of E b → Connected (f ∷ E) a b)
        → pick s (class_of E f.0) (class_of E x) ≡ pick t (class_of E f.0) (class_of E y) → Connected (f ∷ E) x y
    go true p true q ih r = ih x y (eqb-true _ _ p ∙ sym (eqb-true _ _ q))
    go true p false q ih r = then (ih x f.1 (eqb-true _ _ p)) (then (back (along (Memᴰ.head refl))) (ih f.0 y r))
    go false p true q ih r = then (ih x f.0 r) (then (along (Memᴰ.head refl)) (back (ih y f.1 (eqb-true _ _ q))))
    go false p false q ih r = ih x y r

-- The ends of a fusion have one class.
fusion-class : (E : List (Fusion ℕ)) (e : Fusion ℕ) → e ∈ E → class_of E e.0 ≡ class_of E e.1
unfolding class_of
fusion-class [] e m = absurd (Memᴰ.not-nil m)
fusion-class (f ∷ E) e m = at (Memᴰ.cases_cons m) (fusion-class E e)
  where
    same : (s : Bool) → pick s (class_of E f.0) (class_of E f.0) ≡ class_of E f.0
    same true = refl
    same false = refl

    first : class_of (f ∷ E) f.0 ≡ class_of (f ∷ E) f.1
    first = rw (eq-eqb (class_of E f.1) (class_of E f.1) refl) (same (eqb (class_of E f.0) (class_of E f.1)))

    at : (e ≡ f) ⊎ (e ∈ E) → (e ∈ E → class_of E e.0 ≡ class_of E e.1) → class_of (f ∷ E) e.0 ≡ class_of (f ∷ E) e.1
    at (inl p) h = rw p first
    at (inr i) h = ap (relabelled (class_of E f.1) (class_of E f.0)) (h i)

pub class-of-connected : (E : List (Fusion ℕ)) {x y : Node ℕ} → Connected E x y → class_of E x ≡ class_of E y
class-of-connected E stay = refl
class-of-connected E (along {a} {b} m) = fusion-class E (a, b) m
class-of-connected E (back c) = sym (class-of-connected E c)
class-of-connected E (then c d) = class-of-connected E c ∙ class-of-connected E d

pub class-connected : (E : List (Fusion ℕ)) (x y : Node ℕ) → (class_of E x ≡ class_of E y) ↔ Connected E x y
class-connected E x y = (connected-of-class E x y, class-of-connected E)
