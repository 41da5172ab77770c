-- Permutations as bijections of positions, and back.
use mathlib.Core.Path.{◌≡◌, refl, ap, sym, ◌∙◌}
use mathlib.Core.List.{List, [], ◌∷◌}
use mathlib.Core.Option.{Option, some}
use Prim.Native.Nat.{ℕ, zero, suc, pred, ◌<◌}
use native.Mathlib.Omega.{arith}
use lib.ListN.{length, get_elem?}
use Rattle.hyperlmntal.specs.Isomorphism.{Bijection}
use Rattle.hyperlmntal.proofs.Lists.{Each, done, more, Perm, empty, keep, swap, after, perm-refl, perm-sym}

pub below-some : {A : Type 0} (l : List A) (i : ℕ) → i < length l → (a : A) × (get_elem? l i ≡ some a)
below-some [] i h = absurd (omega arith)
below-some (a ∷ l) zero h = (a, refl)
below-some (a ∷ l) (suc i) h = below-some l i (omega arith)

pub some_below : {A : Type 0} (l : List A) (i : ℕ) (a : A) → get_elem? l i ≡ some a → i < length l
some_below [] i a e = absurd (let z : ◌≡◌ {A = ℕ} 0 1 = cc in omega arith)
some_below (b ∷ l) zero a e = omega arith
some_below (b ∷ l) (suc i) a e = omega (arith, some_below l i a e)

pub some-injective : {A : Type 0} {a b : A} → ◌≡◌ {A = Option A} (some a) (some b) → a ≡ b
some-injective e = cc

unfoldable pub bijection-sym : {n m : ℕ} → Bijection n m → Bijection m n
bijection-sym f = record { to = f.from; from = f.to; to_below = f.from-below; from-below = f.to_below; from-to = f.to-from; to-from = f.from-to }

unfoldable pub bijection-trans : {n m k : ℕ} → Bijection n m → Bijection m k → Bijection n k
bijection-trans f g = record { to = λ i. g.to (f.to i); from = λ j. f.from (g.from j); to_below = λ i h. g.to_below (f.to i) (f.to_below i h); from-below = λ j h. f.from-below (g.from j) (g.from-below j h); from-to = λ i h. ap f.from (g.from-to (f.to i) (f.to_below i h)) ∙ f.from-to i h; to-from = λ j h. ap g.to (f.to-from (g.from j) (g.from-below j h)) ∙ g.to-from j h }

-- Where a permutation takes a position.
unfoldable pub moved : {A : Type 0} {l k : List A} → Perm l k → ℕ → ℕ
moved empty i = i
moved (keep p) zero = zero
moved (keep p) (suc i) = suc (moved p i)
moved swap zero = suc zero
moved swap (suc zero) = zero
moved swap (suc (suc i)) = suc (suc i)
moved (after p q) i = moved q (moved p i)

pub moved_at : {A : Type 0} {l k : List A} (p : Perm l k) (i : ℕ) → get_elem? l i ≡ get_elem? k (moved p i)
unfolding moved
moved_at empty i = refl
moved_at (keep p) zero = refl
moved_at (keep p) (suc i) = moved_at p i
moved_at swap zero = refl
moved_at swap (suc zero) = refl
moved_at swap (suc (suc i)) = refl
moved_at (after p q) i = moved_at p i ∙ moved_at q (moved p i)

pub moved_back : {A : Type 0} {l k : List A} (p : Perm l k) (i : ℕ) → moved (perm-sym p) (moved p i) ≡ i
unfolding moved perm-sym
moved_back empty i = refl
moved_back (keep p) zero = refl
moved_back (keep p) (suc i) = ap suc (moved_back p i)
moved_back swap zero = refl
moved_back swap (suc zero) = refl
moved_back swap (suc (suc i)) = refl
moved_back (after p q) i = ap (moved (perm-sym p)) (moved_back q (moved p i)) ∙ moved_back p i

pub back-moved : {A : Type 0} {l k : List A} (p : Perm l k) (i : ℕ) → moved p (moved (perm-sym p) i) ≡ i
unfolding moved perm-sym
back-moved empty i = refl
back-moved (keep p) zero = refl
back-moved (keep p) (suc i) = ap suc (back-moved p i)
back-moved swap zero = refl
back-moved swap (suc zero) = refl
back-moved swap (suc (suc i)) = refl
back-moved (after p q) i = ap (moved q) (back-moved p (moved (perm-sym q) i)) ∙ back-moved q i

pub moved-below : {A : Type 0} {l k : List A} (p : Perm l k) (i : ℕ) → i < length l → moved p i < length k
moved-below {l = l} {k = k} p i h = let t = below-some l i h in some_below k (moved p i) t.0 (sym (moved_at p i) ∙ t.1)

unfoldable pub perm-bijection : {A : Type 0} {l k : List A} → Perm l k → Bijection (length l) (length k)
perm-bijection p = record { to = moved p; from = moved (perm-sym p); to_below = moved-below p; from-below = moved-below (perm-sym p); from-to = λ i h. moved_back p i; to-from = λ j h. back-moved p j }

-- A bijection that takes 0 to 0, without the zeros.
unfoldable pub bijection-tail : {n m : ℕ} (f : Bijection (suc n) (suc m)) → f.to 0 ≡ 0 → Bijection n m
bijection-tail {n} {m} f z = record { to = λ i. pred (f.to (suc i)); from = λ j. pred (f.from (suc j)); to_below = λ i h. omega (arith, up i h, f.to_below (suc i) (omega arith)); from-below = λ j h. omega (arith, down j h, f.from-below (suc j) (omega arith)); from-to = λ i h. ap pred (ap f.from (up i h) ∙ f.from-to (suc i) (omega arith)) ∙ omega arith; to-from = λ j h. ap pred (ap f.to (down j h) ∙ f.to-from (suc j) (omega arith)) ∙ omega arith }
  where
    w : f.from 0 ≡ 0
    w = ap f.from (sym z) ∙ f.from-to 0 (omega arith)

    positive : (x : ℕ) → ¬ (x ≡ 0) → suc (pred x) ≡ x
    positive zero n = absurd (n refl)
    positive (suc x) n = omega arith

    up : (i : ℕ) → i < n → suc (pred (f.to (suc i))) ≡ f.to (suc i)
    up i h = positive (f.to (suc i)) (λ e. let c : suc i ≡ 0 = sym (f.from-to (suc i) (omega arith)) ∙ ap f.from e ∙ w in omega arith)

    down : (j : ℕ) → j < m → suc (pred (f.from (suc j))) ≡ f.from (suc j)
    down j h = positive (f.from (suc j)) (λ e. let c : suc j ≡ 0 = sym (f.to-from (suc j) (omega arith)) ∙ ap f.to e ∙ z in omega arith)

-- The member at a position, brought to the front.
front : {A : Type 0} (l : List A) (i : ℕ) → i < length l → (b : A) × (k : List A) × (p : Perm l (b ∷ k)) × (moved p i ≡ 0)
unfolding moved perm-refl
front [] i h = absurd (omega arith)
front (b ∷ l) zero h = (b, l, keep (perm-refl l), refl)
front (b ∷ l) (suc i) h = let t = front l i (omega arith) in (t.0, b ∷ t.1, after (keep t.2) swap, ap (λ j. moved (swap {a = b} {b = t.0} {l = t.1}) (suc j)) t.3)

-- Members that a bijection of positions relates are related in some order.
pub each-of-bijection : {A B : Type 0} (S : A → B → Type 0) (k : List B) (l : List A) (f : Bijection (length l) (length k)) → ((i : ℕ) (a : A) (b : B) → get_elem? l i ≡ some a → get_elem? k (f.to i) ≡ some b → S a b) → (m : List A) × Perm l m × Each S m k
unfolding bijection-sym bijection-trans perm-bijection bijection-tail
each-of-bijection S [] [] f r = ([], empty, done)
each-of-bijection S [] (a ∷ l) f r = absurd (let h : f.to 0 < 0 = f.to_below 0 (omega arith) in omega arith)
each-of-bijection {A} {B} S (b ∷ k) l f r = let u = each-of-bijection S k t.1 (bijection-tail g g0) rest in (t.0 ∷ u.0, after t.2 (keep u.1), more first u.2)
  where
    i0 : ℕ
    i0 = f.from 0

    t : (a : A) × (l' : List A) × (p : Perm l (a ∷ l')) × (moved p i0 ≡ 0)
    t = front l i0 (f.from-below 0 (omega arith))

    back : ℕ → ℕ
    back i = moved (perm-sym t.2) i

    g : Bijection (suc (length t.1)) (suc (length k))
    g = bijection-trans (bijection-sym (perm-bijection t.2)) f

    back0 : back 0 ≡ i0
    back0 = ap back (sym t.3) ∙ moved_back t.2 i0

    g0 : f.to (back 0) ≡ 0
    g0 = ap f.to back0 ∙ f.to-from 0 (omega arith)

    first : S t.0 b
    first = r (back 0) t.0 b (sym (moved_at (perm-sym t.2) 0)) (ap (get_elem? (b ∷ k)) g0)

    shifted : (i : ℕ) → i < length t.1 → f.to (back (suc i)) ≡ suc (pred (f.to (back (suc i))))
    shifted i h = positive (f.to (back (suc i))) refl
      where
        positive : (x : ℕ) → f.to (back (suc i)) ≡ x → x ≡ suc (pred x)
        positive zero e = absurd (let c : suc i ≡ 0 = sym (g.from-to (suc i) (omega arith)) ∙ ap g.from (e ∙ sym g0) ∙ g.from-to 0 (omega arith) in omega arith)
        positive (suc x) e = omega arith

    rest : (i : ℕ) (a : A) (c : B) → get_elem? t.1 i ≡ some a → get_elem? k (pred (f.to (back (suc i)))) ≡ some c → S a c
    rest i a c p q = r (back (suc i)) a c (sym (moved_at (perm-sym t.2) (suc i)) ∙ p) (ap (get_elem? (b ∷ k)) (shifted i (some_below t.1 i a p)) ∙ q)
