-- Lists: without a number, the order, bounds.
use Prim.Native.Nat.{ℕ, zero, suc, ◌≤◌, ◌<◌}
use mathlib.Core.Path.{◌≡◌, refl, sym, ◌∙◌, ap}
use mathlib.Core.Logic.{◌⊎◌, inl, inr, ◌≢◌}
use mathlib.Core.List.Memᴰ
use mathlib.Core.List.{List, [], ◌∷◌, ◌++◌, head-eq_of_cons-eq, tail-eq_of_cons-eq, nil≢cons, cons≢nil}
use mathlib.Core.Bool.{Bool, true, false}
use native.Mathlib.Omega.{arith}
use lib.Dec.{eqb}
use lib.ListN.{length, get_or}
use borrow.Author.Tests.{eqb-true, eq-eqb, ne_eqb}
use Rattle.hyperlmntal.specs.Link.{◌∈◌}
use Rattle.rows.specs.Pick.{pick}
use Rattle.placing.specs.First.{Within, also, Before, here, later}
use Rattle.placing.proofs.FirstLaws.{both_ways}
use Rattle.completing.specs.Completion.{remove}
use Rattle.completing.specs.Leaf.{Ascending}

-- A list without x.
pub of-remove : (z x : ℕ) (l : List ℕ) → z ∈ remove x l → (z ∈ l) × (z ≢ x)
unfolding remove
of-remove z x [] m = absurd (Memᴰ.not-nil m)
of-remove z x (y ∷ l) m = go (eqb y x) refl m (λ k. of-remove z x l k)
  where
    Here : Type 0
    Here = (z ∈ (y ∷ l)) × (z ≢ x)

    wider : (z ∈ l) × (z ≢ x) → Here
    wider t = (Memᴰ.tail t.0, t.1)

    kept : eqb y x ≡ false → (z ≡ y) ⊎ (z ∈ remove x l) → (z ∈ remove x l → (z ∈ l) × (z ≢ x)) → Here
    kept e (inl f) r = (Memᴰ.head f, λ g. both_ways (eq-eqb y x (sym f ∙ g)) e)
    kept e (inr k) r = wider (r k)

    go : (b : Bool) → eqb y x ≡ b → z ∈ pick b (remove x l) (y ∷ remove x l) → (z ∈ remove x l → (z ∈ l) × (z ≢ x)) → Here
    go true e k r = wider (r k)
    go false e k r = kept e (Memᴰ.cases_cons k) r

pub in_remove : (z x : ℕ) (l : List ℕ) → z ∈ l → z ≢ x → z ∈ remove x l
unfolding remove
in_remove z x [] m n = absurd (Memᴰ.not-nil m)
in_remove z x (y ∷ l) m n = go (eqb y x) refl (Memᴰ.cases_cons m) (λ k. in_remove z x l k n)
  where
    go : (b : Bool) → eqb y x ≡ b → (z ≡ y) ⊎ (z ∈ l) → (z ∈ l → z ∈ remove x l) → z ∈ pick b (remove x l) (y ∷ remove x l)
    go true e (inl f) r = absurd (n (f ∙ eqb-true y x e))
    go true e (inr k) r = r k
    go false e (inl f) r = Memᴰ.head f
    go false e (inr k) r = Memᴰ.tail (r k)

pub remove_absent : (x : ℕ) (l : List ℕ) → ¬ (x ∈ l) → remove x l ≡ l
unfolding remove
remove_absent x [] n = refl
remove_absent x (y ∷ l) n = rw (ne_eqb y x (λ e. n (Memᴰ.head (sym e)))) (ap (λ (k : List ℕ). y ∷ k) (remove_absent x l (λ m. n (Memᴰ.tail m))))

pub remove-head : (x : ℕ) (l : List ℕ) → ¬ (x ∈ l) → remove x (x ∷ l) ≡ l
unfolding remove
remove-head x l n = rw (eq-eqb x x refl) (remove_absent x l n)

-- it is no longer, and shorter where x was in the list
remove-length : (x : ℕ) (l : List ℕ) → length (remove x l) ≤ length l
unfolding remove
remove-length x [] = omega arith
remove-length x (y ∷ l) = go (eqb y x) (remove-length x l)
  where
    go : (b : Bool) → length (remove x l) ≤ length l → length (pick b (remove x l) (y ∷ remove x l)) ≤ suc (length l)
    go true h = omega arith
    go false h = omega arith

pub remove-shorter : (x : ℕ) (l : List ℕ) → x ∈ l → length (remove x l) < length l
unfolding remove
remove-shorter x [] m = absurd (Memᴰ.not-nil m)
remove-shorter x (y ∷ l) m = go (eqb y x) refl (Memᴰ.cases_cons m) (λ k. remove-shorter x l k) (remove-length x l)
  where
    go : (b : Bool) → eqb y x ≡ b → (x ≡ y) ⊎ (x ∈ l) → (x ∈ l → length (remove x l) < length l) → length (remove x l) ≤ length l → length (pick b (remove x l) (y ∷ remove x l)) < suc (length l)
    go true e h r w = omega arith
    go false e (inl h) r w = both_ways (eq-eqb y x (sym h)) e
    go false e (inr k) r w = let u : length (remove x l) < length l = r k in omega arith

-- The order, by positions.
pub before-rest : (a b l m : List ℕ) → a ≡ b → Before (a ++ l) (b ++ m) → Before l m
before-rest [] [] l m e d = d
before-rest [] (y ∷ b) l m e d = absurd (nil≢cons e)
before-rest (x ∷ a) [] l m e d = absurd (cons≢nil e)
before-rest (x ∷ a) (y ∷ b) l m e (here h) = absurd (omega (arith, head-eq_of_cons-eq e))
before-rest (x ∷ a) (y ∷ b) l m e (later f d) = before-rest a b l m (tail-eq_of_cons-eq e) d

pub before-prepend : (a l m : List ℕ) → Before l m → Before (a ++ l) (a ++ m)
before-prepend [] l m d = d
before-prepend (x ∷ a) l m d = later refl (before-prepend a l m d)

-- greater at place k and the same before it
pub greater-at : (k : ℕ) (l m l' m' : List ℕ) → k < length l → k < length m → ((i : ℕ) → i < k → get_or l i 0 ≡ get_or m i 0) → get_or m k 0 < get_or l k 0
    → ¬ Before (l ++ l') (m ++ m')
greater-at k [] m l' m' h h' s t d = absurd (omega arith)
greater-at k (x ∷ l) [] l' m' h h' s t d = absurd (omega arith)
greater-at zero (x ∷ l) (y ∷ m) l' m' h h' s t (here d) = omega arith
greater-at zero (x ∷ l) (y ∷ m) l' m' h h' s t (later e d) = omega arith
greater-at (suc k) (x ∷ l) (y ∷ m) l' m' h h' s t (here d) = let e : x ≡ y = s 0 (omega arith) in omega arith
greater-at (suc k) (x ∷ l) (y ∷ m) l' m' h h' s t (later e d) = greater-at k l m l' m' (omega arith) (omega arith) (λ i u. s (suc i) (omega arith)) t d

-- nowhere less
pub nowhere-less : (l m : List ℕ) → length l ≡ length m → ((i : ℕ) → i < length l → get_or m i 0 ≤ get_or l i 0) → ¬ Before l m
nowhere-less [] m e h b = elim b [ ]
nowhere-less (x ∷ l) [] e h b = elim b [ ]
nowhere-less (x ∷ l) (y ∷ m) e h (here d) = let u : y ≤ x = h 0 (omega arith) in omega arith
nowhere-less (x ∷ l) (y ∷ m) e h (later f d) = nowhere-less l m (omega arith) (λ i u. h (suc i) (omega arith)) d

pub within-rest : (bs cs p m : List ℕ) → length bs ≡ length p → Within (bs ++ cs) (p ++ m) → Within cs m
within-rest [] cs [] m e w = w
within-rest [] cs (x ∷ p) m e w = absurd (omega arith)
within-rest (b ∷ bs) cs [] m e w = absurd (omega arith)
within-rest (b ∷ bs) cs (x ∷ p) m e (also h w) = within-rest bs cs p m (omega arith) w

-- An ascending list without its first is its rest.
pub ascending-rest : (x : ℕ) (l : List ℕ) → Ascending (x ∷ l) → remove x (x ∷ l) ≡ l
ascending-rest x l a = remove-head x l (λ m. let h : x < x = a.0 x m in omega arith)
