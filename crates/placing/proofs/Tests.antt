-- Tests that say whether a statement holds.
use Prim.Native.Nat.{ℕ, zero, suc, ◌+◌, ◌≤◌, ◌<◌}
use mathlib.Core.Path.{◌≡◌, refl, sym, ap₂, subst}
use mathlib.Core.Logic.{◌⊎◌, inl, inr}
use mathlib.Core.List.Memᴰ
use mathlib.Core.List.{List, [], ◌∷◌}
use mathlib.Core.Bool.{Bool, true, false}
use native.Mathlib.Decide.{ℕ_discrete}
use native.Mathlib.Omega.{arith}
use lib.Dec.{eqb, leb}
use borrow.Author.Tests.{eqb-true, eq-eqb, leb-true, le-leb}
use Rattle.hyperlmntal.specs.Link.{◌∈◌}
use Rattle.rows.specs.Pick.{pick, not, and, or}
use Rattle.placing.specs.Net.{Range}
use Rattle.placing.specs.Smallest.{numbers_from, numbers_to, all_of, some_of, implies, in_range, is_among, same_list}
use Rattle.placing.proofs.FirstLaws.{both_ways}

-- the test passes exactly where the statement holds
pub record Says (b : Bool) (A : Type 0) : Type 0 where
  pub sound : b ≡ true → A
  pub complete : A → b ≡ true

pub says-by : {b : Bool} {A B : Type 0} → Says b A → (A → B) → (B → A) → Says b B
says-by s f g = record { sound = λ e. f (s.sound e); complete = λ x. s.complete (g x) }

pub refuted : {b : Bool} {A : Type 0} → Says b A → b ≡ false → ¬ A
refuted s e x = both_ways (s.complete x) e

pub turned_down : {b : Bool} {A : Type 0} → Says b A → ¬ A → b ≡ false
turned_down {b} {A} s n = go b refl
  where
    go : (c : Bool) → b ≡ c → b ≡ false
    go true e = absurd (n (s.sound e))
    go false e = e

clash : {A : Type 0} → false ≡ true → A
clash e = both_ways e refl

pub says-choice : {a b c : Bool} {A B C : Type 0} → Says a A → Says b B → Says c C → Says (pick a b c) ((A → B) × (¬ A → C))
says-choice {a} {b} {c} {A} {B} {C} s t u = go a refl
  where
    go : (d : Bool) → a ≡ d → Says (pick d b c) ((A → B) × (¬ A → C))
    go true e = record { sound = λ q. (λ x. t.sound q, λ n. absurd (n (s.sound e))); complete = λ f. t.complete (f.0 (s.sound e)) }
    go false e = record { sound = λ q. (λ x. absurd (refuted s e x), λ n. u.sound q); complete = λ f. u.complete (f.1 (refuted s e)) }

pub says-and : {a b : Bool} {A B : Type 0} → Says a A → Says b B → Says (and a b) (A × B)
says-and {a} {b} {A} {B} s t = go a refl
  where
    go : (d : Bool) → a ≡ d → Says (and d b) (A × B)
    go true e = record { sound = λ q. (s.sound e, t.sound q); complete = λ f. t.complete f.1 }
    go false e = record { sound = λ q. clash q; complete = λ f. absurd (refuted s e f.0) }

pub says-or : {a b : Bool} {A B : Type 0} → Says a A → Says b B → Says (or a b) (A ⊎ B)
says-or {a} {b} {A} {B} s t = go a refl
  where
    second : a ≡ false → A ⊎ B → b ≡ true
    second e (inl x) = absurd (refuted s e x)
    second e (inr y) = t.complete y

    go : (d : Bool) → a ≡ d → Says (or d b) (A ⊎ B)
    go true e = record { sound = λ q. inl (s.sound e); complete = λ f. refl }
    go false e = record { sound = λ q. inr (t.sound q); complete = second e }

pub says-not : {a : Bool} {A : Type 0} → Says a A → Says (not a) (¬ A)
says-not {a} {A} s = go a refl
  where
    go : (d : Bool) → a ≡ d → Says (not d) (¬ A)
    go true e = record { sound = λ q. clash q; complete = λ n. absurd (n (s.sound e)) }
    go false e = record { sound = λ q. refuted s e; complete = λ n. refl }

pub says-implies : {a b : Bool} {A B : Type 0} → Says a A → Says b B → Says (implies a b) (A → B)
says-implies {a} {b} {A} {B} s t = go a refl
  where
    go : (d : Bool) → a ≡ d → Says (implies d b) (A → B)
    go true e = record { sound = λ q x. t.sound q; complete = λ f. t.complete (f (s.sound e)) }
    go false e = record { sound = λ q x. absurd (refuted s e x); complete = λ f. refl }

pub says_eq : (m n : ℕ) → Says (eqb m n) (m ≡ n)
says_eq m n = record { sound = eqb-true m n; complete = eq-eqb m n }

pub says-le : (m n : ℕ) → Says (leb m n) (m ≤ n)
says-le m n = record { sound = leb-true m n; complete = le-leb m n }

pub says_range : (n i : ℕ) → Says (in_range n i) (Range n i)
says_range n i = says-and (says-le 1 i) (says-le i n)

module _ {A : Type 0} (test : A → Bool) (P : A → Type 0) (s : (a : A) → Says (test a) (P a)) where
  pub says_all : (l : List A) → Says (all_of test l) ((a : A) → a ∈ l → P a)
  says_all [] = record { sound = λ q a m. absurd (Memᴰ.not-nil m); complete = λ f. refl }
  says_all (x ∷ l) = says-by (says-and (s x) (says_all l)) (λ f a m. at a f (Memᴰ.cases_cons m)) (λ f. (f x (Memᴰ.head refl), λ a m. f a (Memᴰ.tail m)))
    where
      at : (a : A) → P x × ((b : A) → b ∈ l → P b) → (a ≡ x) ⊎ (a ∈ l) → P a
      at a f (inl e) = subst P (sym e) f.0
      at a f (inr m) = f.1 a m

  pub says_some : (l : List A) → Says (some_of test l) ((a : A) × (a ∈ l) × P a)
  says_some [] = record { sound = λ q. clash q; complete = λ t. absurd (Memᴰ.not-nil t.1) }
  says_some (x ∷ l) = says-by (says-or (s x) (says_some l)) out (λ t. into t.0 t.2 (Memᴰ.cases_cons t.1))
    where
      out : P x ⊎ ((a : A) × (a ∈ l) × P a) → (a : A) × (a ∈ (x ∷ l)) × P a
      out (inl q) = (x, Memᴰ.head refl, q)
      out (inr t) = (t.0, Memᴰ.tail t.1, t.2)

      into : (a : A) → P a → (a ≡ x) ⊎ (a ∈ l) → P x ⊎ ((a : A) × (a ∈ l) × P a)
      into a q (inl e) = inl (subst P e q)
      into a q (inr m) = inr (a, m, q)

-- the numbers from 1 to n
numbers-range : (i s n : ℕ) → i ∈ numbers_from s n → (s ≤ i) × (i < s + n)
numbers-range i s zero m = absurd (Memᴰ.not-nil m)
numbers-range i s (suc n) m = at (Memᴰ.cases_cons m) (λ k. numbers-range i (suc s) n k)
  where
    at : (i ≡ s) ⊎ (i ∈ numbers_from (suc s) n) → (i ∈ numbers_from (suc s) n → (suc s ≤ i) × (i < suc s + n)) → (s ≤ i) × (i < s + suc n)
    at (inl e) f = (omega arith, omega arith)
    at (inr k) f = let h : suc s ≤ i = (f k).0 in let g : i < suc s + n = (f k).1 in (omega arith, omega arith)

range-numbers : (i s n : ℕ) → s ≤ i → i < s + n → i ∈ numbers_from s n
range-numbers i s zero h g = absurd (omega arith)
range-numbers i s (suc n) h g = at (ℕ_discrete i s) (λ k. range-numbers i (suc s) n k (omega arith))
  where
    at : Dec (i ≡ s) → (suc s ≤ i → i ∈ numbers_from (suc s) n) → i ∈ numbers_from s (suc n)
    at (yes e) f = Memᴰ.head e
    at (no d) f = Memᴰ.tail (f (omega arith))

pub to-range : (n i : ℕ) → i ∈ numbers_to n → Range n i
to-range n i m = let h : 1 ≤ i = (numbers-range i 1 n m).0 in let g : i < 1 + n = (numbers-range i 1 n m).1 in (h, omega arith)

pub of_range : (n i : ℕ) → Range n i → i ∈ numbers_to n
of_range n i r = let h : 1 ≤ i = r.0 in let g : i ≤ n = r.1 in range-numbers i 1 n h (omega arith)

module _ (test : ℕ → Bool) (P : ℕ → Type 0) (s : (i : ℕ) → Says (test i) (P i)) (n : ℕ) where
  pub says-all-to : Says (all_of test (numbers_to n)) ((i : ℕ) → Range n i → P i)
  says-all-to = says-by (says_all test P s (numbers_to n)) (λ f i r. f i (of_range n i r)) (λ f i m. f i (to-range n i m))

  pub says-some-to : Says (some_of test (numbers_to n)) ((i : ℕ) × Range n i × P i)
  says-some-to = says-by (says_some test P s (numbers_to n)) (λ t. (t.0, to-range n t.0 t.1, t.2)) (λ t. (t.0, of_range n t.0 t.1, t.2))

pub says-among : (x : ℕ) (l : List ℕ) → Says (is_among x l) (x ∈ l)
says-among x l = says-by (says_some (eqb x) (λ y. x ≡ y) (λ y. says_eq x y) l) (λ t. subst (λ z. z ∈ l) (sym t.2) t.1) (λ m. (x, m, refl))

pub says-list : (l m : List ℕ) → Says (same_list l m) (l ≡ m)
says-list [] [] = record { sound = λ q. refl; complete = λ e. refl }
says-list [] (y ∷ m) = record { sound = λ q. clash q; complete = λ e. absurd (let z : ◌≡◌ {A = ℕ} 0 1 = cc in omega arith) }
says-list (x ∷ l) [] = record { sound = λ q. clash q; complete = λ e. absurd (let z : ◌≡◌ {A = ℕ} 0 1 = cc in omega arith) }
says-list (x ∷ l) (y ∷ m) = says-by (says-and (says_eq x y) (says-list l m)) (λ t. ap₂ ◌∷◌ t.0 t.1) apart
  where
    apart : ◌≡◌ {A = List ℕ} (x ∷ l) (y ∷ m) → (x ≡ y) × (l ≡ m)
    apart e = (cc, cc)
