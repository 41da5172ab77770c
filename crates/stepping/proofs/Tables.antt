-- Arrays as flags and tables.
use Prim.Native.Nat.{ℕ, zero, suc, ◌+◌, ◌≤◌, ◌<◌}
use mathlib.Core.Path.{◌≡◌, refl, sym, ◌∙◌, subst}
use mathlib.Core.Logic.{◌⊎◌, inl, inr, ◌≢◌, ◌↔◌}
use mathlib.Core.List.{List}
use native.Mathlib.Decide.{ℕ_discrete}
use native.Mathlib.Omega.{arith}
use lib.ListN.{length, get_or, set, replicate}
use lib.Seq.{get_or-set_same, get_or-set_other}

-- what holds of the entries below x holds of one more when it is stored
pub below_set : (Q : ℕ → ℕ → Type 0) (l : List ℕ) (x v : ℕ) → x < length l → ((i : ℕ) → i < x → Q i (get_or l i 0)) → Q x v
    → (i : ℕ) → i < x + 1 → Q i (get_or (set l x v) i 0)
below_set Q l x v h f q i k = go (ℕ_discrete i x)
  where
    go : Dec (i ≡ x) → Q i (get_or (set l x v) i 0)
    go (yes e) = subst (λ (n : ℕ). Q n (get_or (set l x v) n 0)) (sym e) (subst (Q x) (sym (get_or-set_same l x v 0 h)) q)
    go (no n) = subst (Q i) (sym (get_or-set_other l x i v 0 n)) (f i (omega arith))

-- the entries above are as they were
pub above-set : (l : List ℕ) (x v i : ℕ) → x + 1 ≤ i → get_or (set l x v) i 0 ≡ get_or l i 0
above-set l x v i h = get_or-set_other l x i v 0 (λ e. omega arith)

-- one more entry, where nothing is stored
pub below_next : (P : ℕ → Type 0) (x : ℕ) → ((i : ℕ) → i < x → P i) → P x → (i : ℕ) → i < x + 1 → P i
below_next P x f p i h = go (ℕ_discrete i x)
  where
    go : Dec (i ≡ x) → P i
    go (yes e) = subst P (sym e) p
    go (no n) = f i (omega arith)

pub zeros : (n i : ℕ) → ◌≡◌ {A = ℕ} (get_or (replicate n 0) i 0) 0
zeros zero i = refl
zeros (suc n) zero = refl
zeros (suc n) (suc i) = zeros n i

pub zeros-not : (n i : ℕ) → ◌≢◌ {A = ℕ} (get_or (replicate n 0) i 0) 1
zeros-not n i e = let z = zeros n i in omega arith

-- after a 1 is stored
pub store-flag : (l : List ℕ) (i : ℕ) → i < length l → (p : ℕ) → (get_or (set l i 1) p 0 ≡ 1) ↔ ((get_or l p 0 ≡ 1) ⊎ (p ≡ i))
store-flag l i h p = go (ℕ_discrete p i)
  where
    go : Dec (p ≡ i) → (get_or (set l i 1) p 0 ≡ 1) ↔ ((get_or l p 0 ≡ 1) ⊎ (p ≡ i))
    go (yes e) = ((λ q. inr e), (λ q. subst (λ (n : ℕ). get_or (set l i 1) n 0 ≡ 1) (sym e) (get_or-set_same l i 1 0 h)))
    go (no n) = ((λ q. inl (sym (get_or-set_other l i p 1 0 n) ∙ q)), back)
      where
        back : (get_or l p 0 ≡ 1) ⊎ (p ≡ i) → get_or (set l i 1) p 0 ≡ 1
        back (inl q) = get_or-set_other l i p 1 0 n ∙ q
        back (inr e) = absurd (n e)

-- the same flags, said otherwise
pub flag-as : (P Q : ℕ → Type 0) (l m : List ℕ) → ((p : ℕ) → (get_or m p 0 ≡ 1) ↔ ((get_or l p 0 ≡ 1) ⊎ Q p)) → ((p : ℕ) → Q p ↔ P p) → (p : ℕ) → (get_or m p 0 ≡ 1) ↔ ((get_or l p 0 ≡ 1) ⊎ P p)
flag-as P Q l m f g p = ((λ q. to ((f p).0 q)), (λ t. (f p).1 (from t)))
  where
    to : (get_or l p 0 ≡ 1) ⊎ Q p → (get_or l p 0 ≡ 1) ⊎ P p
    to (inl a) = inl a
    to (inr b) = inr ((g p).0 b)

    from : (get_or l p 0 ≡ 1) ⊎ P p → (get_or l p 0 ≡ 1) ⊎ Q p
    from (inl a) = inl a
    from (inr b) = inr ((g p).1 b)

-- flags: those of the base, and for each number below n those of P
module _ (base : ℕ → Type 0) (P : ℕ → ℕ → Type 0) where
  abbrev pub Marked : ℕ → List ℕ → Type 0
  Marked n l = (p : ℕ) → (get_or l p 0 ≡ 1) ↔ (base p ⊎ ((k : ℕ) × (k < n) × P k p))

  pub marked_start : (l : List ℕ) → ((p : ℕ) → (get_or l p 0 ≡ 1) ↔ base p) → Marked 0 l
  marked_start l f p = ((λ q. inl ((f p).0 q)), back)
    where
      back : base p ⊎ ((k : ℕ) × (k < 0) × P k p) → get_or l p 0 ≡ 1
      back (inl b) = (f p).1 b
      back (inr t) = absurd (let h : t.0 < 0 = t.1 in omega arith)

  pub marked_more : (n : ℕ) (l m : List ℕ) → Marked n l → ((p : ℕ) → (get_or m p 0 ≡ 1) ↔ ((get_or l p 0 ≡ 1) ⊎ P n p)) → Marked (n + 1) m
  marked_more n l m f g p = ((λ q. onward ((g p).0 q)), back)
    where
      wider : base p ⊎ ((k : ℕ) × (k < n) × P k p) → base p ⊎ ((k : ℕ) × (k < n + 1) × P k p)
      wider (inl b) = inl b
      wider (inr t) = let h : t.0 < n = t.1 in inr (t.0, omega arith, t.2)

      onward : (get_or l p 0 ≡ 1) ⊎ P n p → base p ⊎ ((k : ℕ) × (k < n + 1) × P k p)
      onward (inl q) = wider ((f p).0 q)
      onward (inr q) = inr (n, omega arith, q)

      at : (k : ℕ) → k < n + 1 → P k p → Dec (k ≡ n) → get_or m p 0 ≡ 1
      at k h q (yes e) = (g p).1 (inr (subst (λ (i : ℕ). P i p) e q))
      at k h q (no i) = (g p).1 (inl ((f p).1 (inr (k, omega arith, q))))

      back : base p ⊎ ((k : ℕ) × (k < n + 1) × P k p) → get_or m p 0 ≡ 1
      back (inl b) = (g p).1 (inl ((f p).1 (inl b)))
      back (inr t) = at t.0 t.1 t.2 (ℕ_discrete t.0 n)

  pub marked-skip : (n : ℕ) (l : List ℕ) → Marked n l → ((p : ℕ) → ¬ P n p) → Marked (n + 1) l
  marked-skip n l f g = marked_more n l l f (λ p. ((λ q. inl q), back p))
    where
      back : (p : ℕ) → (get_or l p 0 ≡ 1) ⊎ P n p → get_or l p 0 ≡ 1
      back p (inl q) = q
      back p (inr q) = absurd (g p q)
