-- The marks of a hypergraph: each once, ascending.
use Prim.Native.Nat.{ℕ, ◌<◌}
use mathlib.Core.Path.{◌≡◌, refl, sym, ap₂, ◌∙◌}
use mathlib.Core.List.Memᴰ
use mathlib.Core.List.{List, [], ◌∷◌}
use mathlib.Core.Bool.{Bool, true, false}
use mathlib.Core.Logic.{◌↔◌, ◌⊎◌, inl, inr}
use native.Mathlib.Omega.{arith}
use borrow.Author.Tests.{ltb-true, ltb-false, eqb-true, eqb-false}
use lib.Dec.{eqb, ltb}
use Rattle.hyperlmntal.specs.Link.{local, free, ◌∈◌}
use Rattle.hyperlmntal.specs.Hypergraph.{Node, inner, name}
use Rattle.rows.specs.Pick.{pick}
use Rattle.reading.specs.Normal.{inserted, mark_node, marks_among}
use Rattle.reading.proofs.normal.Distinct.{Once}

-- What is in a list with m put in.
pub inserted-in : (m k : ℕ) (l : List ℕ) → (k ≡ m) ⊎ (k ∈ l) → k ∈ inserted m l
unfolding inserted
inserted-in m k [] (inl e) = Memᴰ.head e
inserted-in m k [] (inr i) = absurd (Memᴰ.not-nil i)
inserted-in m k (j ∷ l) c = go (ltb m j) (eqb m j) refl c (inserted-in m k l)
  where
    at : (k ≡ m) ⊎ (k ∈ (j ∷ l)) → k ∈ (m ∷ j ∷ l)
    at (inl e) = Memᴰ.head e
    at (inr i) = Memᴰ.tail i

    past : (k ≡ j) ⊎ (k ∈ l) → ((k ≡ m) ⊎ (k ∈ l) → k ∈ inserted m l) → k ∈ (j ∷ inserted m l)
    past (inl e) ih = Memᴰ.head e
    past (inr i) ih = Memᴰ.tail (ih (inr i))

    go : (s t : Bool) → eqb m j ≡ t → (k ≡ m) ⊎ (k ∈ (j ∷ l)) → ((k ≡ m) ⊎ (k ∈ l) → k ∈ inserted m l)
        → k ∈ pick s (m ∷ j ∷ l) (pick t (j ∷ l) (j ∷ inserted m l))
    go true t q d ih = at d
    go false true q (inl e) ih = Memᴰ.head (e ∙ eqb-true m j q)
    go false true q (inr i) ih = i
    go false false q (inl e) ih = Memᴰ.tail (ih (inl e))
    go false false q (inr i) ih = past (Memᴰ.cases_cons i) ih

pub inserted-of : (m k : ℕ) (l : List ℕ) → k ∈ inserted m l → (k ≡ m) ⊎ (k ∈ l)
unfolding inserted
inserted-of m k [] i = Memᴰ.cases_cons i
inserted-of m k (j ∷ l) i = go (ltb m j) (eqb m j) i (inserted-of m k l)
  where
    down : (k ≡ m) ⊎ (k ∈ l) → (k ≡ m) ⊎ (k ∈ (j ∷ l))
    down (inl e) = inl e
    down (inr h) = inr (Memᴰ.tail h)

    past : (k ≡ j) ⊎ (k ∈ inserted m l) → (k ∈ inserted m l → (k ≡ m) ⊎ (k ∈ l)) → (k ≡ m) ⊎ (k ∈ (j ∷ l))
    past (inl e) ih = inr (Memᴰ.head e)
    past (inr h) ih = down (ih h)

    go : (s t : Bool) → k ∈ pick s (m ∷ j ∷ l) (pick t (j ∷ l) (j ∷ inserted m l)) → (k ∈ inserted m l → (k ≡ m) ⊎ (k ∈ l))
        → (k ≡ m) ⊎ (k ∈ (j ∷ l))
    go true t h ih = Memᴰ.cases_cons h
    go false true h ih = inr h
    go false false h ih = past (Memᴰ.cases_cons h) ih

-- The marks among nodes are those whose names are there.
pub marks-in : (l : List (Node ℕ)) (m : ℕ) → mark_node m ∈ l → m ∈ marks_among l
unfolding marks_among
marks-in [] m i = absurd (Memᴰ.not-nil i)
marks-in (inner n ∷ l) m i = at (Memᴰ.cases_cons i) (marks-in l m)
  where
    at : (mark_node m ≡ inner n) ⊎ (mark_node m ∈ l) → (mark_node m ∈ l → m ∈ marks_among l) → m ∈ marks_among l
    at (inl e) f = absurd (let z : ◌≡◌ {A = ℕ} 0 1 = cc in omega arith)
    at (inr h) f = f h
marks-in (name (local n) ∷ l) m i = at (Memᴰ.cases_cons i) (marks-in l m)
  where
    at : (mark_node m ≡ name (local n)) ⊎ (mark_node m ∈ l) → (mark_node m ∈ l → m ∈ marks_among l) → m ∈ marks_among l
    at (inl e) f = absurd (let z : ◌≡◌ {A = ℕ} 0 1 = cc in omega arith)
    at (inr h) f = f h
marks-in (name (free k) ∷ l) m i = inserted-in k m (marks_among l) (at (Memᴰ.cases_cons i) (marks-in l m))
  where
    at : (mark_node m ≡ name (free k)) ⊎ (mark_node m ∈ l) → (mark_node m ∈ l → m ∈ marks_among l) → (m ≡ k) ⊎ (m ∈ marks_among l)
    at (inl e) f = inl (cc)
    at (inr h) f = inr (f h)

pub marks-of : (l : List (Node ℕ)) (m : ℕ) → m ∈ marks_among l → mark_node m ∈ l
unfolding marks_among
marks-of [] m i = absurd (Memᴰ.not-nil i)
marks-of (inner n ∷ l) m i = Memᴰ.tail (marks-of l m i)
marks-of (name (local n) ∷ l) m i = Memᴰ.tail (marks-of l m i)
marks-of (name (free k) ∷ l) m i = at (inserted-of k m (marks_among l) i) (marks-of l m)
  where
    at : (m ≡ k) ⊎ (m ∈ marks_among l) → (m ∈ marks_among l → mark_node m ∈ l) → mark_node m ∈ (name (free k) ∷ l)
    at (inl e) f = Memᴰ.head (λ j. name (free (e j)))
    at (inr h) f = Memᴰ.tail (f h)

-- Ascending numbers: each is below all that follow.
abbrev pub Ascending : List ℕ → Type 0
Ascending [] = Unit {0}
Ascending (m ∷ l) = ((k : ℕ) → k ∈ l → m < k) × Ascending l

pub inserted-ascending : (m : ℕ) (l : List ℕ) → Ascending l → Ascending (inserted m l)
unfolding inserted
inserted-ascending m [] a = (λ k i. absurd (Memᴰ.not-nil i), tt)
inserted-ascending m (j ∷ l) a = go (ltb m j) refl (eqb m j) refl (inserted-ascending m l a.1)
  where
    first : m < j → (k : ℕ) → (k ≡ j) ⊎ (k ∈ l) → m < k
    first h k (inl e) = omega arith
    first h k (inr i) = omega (arith, a.0 k i)

    later : j < m → (k : ℕ) → (k ≡ m) ⊎ (k ∈ l) → j < k
    later h k (inl e) = omega arith
    later h k (inr i) = a.0 k i

    apart : ltb m j ≡ false → eqb m j ≡ false → j < m
    apart p q = let h = ltb-false m j p in let n : ¬ (m ≡ j) = eqb-false m j q in omega arith

    go : (s : Bool) → ltb m j ≡ s → (t : Bool) → eqb m j ≡ t → Ascending (inserted m l)
        → Ascending (pick s (m ∷ j ∷ l) (pick t (j ∷ l) (j ∷ inserted m l)))
    go true p t q ih = (λ k i. first (ltb-true m j p) k (Memᴰ.cases_cons i), a)
    go false p true q ih = a
    go false p false q ih = (λ k i. later (apart p q) k (inserted-of m k l i), ih)

pub marks-ascending : (l : List (Node ℕ)) → Ascending (marks_among l)
unfolding marks_among
marks-ascending [] = tt
marks-ascending (inner n ∷ l) = marks-ascending l
marks-ascending (name (local n) ∷ l) = marks-ascending l
marks-ascending (name (free m) ∷ l) = inserted-ascending m (marks_among l) (marks-ascending l)

-- So none stands twice, and the marks are the only ascending list with these members.
pub ascending-once : (l : List ℕ) → Ascending l → Once l
ascending-once [] a = tt
ascending-once (m ∷ l) a = (λ i. let h = a.0 m i in omega arith, ascending-once l a.1)

head-same : (m n : ℕ) (l k : List ℕ) → Ascending (m ∷ l) → Ascending (n ∷ k) → (m ≡ n) ⊎ (m ∈ k) → (n ≡ m) ⊎ (n ∈ l) → m ≡ n
head-same m n l k a b (inl e) c = e
head-same m n l k a b (inr i) (inl e) = sym e
head-same m n l k a b (inr i) (inr j) = absurd (omega (arith, a.0 n j, b.0 m i))

tail-in : (m n : ℕ) (l k : List ℕ) → Ascending (m ∷ l) → m ≡ n → ((j : ℕ) → j ∈ (m ∷ l) → j ∈ (n ∷ k)) → (j : ℕ) → j ∈ l → j ∈ k
tail-in m n l k a e h j i = at (Memᴰ.cases_cons (h j (Memᴰ.tail i)))
  where
    at : (j ≡ n) ⊎ (j ∈ k) → j ∈ k
    at (inl q) = absurd (omega (arith, a.0 j i))
    at (inr t) = t

pub ascending-same : (l k : List ℕ) → Ascending l → Ascending k → ((m : ℕ) → (m ∈ l) ↔ (m ∈ k)) → l ≡ k
ascending-same [] [] a b h = refl
ascending-same [] (n ∷ k) a b h = absurd (Memᴰ.not-nil ((h n).1 (Memᴰ.head refl)))
ascending-same (m ∷ l) [] a b h = absurd (Memᴰ.not-nil ((h m).0 (Memᴰ.head refl)))
ascending-same (m ∷ l) (n ∷ k) a b h =
    ap₂ ◌∷◌ same
    (ascending-same l k a.1 b.1 (λ j. (tail-in m n l k a same (λ x. (h x).0) j, tail-in n m k l b (sym same) (λ x. (h x).1) j)))
  where
    same : m ≡ n
    same = head-same m n l k a b (Memᴰ.cases_cons ((h m).0 (Memᴰ.head refl))) (Memᴰ.cases_cons ((h n).1 (Memᴰ.head refl)))
