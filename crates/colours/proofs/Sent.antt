-- A row of links that is sent elsewhere, no two links to one place: its pattern, its colours and the places of a link. The marks of a
-- link that is sent.
use Rattle.std.proofs.Common.{◌≡◌, ℕ, suc, ◌+◌, ◌⊎◌, ◌↔◌, List, [], ◌∷◌, map, refl, ap, ap₂, inl, inr}
use mathlib.Core.List.Memᴰ
use native.Mathlib.Decide.{ℕ_discrete}
use Rattle.hyperlmntal.specs.Link.{◌∈◌, select}
use Rattle.reading.specs.Normal.{inserted}
use Rattle.reading.proofs.normal.Marks.{Ascending, inserted-in, inserted-of, inserted-ascending, ascending-same}
use Rattle.colours.specs.Colours.{first_at, pattern, marks_at, places_at}

module _ (to : ℕ → ℕ) where
  -- no other link of the row goes where x goes
  abbrev pub Alone : ℕ → List ℕ → Type 0
  Alone x l = (z : ℕ) → z ∈ l → to x ≡ to z → x ≡ z

  rest : {x y : ℕ} {l : List ℕ} → Alone x (y ∷ l) → Alone x l
  rest a z m = a z (Memᴰ.tail m)

  pub places-sent : (f : ℕ → ℕ) (x k : ℕ) (l : List ℕ) → Alone x l → places_at f x k l ≡ places_at f (to x) k (map to l)
  unfolding places_at
  places-sent f x k [] a = refl
  places-sent f x k (y ∷ l) a = go (ℕ_discrete x y) (ℕ_discrete (to x) (to y)) (places-sent f x (suc k) l (rest a))
    where
      go : (d : Dec (x ≡ y)) (e : Dec (to x ≡ to y)) → places_at f x (suc k) l ≡ places_at f (to x) (suc k) (map to l)
          → select d (f k) 0 + places_at f x (suc k) l ≡ select e (f k) 0 + places_at f (to x) (suc k) (map to l)
      go (yes e) (yes q) h = ap (λ (n : ℕ). f k + n) h
      go (yes e) (no q) h = absurd (q (ap to e))
      go (no e) (yes q) h = absurd (e (a y (Memᴰ.head refl) q))
      go (no e) (no q) h = ap (λ (n : ℕ). 0 + n) h

  first-sent : (x : ℕ) (l : List ℕ) → Alone x l → first_at x l ≡ first_at (to x) (map to l)
  unfolding first_at
  first-sent x [] a = refl
  first-sent x (y ∷ l) a = go (ℕ_discrete x y) (ℕ_discrete (to x) (to y)) (first-sent x l (rest a))
    where
      go : (d : Dec (x ≡ y)) (e : Dec (to x ≡ to y)) → first_at x l ≡ first_at (to x) (map to l) → select d 0 (suc (first_at x l)) ≡ select e 0 (suc (first_at (to x) (map to l)))
      go (yes e) (yes q) h = refl
      go (yes e) (no q) h = absurd (q (ap to e))
      go (no e) (yes q) h = absurd (e (a y (Memᴰ.head refl) q))
      go (no e) (no q) h = ap suc h

  -- Links whose numbers are kept, one by one.
  pub colours-sent : (c d : ℕ → ℕ) (l : List ℕ) → ((x : ℕ) → x ∈ l → c x ≡ d (to x)) → map c l ≡ map d (map to l)
  colours-sent c d [] h = refl
  colours-sent c d (x ∷ l) h = ap₂ ◌∷◌ (h x (Memᴰ.head refl)) (colours-sent c d l (λ z m. h z (Memᴰ.tail m)))

  pub pattern-sent : (l : List ℕ) → ((x : ℕ) → x ∈ l → Alone x l) → pattern l ≡ pattern (map to l)
  pattern-sent l a = colours-sent (λ x. first_at x l) (λ y. first_at y (map to l)) l (λ x m. first-sent x l (a x m))

-- The marks of a link ascend, and are those in the list.
marks-in : (x m : ℕ) (l : List (ℕ × ℕ)) → (x, m) ∈ l → m ∈ marks_at x l
unfolding marks_at
marks-in x m [] i = absurd (Memᴰ.not-nil i)
marks-in x m (e ∷ l) i = go (ℕ_discrete x e.0) (Memᴰ.cases_cons i) (marks-in x m l)
  where
    go : (d : Dec (x ≡ e.0)) → ((x, m) ≡ e) ⊎ ((x, m) ∈ l) → ((x, m) ∈ l → m ∈ marks_at x l) → m ∈ select d (inserted e.1 (marks_at x l)) (marks_at x l)
    go (yes q) (inl h) r = inserted-in e.1 m (marks_at x l) (inl (ap (λ (t : ℕ × ℕ). t.1) h))
    go (yes q) (inr h) r = inserted-in e.1 m (marks_at x l) (inr (r h))
    go (no n) (inl h) r = absurd (n (ap (λ (t : ℕ × ℕ). t.0) h))
    go (no n) (inr h) r = r h

marks-of : (x m : ℕ) (l : List (ℕ × ℕ)) → m ∈ marks_at x l → (x, m) ∈ l
unfolding marks_at
marks-of x m [] i = absurd (Memᴰ.not-nil i)
marks-of x m (e ∷ l) i = go (ℕ_discrete x e.0) i (marks-of x m l)
  where
    at : x ≡ e.0 → (m ≡ e.1) ⊎ (m ∈ marks_at x l) → (m ∈ marks_at x l → (x, m) ∈ l) → (x, m) ∈ (e ∷ l)
    at q (inl h) r = Memᴰ.head (ap₂ (λ (a b : ℕ). (a, b)) q h)
    at q (inr h) r = Memᴰ.tail (r h)

    go : (d : Dec (x ≡ e.0)) → m ∈ select d (inserted e.1 (marks_at x l)) (marks_at x l) → (m ∈ marks_at x l → (x, m) ∈ l) → (x, m) ∈ (e ∷ l)
    go (yes q) h r = at q (inserted-of e.1 m (marks_at x l) h) r
    go (no n) h r = Memᴰ.tail (r h)

marks-ascend : (x : ℕ) (l : List (ℕ × ℕ)) → Ascending (marks_at x l)
unfolding marks_at
marks-ascend x [] = tt
marks-ascend x (e ∷ l) = go (ℕ_discrete x e.0) (marks-ascend x l)
  where
    go : (d : Dec (x ≡ e.0)) → Ascending (marks_at x l) → Ascending (select d (inserted e.1 (marks_at x l)) (marks_at x l))
    go (yes q) a = inserted-ascending e.1 (marks_at x l) a
    go (no n) a = a

pub marks-sent : (x y : ℕ) (l k : List (ℕ × ℕ)) → ((m : ℕ) → ((x, m) ∈ l) ↔ ((y, m) ∈ k)) → marks_at x l ≡ marks_at y k
marks-sent x y l k h =
    ascending-same (marks_at x l) (marks_at y k) (marks-ascend x l) (marks-ascend y k) (λ m. (λ i. marks-in y m k ((h m).0 (marks-of x m l i)), λ i. marks-in x m l ((h m).1 (marks-of y m k i))))
