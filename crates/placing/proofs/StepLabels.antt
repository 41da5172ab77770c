-- 'Two figure joints that go to one sheet joint are linked by steps': the labels that the steps join say so.
use Prim.Native.Nat.{ℕ}
use mathlib.Core.Path.{◌≡◌, refl, sym, ◌∙◌, ap, subst}
use mathlib.Core.Logic.{◌⊎◌, inl, inr}
use mathlib.Core.List.Memᴰ
use mathlib.Core.List.{List, [], ◌∷◌}
use mathlib.Core.Bool.{Bool, true, false}
use Rattle.hyperlmntal.specs.Link.{◌∈◌}
use Rattle.rows.specs.Pick.{pick}
use Rattle.placing.specs.Net.{NetCell, Net, Range}
use Rattle.placing.specs.Placing.{Placing, link_target, At, Linked, here, step}
use Rattle.placing.specs.Smallest.{pairs_with, is_at, together, steps_in, steps_of, same_label, linked_test, labels_by, all_of, numbers_to}
use Rattle.placing.proofs.FirstLaws.{both_ways}
use Rattle.placing.proofs.Tests.{Says, says-by, says-and, says-implies, says_eq, says_range, says-all-to}
use Rattle.placing.proofs.Joined.{label, Pairs, pair-label, label-linked}

-- Pairs of x with what passes.
of-pairs : (test : ℕ → Bool) (x : ℕ) (l : List ℕ) (rest : List (ℕ × ℕ)) (a b : ℕ) → (a, b) ∈ pairs_with test x l rest → ((a ≡ x) × (b ∈ l) × (test b ≡ true)) ⊎ ((a, b) ∈ rest)
of-pairs test x [] rest a b m = inr m
of-pairs test x (z ∷ l) rest a b m = go (test z) refl m (λ k. of-pairs test x l rest a b k)
  where
    Found : List ℕ → Type 0
    Found k = ((a ≡ x) × (b ∈ k) × (test b ≡ true)) ⊎ ((a, b) ∈ rest)

    wider : Found l → Found (z ∷ l)
    wider (inl t) = inl (t.0, Memᴰ.tail t.1, t.2)
    wider (inr k) = inr k

    front : test z ≡ true → (◌≡◌ {A = ℕ × ℕ} (a, b) (x, z)) ⊎ ((a, b) ∈ pairs_with test x l rest) → ((a, b) ∈ pairs_with test x l rest → Found l) → Found (z ∷ l)
    front e (inl q) f =
        let i : a ≡ x = ap (λ (d : ℕ × ℕ). d.0) q in
        let j : b ≡ z = ap (λ (d : ℕ × ℕ). d.1) q in
        inl (i, Memᴰ.head j, ap test j ∙ e)
    front e (inr k) f = wider (f k)

    go : (c : Bool) → test z ≡ c → (a, b) ∈ pick c ((x, z) ∷ pairs_with test x l rest) (pairs_with test x l rest) → ((a, b) ∈ pairs_with test x l rest → Found l) → Found (z ∷ l)
    go true e k f = front e (Memᴰ.cases_cons k) f
    go false e k f = wider (f k)

rest-in-pairs : (test : ℕ → Bool) (x : ℕ) (l : List ℕ) (rest : List (ℕ × ℕ)) (d : ℕ × ℕ) → d ∈ rest → d ∈ pairs_with test x l rest
rest-in-pairs test x [] rest d m = m
rest-in-pairs test x (z ∷ l) rest d m = go (test z) (rest-in-pairs test x l rest d m)
  where
    go : (c : Bool) → d ∈ pairs_with test x l rest → d ∈ pick c ((x, z) ∷ pairs_with test x l rest) (pairs_with test x l rest)
    go true k = Memᴰ.tail k
    go false k = k

in_pairs : (test : ℕ → Bool) (x : ℕ) (l : List ℕ) (rest : List (ℕ × ℕ)) (b : ℕ) → b ∈ l → test b ≡ true → (x, b) ∈ pairs_with test x l rest
in_pairs test x [] rest b m e = absurd (Memᴰ.not-nil m)
in_pairs test x (z ∷ l) rest b m e = go (test z) refl (Memᴰ.cases_cons m) (λ k. in_pairs test x l rest b k e)
  where
    go : (c : Bool) → test z ≡ c → (b ≡ z) ⊎ (b ∈ l) → (b ∈ l → (x, b) ∈ pairs_with test x l rest) → (x, b) ∈ pick c ((x, z) ∷ pairs_with test x l rest) (pairs_with test x l rest)
    go true q (inl i) f = Memᴰ.head (ap (λ (c : ℕ). (x, c)) i)
    go true q (inr k) f = Memᴰ.tail (f k)
    go false q (inl i) f = both_ways e (ap test i ∙ q)
    go false q (inr k) f = f k

module _ (S F : Net) (p : Placing) where
  abbrev pub Real : ℕ → Type 0
  Real x = Range F.links x × Range S.links (link_target p x)

  abbrev pub Together : ℕ → ℕ → Type 0
  Together x z = (link_target p x ≡ link_target p z) × (Real x × Real z)

  says-together : (x z : ℕ) → Says (together S F p x z) (Together x z)
  says-together x z = says-and (says_eq _ _) (says-and (real x) (real z))
    where
      real : (a : ℕ) → Says (is_at S F p a) (Real a)
      real a = says-and (says_range _ _) (says_range _ _)

  -- the steps in a row
  of_row : (k l : List ℕ) (rest : List (ℕ × ℕ)) (a b : ℕ) → (a, b) ∈ steps_in S F p k l rest → ((a ∈ k) × (b ∈ l) × Together a b) ⊎ ((a, b) ∈ rest)
  of_row [] l rest a b m = inr m
  of_row (x ∷ k) l rest a b m = go (of-pairs (together S F p x) x l (steps_in S F p k l rest) a b m) (λ i. of_row k l rest a b i)
    where
      wider : ((a ∈ k) × (b ∈ l) × Together a b) ⊎ ((a, b) ∈ rest) → ((a ∈ (x ∷ k)) × (b ∈ l) × Together a b) ⊎ ((a, b) ∈ rest)
      wider (inl t) = inl (Memᴰ.tail t.0, t.1, t.2)
      wider (inr i) = inr i

      go : ((a ≡ x) × (b ∈ l) × (together S F p x b ≡ true)) ⊎ ((a, b) ∈ steps_in S F p k l rest) → ((a, b) ∈ steps_in S F p k l rest → ((a ∈ k) × (b ∈ l) × Together a b) ⊎ ((a, b) ∈ rest))
          → ((a ∈ (x ∷ k)) × (b ∈ l) × Together a b) ⊎ ((a, b) ∈ rest)
      go (inl t) f = inl (Memᴰ.head t.0, t.1, subst (λ c. Together c b) (sym t.0) ((says-together x b).sound t.2))
      go (inr i) f = wider (f i)

  in_row : (k l : List ℕ) (rest : List (ℕ × ℕ)) (a b : ℕ) → a ∈ k → b ∈ l → Together a b → (a, b) ∈ steps_in S F p k l rest
  in_row [] l rest a b m i t = absurd (Memᴰ.not-nil m)
  in_row (x ∷ k) l rest a b m i t = go (Memᴰ.cases_cons m) (λ j. in_row k l rest a b j i t)
    where
      go : (a ≡ x) ⊎ (a ∈ k) → (a ∈ k → (a, b) ∈ steps_in S F p k l rest) → (a, b) ∈ steps_in S F p (x ∷ k) l rest
      go (inl e) f = subst (λ c. (c, b) ∈ steps_in S F p (x ∷ k) l rest) (sym e)
          (in_pairs (together S F p x) x l (steps_in S F p k l rest) b i ((says-together x b).complete (subst (λ c. Together c b) e t)))
      go (inr j) f = rest-in-pairs (together S F p x) x l (steps_in S F p k l rest) (a, b) (f j)

  rest-in-row : (k l : List ℕ) (rest : List (ℕ × ℕ)) (d : ℕ × ℕ) → d ∈ rest → d ∈ steps_in S F p k l rest
  rest-in-row [] l rest d m = m
  rest-in-row (x ∷ k) l rest d m = rest-in-pairs (together S F p x) x l (steps_in S F p k l rest) d (rest-in-row k l rest d m)

  -- the steps of rows
  abbrev Stepped : List NetCell → ℕ → ℕ → Type 0
  Stepped rows a b = (row : NetCell) × (row ∈ rows) × ((a ∈ row.1) × (b ∈ row.1) × Together a b)

  of-rows : (rows : List NetCell) (a b : ℕ) → (a, b) ∈ steps_of S F p rows → Stepped rows a b
  of-rows [] a b m = absurd (Memᴰ.not-nil m)
  of-rows (c ∷ l) a b m = go (of_row c.1 c.1 (steps_of S F p l) a b m) (λ i. of-rows l a b i)
    where
      go : ((a ∈ c.1) × (b ∈ c.1) × Together a b) ⊎ ((a, b) ∈ steps_of S F p l) → ((a, b) ∈ steps_of S F p l → Stepped l a b) → Stepped (c ∷ l) a b
      go (inl t) f = (c, Memᴰ.head refl, t)
      go (inr i) f = let t = f i in (t.0, Memᴰ.tail t.1, t.2)

  in_rows : (rows : List NetCell) (row : NetCell) (a b : ℕ) → row ∈ rows → a ∈ row.1 → b ∈ row.1 → Together a b → (a, b) ∈ steps_of S F p rows
  in_rows [] row a b m i j t = absurd (Memᴰ.not-nil m)
  in_rows (c ∷ l) row a b m i j t = go (Memᴰ.cases_cons m) (λ k. in_rows l row a b k i j t)
    where
      go : (row ≡ c) ⊎ (row ∈ l) → (row ∈ l → (a, b) ∈ steps_of S F p l) → (a, b) ∈ steps_of S F p (c ∷ l)
      go (inl e) f = in_row c.1 c.1 (steps_of S F p l) a b (subst (λ (d : NetCell). a ∈ d.1) e i) (subst (λ (d : NetCell). b ∈ d.1) e j) t
      go (inr k) f = rest-in-row c.1 c.1 (steps_of S F p l) (a, b) (f k)

  -- x and z go to one sheet link and are linked by steps
  abbrev Chain : ℕ → ℕ → Type 0
  Chain x z = (link_target p x ≡ link_target p z) × Linked S F p (link_target p x) x z

  abbrev steps : List (ℕ × ℕ)
  steps = steps_of S F p F.contexts

  at_own : (x y : ℕ) → Real x → link_target p x ≡ y → At S F p x y
  at_own x y r e = record { figure-link = r.0; sheet-link = subst (Range S.links) e r.1; there = e }

  linked-then : (y : ℕ) {a b c : ℕ} → Linked S F p y a b → Linked S F p y b c → Linked S F p y a c
  linked-then y here k = k
  linked-then y (step s l) k = step s (linked-then y l k)

  linked-back : (y : ℕ) {a b : ℕ} → Linked S F p y a b → Linked S F p y b a
  linked-back y here = here
  linked-back y (step s l) = linked-then y (linked-back y l)
      (step (record { row = s.row; of-figure = s.of-figure; first = s.second; second = s.first; first-at = s.second_at; second_at = s.first-at }) here)

  chain-step : (a b : ℕ) → (a, b) ∈ steps → Chain a b
  chain-step a b m =
      let t = of-rows F.contexts a b m in
      let g : Together a b = t.2.2 in
      (g.0, step (record { row = t.0; of-figure = t.1; first = t.2.0; second = t.2.1; first-at = at_own a _ g.1.0 refl; second_at = at_own b _ g.1.1 (sym g.0) }) here)

  steps-between : Pairs F.links steps
  steps-between a b m = let t = of-rows F.contexts a b m in (t.2.2.1.0.0, t.2.2.1.1.0)

  linked-label : (y : ℕ) {x z : ℕ} → Linked S F p y x z → label F.links steps x ≡ label F.links steps z
  linked-label y here = refl
  linked-label y (step {x} {x'} s l) =
      pair-label F.links steps x x' steps-between (in_rows F.contexts s.row x x' s.of-figure s.first s.second
      (s.first-at.there ∙ sym s.second_at.there, (real s.first-at, real s.second_at))) ∙ linked-label y l
    where
      real : {a : ℕ} → At S F p a y → Real a
      real t = (t.figure-link, subst (Range S.links) (sym t.there) t.sheet-link)

  label-chain : (x z : ℕ) → Range F.links x → Range F.links z → label F.links steps x ≡ label F.links steps z → Chain x z
  label-chain x z r q e = label-linked F.links Chain (λ a. (refl, here)) (λ a b t. (sym t.0, linked-back (link_target p b) (subst (λ y. Linked S F p y a b) t.0 t.1)))
      (λ a b c t u. (t.0 ∙ u.0, linked-then (link_target p a) t.1 (subst (λ y. Linked S F p y b c) (sym t.0) u.1))) steps x z steps-between chain-step r q e

  pub says-linked : Says (linked_test S F p) ((x x' y : ℕ) → At S F p x y → At S F p x' y → Linked S F p y x x')
  says-linked = says-by tests onward backward
    where
      Same : ℕ → ℕ → Type 0
      Same x z = Together x z → label F.links steps x ≡ label F.links steps z

      tests : Says (linked_test S F p) ((x : ℕ) → Range F.links x → (z : ℕ) → Range F.links z → Same x z)
      tests = says-all-to (λ x. all_of (same_label S F p (labels_by F.links steps) x) (numbers_to F.links)) (λ x. (z : ℕ) → Range F.links z → Same x z)
          (λ x. says-all-to (same_label S F p (labels_by F.links steps) x) (Same x) (λ z. says-implies (says-together x z) (says_eq _ _)) F.links) F.links

      onward : ((x : ℕ) → Range F.links x → (z : ℕ) → Range F.links z → Same x z) → (x x' y : ℕ) → At S F p x y → At S F p x' y → Linked S F p y x x'
      onward f x z y a b =
          let g : Together x z = (a.there ∙ sym b.there, ((a.figure-link, subst (Range S.links) (sym a.there) a.sheet-link), (b.figure-link, subst (Range S.links) (sym b.there) b.sheet-link))) in
          subst (λ c. Linked S F p c x z) a.there (label-chain x z a.figure-link b.figure-link (f x a.figure-link z b.figure-link g)).1

      backward : ((x x' y : ℕ) → At S F p x y → At S F p x' y → Linked S F p y x x') → (x : ℕ) → Range F.links x → (z : ℕ) → Range F.links z → Same x z
      backward f x r z q g = linked-label (link_target p x) (f x z (link_target p x) (at_own x _ g.1.0 refl) (at_own z _ g.1.1 (sym g.0)))
