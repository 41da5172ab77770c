-- The least list within bounds that passes a test: what first_list gives, that it is the only answer, and a search that leaves
-- out what begins with a list that cannot be completed.
use Prim.Native.Nat.{ℕ, zero, suc, ◌+◌, ◌≤◌, ◌<◌}
use mathlib.Core.Path.{◌≡◌, refl, sym, ◌∙◌, ap, ap₂, subst}
use mathlib.Core.Logic.{◌⊎◌, inl, inr, ◌↔◌}
use mathlib.Core.List.{List, [], ◌∷◌, ◌++◌, cons≢nil}
use mathlib.Core.Bool.{Bool, true, false}
use mathlib.Core.Option.{Option, none, some}
use native.Mathlib.Decide.{dec_lt}
use native.Mathlib.Omega.{arith}
use lib.ListN.{length}
use Rattle.rows.specs.Pick.{pick}
use Rattle.placing.specs.First.{Within, nothing, also, Before, here, later, after, headed, or_else, first_from, first_list, Least, Answer}
use Rattle.placing.specs.Narrowed.{first_may}

pub both_ways : {A : Type 0} {b : Bool} → b ≡ true → b ≡ false → A
both_ways p q = absurd (let z : true ≡ false = cc in let w : ◌≡◌ {A = ℕ} 0 1 = cc in omega arith)

-- The order is total on lists of one length.
pub before-or : (l m : List ℕ) → length l ≡ length m → Before l m ⊎ (Before m l ⊎ (l ≡ m))
before-or [] [] e = inr (inr refl)
before-or [] (y ∷ m) e = absurd (omega arith)
before-or (x ∷ l) [] e = absurd (omega arith)
before-or (x ∷ l) (y ∷ m) e = go (dec_lt x y) (dec_lt y x) (before-or l m (omega arith))
  where
    rest : x ≡ y → Before l m ⊎ (Before m l ⊎ (l ≡ m)) → Before (x ∷ l) (y ∷ m) ⊎ (Before (y ∷ m) (x ∷ l) ⊎ (◌≡◌ {A = List ℕ} (x ∷ l) (y ∷ m)))
    rest q (inl c) = inl (later q c)
    rest q (inr (inl c)) = inr (inl (later (sym q) c))
    rest q (inr (inr f)) = inr (inr (ap₂ ◌∷◌ q f))

    go : Dec (x < y) → Dec (y < x) → Before l m ⊎ (Before m l ⊎ (l ≡ m)) → Before (x ∷ l) (y ∷ m) ⊎ (Before (y ∷ m) (x ∷ l) ⊎ (◌≡◌ {A = List ℕ} (x ∷ l) (y ∷ m)))
    go (yes c) d r = inl (here c)
    go (no c) (yes d) r = inr (inl (here d))
    go (no c) (no d) r = rest (omega arith) r

pub within-length : {bs l : List ℕ} → Within bs l → length bs ≡ length l
within-length nothing = refl
within-length (also h w) = ap suc (within-length w)

before-nil : {A : Type 0} {m k : List ℕ} → Before m k → k ≡ [] → A
before-nil (here h) e = absurd (cons≢nil e)
before-nil (later h c) e = absurd (cons≢nil e)

-- There is one answer.
pub answer-only : (test : List ℕ → Bool) (bs : List ℕ) (o o' : Option (List ℕ)) → Answer test bs o → Answer test bs o' → o ≡ o'
answer-only test bs none none a c = refl
answer-only test bs none (some l) a c = both_ways c.passes (a l c.within)
answer-only test bs (some l) none a c = both_ways a.passes (c l a.within)
answer-only test bs (some l) (some m) a c = go (before-or l m (sym (within-length a.within) ∙ within-length c.within))
  where
    go : Before l m ⊎ (Before m l ⊎ (l ≡ m)) → some l ≡ some m
    go (inl h) = both_ways a.passes (c.none_before l a.within h)
    go (inr (inl h)) = both_ways c.passes (a.none_before m c.within h)
    go (inr (inr e)) = ap some e

-- What a loop over the numbers keeps: no list passes that begins with a number below v.
abbrev pub Tried : (List ℕ → Bool) → ℕ → List ℕ → Type 0
Tried test v bs = (x : ℕ) (m : List ℕ) → x < v → Within bs m → test (x ∷ m) ≡ false

module _ (test : List ℕ → Bool) (b : ℕ) (bs : List ℕ) where
  pub tried-none : Tried test 0 bs
  tried-none x m h w = absurd (omega arith)

  -- nothing that begins with v passes
  pub tried-more : (v : ℕ) → Tried test v bs → Answer (after v test) bs none → Tried test (suc v) bs
  tried-more v t a x m h w = go (dec_lt x v)
    where
      go : Dec (x < v) → test (x ∷ m) ≡ false
      go (yes c) = t x m c w
      go (no c) = let e : x ≡ v = omega arith in rw e (a m w)

  -- something that begins with v passes, and so the answer begins with v
  pub tried-hit : (v : ℕ) (l : List ℕ) → v ≤ b → Tried test v bs → Least (after v test) bs l → Least test (b ∷ bs) (v ∷ l)
  tried-hit v l h t a = record { within = also h a.within; passes = a.passes; none_before = go }
    where
      go : (m : List ℕ) → Within (b ∷ bs) m → Before m (v ∷ l) → test m ≡ false
      go [] w d = elim w [ ]
      go (x ∷ m) (also c w) (here d) = t x m d w
      go (x ∷ m) (also c w) (later e d) = rw e (a.none_before m w d)

  pub tried-all : Tried test (suc b) bs → Answer test (b ∷ bs) none
  tried-all t [] w = elim w [ ]
  tried-all t (x ∷ m) (also c w) = t x m (omega arith) w

  pub first_from-answer : (rest : ℕ → Option (List ℕ)) (n v : ℕ) → v + n ≡ suc b → Tried test v bs → ((x : ℕ) → x ≤ b → Answer (after x test) bs (rest x))
      → Answer test (b ∷ bs) (first_from rest v n)
  unfolding first_from
  first_from-answer rest zero v e t a = tried-all (λ x m h w. t x m (omega arith) w)
  first_from-answer rest (suc n) v e t a = go (rest v) (a v (omega arith)) (λ u. first_from-answer rest n (suc v) (omega arith) u a)
    where
      go : (o : Option (List ℕ)) → Answer (after v test) bs o → (Tried test (suc v) bs → Answer test (b ∷ bs) (first_from rest (suc v) n))
          → Answer test (b ∷ bs) (or_else (headed v o) (first_from rest (suc v) n))
      go none c r = r (tried-more v t c)
      go (some l) c r = tried-hit v l (omega arith) t c

pub answer-nil : (test : List ℕ → Bool) → Answer test [] (pick (test []) (some []) none)
answer-nil test = go (test []) refl
  where
    go : (c : Bool) → test [] ≡ c → Answer test [] (pick c (some []) none)
    go true e = record { within = nothing; passes = e; none_before = λ m w h. before-nil h refl }
    go false e = λ m w. nil m w
      where
        nil : (m : List ℕ) → Within [] m → test m ≡ false
        nil [] nothing = e
        nil (x ∷ m) w = elim w [ ]

-- What first_list gives is the answer.
pub first-answer : (test : List ℕ → Bool) (bs : List ℕ) → Answer test bs (first_list test bs)
unfolding first_list
first-answer test [] = answer-nil test
first-answer test (b ∷ bs) = first_from-answer test b bs (λ v. first_list (after v test) bs) (suc b) 0 (omega arith) (tried-none test b bs) (λ v h. first-answer (after v test) bs)

-- What first_list gives passes, and nothing before it does.
pub first-least : (test : List ℕ → Bool) (bs l : List ℕ) → (first_list test bs ≡ some l) ↔ Least test bs l
first-least test bs l = (λ e. subst (Answer test bs) e (first-answer test bs), λ a. answer-only test bs _ (some l) (first-answer test bs) a)

-- It gives none exactly where nothing within the bounds passes.
pub first-none : (test : List ℕ → Bool) (bs : List ℕ) → (first_list test bs ≡ none) ↔ ((m : List ℕ) → Within bs m → test m ≡ false)
first-none test bs = (λ e. subst (Answer test bs) e (first-answer test bs), λ a. answer-only test bs _ none (first-answer test bs) a)

-- The search with `may`: what `may` turns down is the beginning of nothing that passes.
abbrev pub Sound : (may test : List ℕ → Bool) → List ℕ → Type 0
Sound may test bs = (k l : List ℕ) → Within bs (k ++ l) → test (k ++ l) ≡ true → may k ≡ true

module _ (test : List ℕ → Bool) (bs : List ℕ) where
  unless : (c : Bool) (o : Option (List ℕ)) → ((m : List ℕ) → Within bs m → test m ≡ true → c ≡ true) → Answer test bs o → Answer test bs (pick c o none)
  unless true o h a = a
  unless false o h a = λ m w. go m w (test m) refl
    where
      go : (m : List ℕ) → Within bs m → (c : Bool) → test m ≡ c → test m ≡ false
      go m w true e = both_ways (h m w e) refl
      go m w false e = e

pub may-answer : (may test : List ℕ → Bool) (bs : List ℕ) → Sound may test bs → Answer test bs (first_may may test bs)
unfolding first_may
may-answer may test [] s = unless test [] (may []) _ (λ m w e. s [] m w e) (answer-nil test)
may-answer may test (b ∷ bs) s =
    unless test (b ∷ bs) (may []) _ (λ m w e. s [] m w e)
    (first_from-answer test b bs (λ v. first_may (after v may) (after v test) bs) (suc b) 0 (omega arith) (tried-none test b bs)
    (λ v h. may-answer (after v may) (after v test) bs (λ k l w e. s (v ∷ k) l (also h w) e)))

-- It finds the same.
pub may-same : (may test : List ℕ → Bool) (bs : List ℕ) → Sound may test bs → first_may may test bs ≡ first_list test bs
may-same may test bs s = answer-only test bs _ _ (may-answer may test bs s) (first-answer test bs)
