-- The least list of numbers within bounds that passes a test, in lexicographic order.
use Rattle.std.specs.Prelude.{ℕ, zero, suc, ◌≤◌, ◌<◌, ◌≡◌, List, [], ◌∷◌, Bool, true, false}
use Rattle.std.proofs.Math.Option.{Option, none, some}
use Rattle.rows.specs.Pick.{pick}

-- as many numbers as bounds, each from 0 to its bound
pub data Within : List ℕ → List ℕ → Type 0 where
  nothing : Within [] []
  also : {b x : ℕ} {bs l : List ℕ} → x ≤ b → Within bs l → Within (b ∷ bs) (x ∷ l)

-- lexicographic order
pub data Before : List ℕ → List ℕ → Type 0 where
  here : {x y : ℕ} {l m : List ℕ} → x < y → Before (x ∷ l) (y ∷ m)
  later : {x y : ℕ} {l m : List ℕ} → x ≡ y → Before l m → Before (x ∷ l) (y ∷ m)

-- the test for the rest of a list that begins with v
abbrev pub after : {A : Type 0} → ℕ → (List ℕ → A) → List ℕ → A
after v test l = test (v ∷ l)

-- v put in front of what was found
abbrev pub headed : ℕ → Option (List ℕ) → Option (List ℕ)
headed v none = none
headed v (some l) = some (v ∷ l)

abbrev pub or_else : {A : Type 0} → Option A → Option A → Option A
or_else none o = o
or_else (some a) o = some a

-- Of the numbers v, v + 1, .., n of them, the first for which `rest` finds a list, and that list.
unfoldable pub first_from : (ℕ → Option (List ℕ)) → ℕ → ℕ → Option (List ℕ)
first_from rest v zero = none
first_from rest v (suc n) = or_else (headed v (rest v)) (first_from rest (suc v) n)

-- The least list within the bounds that passes the test; none where no such list passes.
unfoldable pub first_list : (List ℕ → Bool) → List ℕ → Option (List ℕ)
first_list test [] = pick (test []) (some []) none
first_list test (b ∷ bs) = first_from (λ v. first_list (after v test) bs) 0 (suc b)

-- What is within the bounds and passes, where nothing before it within them does.
pub record Least (test : List ℕ → Bool) (bs l : List ℕ) : Type 0 where
  pub within : Within bs l
  pub passes : test l ≡ true
  pub none_before : (m : List ℕ) → Within bs m → Before m l → test m ≡ false

-- The answer of a search: the least that passes, or none where nothing within the bounds passes.
abbrev pub Answer : (List ℕ → Bool) → List ℕ → Option (List ℕ) → Type 0
Answer test bs none = (m : List ℕ) → Within bs m → test m ≡ false
Answer test bs (some l) = Least test bs l
