-- Link names and lists of them.
use Rattle.std.specs.Prelude.{◌≡◌, ◌⊎◌, ℕ}
use Rattle.std.proofs.Common.{inl, inr}
use mathlib.Core.List.Memᴰ
use mathlib.Core.List.{List, [], ◌∷◌, Memᴰ}
use Rattle.std.proofs.Math.Decide.{ℕ_discrete}

-- A link name, of a denumerable set (004, definition 2.2.1): a joint or a mark of a sheet; ν may bind either.
pub data Link : Type 0 where
  local : ℕ → Link
  free : ℕ → Link
  deriving Discrete as link-discrete

-- Equality of link names, decided (X = Y in 004, figure 2.3).
infix 40 ◌≟◌
unfoldable pub ◌≟◌ : (X Y : Link) → Dec (X ≡ Y)
X ≟ Y = link-discrete ℕ_discrete X Y

-- One of two values, by a decision: the cases of 004, figures 2.3 and 3.11.
abbrev pub select {ℓ} : {A : Type 0} {B : Type ℓ} → Dec A → B → B → B
select (yes p) a b = a
select (no p) a b = b

-- Membership of a list (X ∈ {X⃗} in 004, figures 2.3 and 2.4).
infix 40 ◌∈◌
abbrev pub ◌∈◌ : {A : Type 0} → A → List A → Type 0
a ∈ l = Memᴰ a l

-- Membership of a list of links, decided (the cases of ν in 004, figure 2.3).
unfoldable pub member : (X : Link) (l : List Link) → Dec (X ∈ l)
member X [] = no Memᴰ.not-nil
member X (Y ∷ l) = first (X ≟ Y) (member X l)
  where
    neither : ¬ (X ≡ Y) → ¬ (X ∈ l) → (X ≡ Y) ⊎ (X ∈ l) → ⊥
    neither n k (inl e) = n e
    neither n k (inr m) = k m

    first : Dec (X ≡ Y) → Dec (X ∈ l) → Dec (X ∈ (Y ∷ l))
    first (yes e) d = yes (Memᴰ.head e)
    first (no n) (yes m) = yes (Memᴰ.tail m)
    first (no n) (no k) = no (λ h. neither n k (Memᴰ.cases_cons h))
