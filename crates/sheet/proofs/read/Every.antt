-- Laws of what holds of every element of a list.
use Prim.Native.Nat.{ℕ, zero, suc, ◌<◌}
use mathlib.Core.List.{List, [], ◌∷◌, ◌++◌}
use native.Mathlib.Omega.{arith}
use lib.ListN.{length, get_or}
use Rattle.sheet.specs.HeldLimits.{Every}

pub every_append {ℓ} : {A : Type ℓ} (P : A → Type 0) (l m : List A) → Every P l → Every P m → Every P (l ++ m)
every_append P [] m p q = q
every_append P (x ∷ l) m p q = (p.0, every_append P l m p.1 q)

pub every_one {ℓ} : {A : Type ℓ} (P : A → Type 0) (l : List A) (x : A) → Every P l → P x → Every P (l ++ (x ∷ []))
every_one P l x p q = every_append P l (x ∷ []) p (q, tt)

-- By places: each place's element is as P says.
pub every-at {ℓ} : {A : Type ℓ} (P : A → Type 0) (d : A) (l : List A) → Every P l → (k : ℕ) → k < length l → P (get_or l k d)
every-at P d [] p k h = absurd (omega arith)
every-at P d (x ∷ l) p zero h = p.0
every-at P d (x ∷ l) p (suc k) h = every-at P d l p.1 k (omega arith)

pub every_of {ℓ} : {A : Type ℓ} (P : A → Type 0) (d : A) (l : List A) → ((k : ℕ) → k < length l → P (get_or l k d)) → Every P l
every_of P d [] p = tt
every_of P d (x ∷ l) p = (p 0 (omega arith), every_of P d l (λ k h. p (suc k) (omega arith)))
