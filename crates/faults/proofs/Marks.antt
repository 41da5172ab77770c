-- How many entries are not 0.
use Prim.Native.Nat.{ℕ, zero, suc, ◌≤◌, ◌<◌}
use mathlib.Core.Path.{◌≡◌, ◌∙◌, ap}
use mathlib.Core.Logic.{◌⊎◌, inl, inr, ◌≢◌}
use mathlib.Core.List.{List, [], ◌∷◌}
use mathlib.Core.Bool.{Bool, true, false}
use native.Mathlib.Decide.{ℕ_discrete}
use native.Mathlib.Omega.{arith}
use lib.ListN.{length, get_or, set, length-set}
use lib.Seq.{get_or-set_other}
use lib.Dec.{eqb}
use borrow.Author.Tests.{ne_eqb}
use Rattle.rows.specs.Pick.{pick}
use Rattle.faults.specs.Grows.{marks}

pub marks-set : (l : List ℕ) (i v : ℕ) → i < length l → get_or l i 0 ≡ 0 → v ≢ 0 → marks (set l i v) ≡ suc (marks l)
unfolding marks
marks-set [] i v h e n = absurd (omega arith)
marks-set (x ∷ l) zero v h e n = rw (e, ne_eqb v 0 n)
marks-set (x ∷ l) (suc i) v h e n = go (eqb x 0) (marks-set l i v (omega arith) e n)
  where
    go : (b : Bool) → marks (set l i v) ≡ suc (marks l) → pick b (marks (set l i v)) (suc (marks (set l i v))) ≡ suc (pick b (marks l) (suc (marks l)))
    go true e = e
    go false e = ap suc e

marks-most : (l : List ℕ) → marks l ≤ length l
unfolding marks
marks-most [] = omega arith
marks-most (x ∷ l) = go (eqb x 0) (marks-most l)
  where
    go : (b : Bool) → marks l ≤ length l → pick b (marks l) (suc (marks l)) ≤ suc (length l)
    go true h = omega arith
    go false h = omega arith

pub marks-room : (l : List ℕ) (i : ℕ) → i < length l → get_or l i 0 ≡ 0 → marks l < length l
marks-room l i h e = let s = marks-set l i 1 h e (λ z. omega arith) in let k = marks-most (set l i 1) in let m : length (set l i 1) ≡ length l = simp length-set in omega arith

-- after a mark is stored
pub store-mark : (l : List ℕ) (i v p : ℕ) → get_or (set l i v) p 0 ≢ 0 → (get_or l p 0 ≢ 0) ⊎ (p ≡ i)
store-mark l i v p n = go (ℕ_discrete p i)
  where
    go : Dec (p ≡ i) → (get_or l p 0 ≢ 0) ⊎ (p ≡ i)
    go (yes e) = inr e
    go (no f) = inl (λ e. n (get_or-set_other l i p v 0 f ∙ e))
