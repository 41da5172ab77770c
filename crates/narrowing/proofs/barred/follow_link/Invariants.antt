-- Invariant: atoms that fit stay.
use Prim.Native.Nat.{ℕ, ◌<◌}
use mathlib.Core.List.{List}
use Rattle.candidates.specs.Laid.{laid_atom, Rowed}
use Rattle.candidates.specs.Tables.{AtomsStay}
use Rattle.narrowing.specs.Users.{UsersIn}
use Rattle.narrowing.specs.Steps.{Fitting}
use Rattle.narrowing.proofs.barred.follow_link.Given as goal

abbrev pub invariant-loop-k : goal.invariant-loop-k
invariant-loop-k l = (sheet : List ℕ) (n : ℕ) (figure : List ℕ) (m : ℕ) → Rowed sheet n → UsersIn sheet n l.users → UsersIn figure m l.owners → AtomsStay l.initial.atoms l.atoms (λ i t. (i < m) × (t < n) × Fitting (laid_atom figure i) (laid_atom sheet t) l.links)
