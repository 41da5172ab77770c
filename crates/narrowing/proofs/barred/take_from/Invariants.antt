-- Invariant: the rest is of the set, and what is not to go stays.
use Prim.Native.Nat.{ℕ}
use Rattle.candidates.specs.Words.{In}
use Rattle.candidates.specs.Tables.{AtomsStay}
use Rattle.narrowing.proofs.barred.take_from.Given as goal

abbrev pub invariant-loop-rest : goal.invariant-loop-rest
invariant-loop-rest l = ((i : ℕ) → In l.rest i → In l.some i) × AtomsStay l.initial.atoms l.atoms (λ i t. In l.some i → ¬ In l.out t)

abbrev pub decreases-loop-rest : goal.decreases-loop-rest
decreases-loop-rest l = l.rest
