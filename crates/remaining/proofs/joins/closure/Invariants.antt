-- `joins::closure` meets its contract. The loop's invariant: the word has all contexts of the first. Assumes nothing.
use Prim.Native.Nat.{ℕ, ◌≤◌}
use Rattle.candidates.specs.Words.{In}
use Rattle.stepping.specs.Standing.{context_digits}
use Rattle.remaining.proofs.joins.closure.Given as goal

abbrev pub invariant-loop-n : goal.invariant-loop-n
invariant-loop-n l = (l.n ≤ context_digits) × ((t : ℕ) → In l.word t → In l.closed t)
