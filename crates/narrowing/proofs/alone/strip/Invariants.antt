-- Invariant: what is not in the row stays.
use mathlib.Core.Path.{◌≡◌}
use lib.ListN.{length}
use Rattle.candidates.specs.Words.{In}
use Rattle.candidates.specs.Tables.{AtomsStay}
use Rattle.narrowing.proofs.alone.strip.Given as goal

abbrev pub invariant-loop-j : goal.invariant-loop-j
invariant-loop-j l = (length l.atoms ≡ length l.initial.atoms) × AtomsStay l.initial.atoms l.atoms (λ i u. ¬ In l.row u)
