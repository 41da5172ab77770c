-- Invariant: what is alike, of those looked at, is in the set.
use Prim.Native.Nat.{ℕ, ◌<◌}
use Rattle.candidates.specs.Laid.{laid_atom}
use Rattle.candidates.specs.Words.{In}
use Rattle.starting.specs.Steps.{Alike}
use Rattle.starting.proofs.alike.alike_to.Given as goal

abbrev pub invariant-loop-t : goal.invariant-loop-t
invariant-loop-t l = (u : ℕ) → u < l.t → Alike l.here (laid_atom l.sheet u) → In l.row u
