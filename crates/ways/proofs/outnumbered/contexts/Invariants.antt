-- Invariant: the contexts so far.
use Rattle.std.proofs.Common.{ℕ, ◌<◌, get_or}
use Rattle.candidates.specs.Words.{In}
use Rattle.ways.proofs.outnumbered.contexts.Given as goal

abbrev pub invariant-loop-x : goal.invariant-loop-x
invariant-loop-x l = (i : ℕ) → i < l.x → (t : ℕ) → In (get_or l.standing i 0) t → In l.all t
