-- Invariant: the halves of all links so far.
use Rattle.std.proofs.Common.{ℕ, ◌+◌, ◌-◌, ◌<◌, get_or}
use Rattle.candidates.specs.Laid.{laid_at}
use Rattle.candidates.specs.Words.{In}
use Rattle.ways.specs.Halves.{half_of}
use Rattle.ways.proofs.guarded.on_one_half.Given as goal

abbrev pub invariant-loop-k : goal.invariant-loop-k
invariant-loop-k l = (l.halves < 4) × ((h : ℕ) → In l.halves h → (j : ℕ) → j < l.k → In (half_of (get_or l.standing (laid_at l.parts l.row (2 + j) - 1) 0) l.side) h)
