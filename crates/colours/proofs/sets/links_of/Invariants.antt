-- Invariant: of the first y links those of this colour are in the set.
use Rattle.std.proofs.Common.{◌≡◌, ℕ, ◌<◌, get_or}
use Rattle.candidates.specs.Words.{InPair}
use Rattle.colours.proofs.sets.links_of.Given as goal

abbrev pub invariant-loop-y : goal.invariant-loop-y
invariant-loop-y l = (v : ℕ) → v < l.y → l.colour ≡ get_or l.colours v 0 → InPair l.pair v
