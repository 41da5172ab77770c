-- Invariant: of the first t atoms those of this colour are in the set.
use Rattle.std.proofs.Common.{◌≡◌, ℕ, ◌<◌, get_or}
use Rattle.candidates.specs.Words.{In}
use Rattle.colours.proofs.sets.atoms_of.Given as goal

abbrev pub invariant-loop-t : goal.invariant-loop-t
invariant-loop-t l = (u : ℕ) → u < l.t → l.colour ≡ get_or l.colours u 0 → In l.row u
