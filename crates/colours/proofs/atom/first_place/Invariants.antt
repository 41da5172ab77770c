-- Invariant: no place before h has the link of place k.
use Rattle.std.proofs.Common.{ℕ, ◌<◌, ◌≢◌}
use Rattle.candidates.specs.Laid.{link_of}
use Rattle.colours.proofs.atom.first_place.Given as goal

abbrev pub invariant-loop-h : goal.invariant-loop-h
invariant-loop-h l = (g : ℕ) → g < l.h → link_of l.atom g ≢ link_of l.atom l.k
