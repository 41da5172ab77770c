-- Invariant: what is not in the set stays, and all that links with the label of x have.
use mathlib.Core.Path.{◌≡◌}
use lib.ListN.{get_or}
use Rattle.candidates.specs.Words.{InPair}
use Rattle.candidates.specs.Tables.{LinksStay}
use Rattle.narrowing.proofs.kin.strip_others.Given as goal

abbrev pub invariant-loop-z : goal.invariant-loop-z
invariant-loop-z l = LinksStay l.initial.links l.links (λ v y. InPair l.set y → get_or l.kin v 0 ≡ get_or l.kin l.x 0)
