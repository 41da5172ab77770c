-- Invariant: what the row gives at every place stays.
use Rattle.candidates.specs.Laid.{laid_atom}
use Rattle.candidates.specs.Tables.{LinksStay}
use Rattle.narrowing.specs.Steps.{GivenRow}
use Rattle.narrowing.proofs.given.follow_atom.Given as goal

abbrev pub invariant-loop-k : goal.invariant-loop-k
invariant-loop-k l = LinksStay l.initial.links l.links (GivenRow (laid_atom l.laid) l.n l.here l.row)
