-- Invariant: what the table has at every place stays.
use Rattle.candidates.specs.Tables.{LinksStay}
use Rattle.narrowing.specs.Steps.{TableRow}
use Rattle.narrowing.proofs.spread.keep_given.Given as goal

abbrev pub invariant-loop-k : goal.invariant-loop-k
invariant-loop-k l = LinksStay l.initial.links l.links (TableRow l.table l.here)
