use borrow.Author.Rules.{rules}
use borrow.Author.Tests.{eq-eqb, ne_eqb}
use Rattle.rows.proofs.entry.ports_with.Statement.{statement}
use Rattle.rows.proofs.entry.ports_with.Tie as tie

mul-if1 : tie.Need-offset_bounds-table-number
mul-if1 c = search rules

array-read-if1 : tie.Need-bounds-table-number
array-read-if1 c = search rules

mul-table : tie.Need-offset_bounds-table-number-then-table-number-eq0
mul-table c = search rules

array-write-table : tie.Need-bounds-table-number-then-table-number-eq0
array-write-table c = search rules

returns : tie.Need-returns-then-table-number-eq0
returns c = rw (eq-eqb _ _ c.if-table-number-eq0.true)

returns-2 : tie.Need-returns-else-table-number-eq0
returns-2 c = rw (ne_eqb _ _ c.if-table-number-eq0.false)

pub ports_with_spec : {M : Type 1} → statement M
ports_with_spec =
    tie.close (tie.spec mul-if1 array-read-if1 mul-table array-write-table returns returns-2)
