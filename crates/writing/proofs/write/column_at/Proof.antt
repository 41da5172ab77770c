-- `write::column_at` meets its contract: a space below the place, else the digit. Assumes nothing.
use borrow.Author.Tests.{lt-ltb, le-ltb}
use borrow.Author.Rules.{rules}
use Rattle.writing.proofs.write.column_at.Statement.{statement}
use Rattle.writing.proofs.write.column_at.Tie as tie

returns : tie.Need-returns-then-n-place
returns c = rw (lt-ltb _ _ c.if-n-place.true)

div-result : tie.Need-nonzero_div-result
div-result c = search rules

cast-result : tie.Need-overflow_cast-result
cast-result c = search rules

add-result : tie.Need-overflow_add-result
add-result c = search rules

returns-2 : tie.Need-returns
returns-2 c = rw (le-ltb _ _ c.if-n-place.false)

pub column_at_spec : {M : Type 1} → statement M
column_at_spec = tie.close (tie.spec returns div-result cast-result add-result returns-2)
