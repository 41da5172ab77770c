use borrow.Author.Rules.{rules}
use native.Mathlib.Omega.{arith}
use borrow.Author.Tests.{eq-eqb, ne_eqb}
use Rattle.linking.proofs.place.count_with.Statement.{statement}
use Rattle.linking.proofs.place.count_with.Tie as tie

add-result : tie.Need-overflow_add-result
add-result c = search rules

returns : tie.Need-returns-then-p-n
returns c = (omega arith, rw (eq-eqb _ _ c.if-p-n.true))

returns-2 : tie.Need-returns
returns-2 c = (omega arith, rw (ne_eqb _ _ c.if-p-n.false))

pub count_with_spec : {M : Type 1} → statement M
count_with_spec = tie.close (tie.spec add-result returns returns-2)
