use borrow.Author.Tests.{eq-eqb, ne_eqb}
use Rattle.linking.proofs.take.gone_by.Statement.{statement}
use Rattle.linking.proofs.take.gone_by.Tie as tie

returns : tie.Need-returns-then-letter-eq-HEAD
returns c = rw (eq-eqb _ _ c.if-letter-eq-HEAD.true)

returns-2 : tie.Need-returns
returns-2 c = rw (ne_eqb _ _ c.if-letter-eq-HEAD.false)

pub gone_by_spec : {M : Type 1} → statement M
gone_by_spec = tie.close (tie.spec returns returns-2)
