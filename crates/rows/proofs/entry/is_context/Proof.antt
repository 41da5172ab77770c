use borrow.Author.Tests.{eq-eqb, ne_eqb}
use Rattle.rows.proofs.entry.is_context.Statement.{statement}
use Rattle.rows.proofs.entry.is_context.Tie as tie

returns : tie.Need-returns-then-letter-eq-CONTEXT
returns c = rw (eq-eqb _ _ c.if-letter-eq-CONTEXT.true)

returns-2 : tie.Need-returns
returns-2 c = rw (ne_eqb _ _ c.if-letter-eq-CONTEXT.false)

pub is_context_spec : {M : Type 1} → statement M
is_context_spec = tie.close (tie.spec returns returns-2)
