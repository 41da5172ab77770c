use lib.Dec.{eqb}
use borrow.Author.Tests.{eq-eqb, ne_eqb}
use Rattle.rows.proofs.Bools.{not-not}
use Rattle.sheet.proofs.kind.ports_differ.Statement.{statement}
use Rattle.sheet.proofs.kind.ports_differ.Tie as tie

returns : tie.Need-returns-then-before-eq0
returns c = rw (eq-eqb _ _ c.if-before-eq0.true)

returns-2 : tie.Need-returns
returns-2 c = rw (ne_eqb _ _ c.if-before-eq0.false) (not-not (eqb c.args.before c.args.ports))

pub ports_differ_spec : {M : Type 1} → statement M
ports_differ_spec = tie.close (tie.spec returns returns-2)
