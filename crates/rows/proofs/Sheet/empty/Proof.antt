use borrow.Author.Rules.{rules}
use Rattle.rows.proofs.Sheet.empty.Statement.{statement}
use Rattle.rows.proofs.Sheet.empty.Tie as tie

none-requires : tie.Need-none-atom-requires
none-requires c κs = search rules

none-requires-2 : tie.Need-none-context-requires
none-requires-2 c κs = search rules

returns : tie.Need-returns
returns c = rw c.before.none-atom.ensures (rw c.none-context.ensures)

pub empty_spec : {M : Type 1} → statement M
empty_spec = tie.close (tie.spec none-requires none-requires-2 returns)
