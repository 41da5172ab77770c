use borrow.Author.Rules.{rules}
use borrow.Author.Tests.{eq-eqb, ne_eqb}
use Rattle.rows.proofs.entry.atom_of.Statement.{statement}
use Rattle.rows.proofs.entry.atom_of.Tie as tie

none-requires : tie.Need-none-requires
none-requires c κs = search rules

returns : tie.Need-returns-then-row-ne-ATOM
returns c = rw (ne_eqb _ _ c.before.if-row-ne-ATOM.true) c.none.ensures

row-links-requires : tie.Need-row_links-links-requires
row-links-requires c κs = search rules

array-read-t8 : tie.Need-bounds-nums-0
array-read-t8 c = search rules

array-read-t11 : tie.Need-bounds-nums-1
array-read-t11 c = search rules

returns-2 : tie.Need-returns
returns-2 c = rw (eq-eqb _ _ c.before.before.if-row-ne-ATOM.false) (rw c.row_links-links.ensures)

pub atom_of_spec : {M : Type 1} → statement M
atom_of_spec =
    tie.close
    (tie.spec none-requires returns row-links-requires array-read-t8 array-read-t11 returns-2)
