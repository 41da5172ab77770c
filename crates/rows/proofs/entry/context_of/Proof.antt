use borrow.Author.Rules.{rules}
use mathlib.Core.Path.{◌∙◌, sym}
use borrow.Author.Tests.{not-true, not-false}
use Rattle.rows.proofs.entry.context_of.Statement.{statement}
use Rattle.rows.proofs.entry.context_of.Tie as tie

is-context-requires : tie.Need-is_context-requires
is-context-requires c κs = search rules

none-requires : tie.Need-none-requires
none-requires c κs = search rules

returns : tie.Need-returns-then-not-is_context
returns c = let e = sym c.before.before.is_context.ensures ∙ not-true _ c.before.if-not-is_context.true-raw in rw e c.none.ensures

row-links-requires : tie.Need-row_links-links-requires
row-links-requires c κs = search rules

array-read-t10 : tie.Need-bounds-nums-0
array-read-t10 c = search rules

array-read-t13 : tie.Need-bounds-nums-1
array-read-t13 c = search rules

returns-2 : tie.Need-returns
returns-2 c = let e = sym c.before.before.before.is_context.ensures ∙ not-false _ c.before.before.if-not-is_context.false-raw in rw e (rw c.row_links-links.ensures)

pub context_of_spec : {M : Type 1} → statement M
context_of_spec =
    tie.close
    (tie.spec
    is-context-requires
    none-requires
    returns
    row-links-requires
    array-read-t10
    array-read-t13
    returns-2)
