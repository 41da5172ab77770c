use borrow.Author.Rules.{rules}
use mathlib.Core.Path.{◌∙◌, sym}
use native.Mathlib.Omega.{arith}
use borrow.Author.Tests.{not-true, not-false}
use Rattle.rows.proofs.Rows.{context-ranged}
use Rattle.rows.proofs.entry.row_ports.Statement.{statement}
use Rattle.rows.proofs.entry.row_ports.Tie as tie

is-context-requires : tie.Need-is_context-requires
is-context-requires c κs = search rules

returns : tie.Need-returns-then-not-is_context
returns c = rw (sym c.before.is_context.ensures ∙ not-true _ c.if-not-is_context.true-raw)

array-read-ports-with : tie.Need-bounds-nums-0
array-read-ports-with c = search rules

cast-ports-with : tie.Need-overflow_cast-nums
cast-ports-with c = search rules

array-read-ports-with-2 : tie.Need-bounds-nums-1
array-read-ports-with-2 c = search rules

add-ports-with : tie.Need-overflow_add-nums
add-ports-with c = omega (arith, (context-ranged c.before.before.before.args.row c.before.before.before.requires (sym c.before.before.is_context.ensures ∙ not-false _ c.before.if-not-is_context.false-raw)).1)

ports-with-requires : tie.Need-ports_with-requires
ports-with-requires c κs = (context-ranged c.before.before.before.args.row c.before.before.before.requires (sym c.before.before.is_context.ensures ∙ not-false _ c.before.if-not-is_context.false-raw)).0

returns-2 : tie.Need-returns
returns-2 c = rw (sym c.before.before.before.is_context.ensures ∙ not-false _ c.before.before.if-not-is_context.false-raw) c.ports_with.ensures

pub row_ports_spec : {M : Type 1} → statement M
row_ports_spec =
    tie.close
    (tie.spec
    is-context-requires
    returns
    array-read-ports-with
    cast-ports-with
    array-read-ports-with-2
    add-ports-with
    ports-with-requires
    returns-2)
