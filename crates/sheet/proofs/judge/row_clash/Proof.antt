use borrow.Author.Rules.{rules}
use mathlib.Core.Path.{◌∙◌}
use native.Mathlib.Omega.{arith}
use Rattle.sheet.proofs.read.Clashes.{clash-head, clash-blank, clash-none}
use Rattle.sheet.proofs.judge.row_clash.Statement.{statement}
use Rattle.sheet.proofs.judge.row_clash.Tie as tie

array-read-result : tie.Need-bounds-nums-0
array-read-result c = search rules

returns : tie.Need-returns-then-letter-eq-HEAD
returns c = let a = c.args in
    λ l q p. clash-head a.kind a.pattern a.row l a.last q c.if-letter-eq-HEAD.true

array-read-number : tie.Need-bounds-nums-0-then-letter-eq-CONTEXT
array-read-number c = search rules

cast-number : tie.Need-overflow_cast-number
cast-number c = search rules

mul-ports-clash : tie.Need-offset_bounds-ports-number
mul-ports-clash c = omega (arith, (c.requires.context c.if-letter-eq-CONTEXT.true).0)

array-read-ports-clash : tie.Need-bounds-ports-number
array-read-ports-clash c = (c.requires.context c.if-letter-eq-CONTEXT.true).0

mul-ports-clash-2 : tie.Need-offset_bounds-pattern-number
mul-ports-clash-2 c = omega (arith, (c.requires.context c.if-letter-eq-CONTEXT.true).0)

array-read-ports-clash-2 : tie.Need-bounds-pattern-number
array-read-ports-clash-2 c = (c.requires.context c.if-letter-eq-CONTEXT.true).0

array-read-ports-clash-3 : tie.Need-bounds-nums-1
array-read-ports-clash-3 c = search rules

add-ports-clash : tie.Need-overflow_add-nums
add-ports-clash c = omega (arith, (c.requires.context c.if-letter-eq-CONTEXT.true).1)

ports-clash-requires : tie.Need-ports_clash-requires
ports-clash-requires c κs = search rules

returns-2 : tie.Need-returns-then-letter-eq-CONTEXT
returns-2 c = let s = c in
    let a = s.args in
    λ l q p. c.ports_clash.ensures ∙ clash-blank a.kind a.pattern a.row l a.ports p c.if-letter-eq-HEAD.false c.if-letter-eq-CONTEXT.true (s.requires.context c.if-letter-eq-CONTEXT.true).0

returns-3 : tie.Need-returns
returns-3 c = let a = c.args in
    λ l q p. clash-none a.kind a.pattern a.row l c.if-letter-eq-HEAD.false c.if-letter-eq-CONTEXT.false

pub row_clash_spec : {M : Type 1} → statement M
row_clash_spec =
    tie.close
    (tie.spec
    array-read-result
    returns
    array-read-number
    cast-number
    mul-ports-clash
    array-read-ports-clash
    mul-ports-clash-2
    array-read-ports-clash-2
    array-read-ports-clash-3
    add-ports-clash
    ports-clash-requires
    returns-2
    returns-3)
