use borrow.Author.Rules.{rules}
use mathlib.Core.Path.{sym, ◌∙◌}
use borrow.Author.Tests.{not-true, not-false}
use Rattle.sheet.proofs.read.Answered.{early-long, early-cut, early-strange, early-column, early-none}
use Rattle.sheet.proofs.judge.early_answer.Statement.{statement}
use Rattle.sheet.proofs.judge.early_answer.Tie as tie

limits-of-requires : tie.Need-limits_of-limits-requires
limits-of-requires c κs = search rules

add-t9 : tie.Need-overflow_add-result
add-t9 c = search rules

returns : tie.Need-returns-then-limits-k
returns c = let m = c in
    let a = m.args in
    early-long a.kind a.heads a.k a.cut a.row (rw m.limits_of-limits.ensures at c.if-limits-k.true)

add-t11 : tie.Need-overflow_add-result-then-cut
add-t11 c = search rules

returns-2 : tie.Need-returns-then-cut
returns-2 c = let m = c in
    let a = m.args in
    early-cut a.kind a.heads a.k a.cut a.row (rw m.limits_of-limits.ensures at c.if-limits-k.false) c.if-cut.true

is-strange-requires : tie.Need-is_strange-requires
is-strange-requires c κs = search rules

add-t14 : tie.Need-overflow_add-result-then-is_strange
add-t14 c = search rules

returns-3 : tie.Need-returns-then-is_strange
returns-3 c = let s = c in
    let m = s in
    let a = m.args in
    early-strange a.kind a.heads a.k a.cut a.row (rw m.limits_of-limits.ensures at s.if-limits-k.false) s.if-cut.false (sym c.is_strange.ensures ∙ c.if-is_strange.true)

add-t16 : tie.Need-overflow_add-result-then-not-row
add-t16 c = search rules

returns-4 : tie.Need-returns-then-not-row
returns-4 c = let s = c in
    let m = s in
    let a = m.args in
    early-column a.kind a.heads a.k a.cut a.row (rw m.limits_of-limits.ensures at s.if-limits-k.false) s.if-cut.false (sym c.is_strange.ensures ∙ c.if-is_strange.false) (not-true _ c.if-not-row.true)

returns-5 : tie.Need-returns
returns-5 c = let s = c in
    let m = s in
    let a = m.args in
    early-none a.kind a.heads a.k a.cut a.row (rw m.limits_of-limits.ensures at s.if-limits-k.false) s.if-cut.false (sym c.is_strange.ensures ∙ c.if-is_strange.false) (not-false _ c.if-not-row.false)

pub early_answer_spec : {M : Type 1} → statement M
early_answer_spec =
    tie.close
    (tie.spec
    limits-of-requires
    add-t9
    returns
    add-t11
    returns-2
    is-strange-requires
    add-t14
    returns-3
    add-t16
    returns-4
    returns-5)
