-- The answers are the tests of `suits`, by whether a number is needed.
use Rattle.std.proofs.Common.{◌∙◌, sym, true, false}
use borrow.Author.Tests.{lt-leb, le-leb}
use Rattle.rows.proofs.Bools.{not-not}
use Rattle.rows.proofs.RowLaws.{suits-by}
use Rattle.rows.proofs.row.field_suits.Goals as goal

pub returns-then-not-is_needed : goal.returns-then-not-is_needed
returns-then-not-is_needed c = let a = c.args in
    rw (suits-by a.rule a.f a.count a.filled a.n false (sym c.is_needed.ensures ∙ c.if-not-is_needed.true)) (not-not a.filled)

pub returns-then-not-filled : goal.returns-then-not-filled
returns-then-not-filled c = let a = c.args in
    rw (suits-by a.rule a.f a.count a.filled a.n true (sym c.is_needed.ensures ∙ c.if-not-is_needed.false)) (simp c.if-not-filled.true)

pub returns-then-n-rule : goal.returns-then-n-rule
returns-then-n-rule c = let a = c.args in
    rw (suits-by a.rule a.f a.count a.filled a.n true (sym c.is_needed.ensures ∙ c.if-not-is_needed.false)) (simp (c.if-not-filled.false, lt-leb _ _ c.if-n-rule.true))

pub returns : goal.returns
returns c = let a = c.args in
    rw (suits-by a.rule a.f a.count a.filled a.n true (sym c.is_needed.ensures ∙ c.if-not-is_needed.false)) (simp (c.if-not-filled.false, le-leb _ _ c.if-n-rule.false))
