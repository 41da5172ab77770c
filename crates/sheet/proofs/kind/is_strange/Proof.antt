-- Each way out is one of the cases of the definition.
use borrow.Author.Rules.{rules}
use mathlib.Core.Path.{◌≡◌, sym, ◌∙◌}
use mathlib.Core.Bool.{true}
use borrow.Author.Tests.{not-true, not-false}
use Rattle.sheet.specs.Kinds.{allowed}
use Rattle.sheet.proofs.kind.KindLaws.{strange-letter, strange-head, strange-none, strange-first}
use Rattle.sheet.proofs.kind.is_strange.Statement.{statement}
use Rattle.sheet.proofs.kind.is_strange.Tie as tie

allows-requires : tie.Need-allows-requires
allows-requires c κs = search rules

returns : tie.Need-returns-then-not-allows
returns c = let m = c in
    let a = m.args in
    strange-letter a.kind a.letter a.heads (sym m.allows.ensures ∙ not-true _ c.if-not-allows.true-raw)

returns-2 : tie.Need-returns-then-letter-eq-HEAD
returns-2 c = let m = c in
    let a = m.args in
    strange-head a.kind a.letter a.heads (sym m.allows.ensures ∙ not-false _ c.if-not-allows.false-raw) c.if-letter-eq-HEAD.true

is-list-requires : tie.Need-is_list-requires
is-list-requires c κs = search rules

returns-3 : tie.Need-returns-then-not-is_list
returns-3 c = let l = c in
    let m = l in
    let a = m.args in
    strange-none a.kind a.letter a.heads (sym m.allows.ensures ∙ not-false _ l.if-not-allows.false-raw) (sym l.is_list.ensures ∙ not-true _ c.if-not-is_list.true-raw)

returns-4 : tie.Need-returns
returns-4 c = let l = c in
    let m = l in
    let a = m.args in
    strange-first a.kind a.letter a.heads (sym m.allows.ensures ∙ not-false _ l.if-not-allows.false-raw) (sym l.is_list.ensures ∙ not-false _ c.if-not-is_list.false-raw) l.if-letter-eq-HEAD.false

pub is_strange_spec : {M : Type 1} → statement M
is_strange_spec =
    tie.close (tie.spec allows-requires returns returns-2 is-list-requires returns-3 returns-4)
