use borrow.Author.Rules.{rules}
use mathlib.Core.Path.{◌≡◌, ◌∙◌, ap}
use native.Mathlib.Omega.{arith}
use Rattle.linking.specs.Steps.{first_link_in, first_link}
use Rattle.linking.proofs.RowLinks.{edge-first}
use Rattle.linking.proofs.RowMarks.{row-unmarked, row-marked}
use Rattle.linking.proofs.take.add_row_mark.Statement.{statement}
use Rattle.linking.proofs.take.add_row_mark.Tie as tie

clear-gone-requires : tie.Need-clear_gone-kept-requires
clear-gone-requires c κs = search rules

same_length : tie.Need-shape_of-marks-then-letter-ne-EDGE
same_length c = search rules

same-length-2 : tie.Need-shape_of-marked-then-letter-ne-EDGE
same-length-2 c = search rules

returns : tie.Need-returns-then-letter-ne-EDGE
returns c = let s = c in
    let a = s.args in
    let x = c.clear_gone-kept in
    λ w v wired wired' k t. row-unmarked a.row a.links.now a.classes.now a.marks.now a.marked.now x.new.a x.new.b a.n a.m x.result s.requires.1 x.ensures.0 x.ensures.1 x.ensures.2 w v wired' k t c.if-letter-ne-EDGE.true

rules-of-requires : tie.Need-rules_of-requires
rules-of-requires c κs = omega (arith, c.if-letter-ne-EDGE.false)

first-link-requires : tie.Need-first_link-from-requires
first-link-requires c κs = search rules

-- the link's field is that of the row's letter, which is the first
from_is : (c : tie.After-first_link-from) → c.first_link-from.result ≡ first_link c.args.row.letter
from_is c = c.first_link-from.ensures ∙ ap first_link_in c.rules_of.ensures

from_zero : (c : tie.After-first_link-from) → c.first_link-from.result ≡ 0
from_zero c = from_is c ∙ edge-first c.args.row.letter c.if-letter-ne-EDGE.false

mul-add-mark : tie.Need-offset_bounds-nums-from
mul-add-mark c = search (rules, from_zero c.before.before.before)

array-read-add-mark : tie.Need-bounds-nums-from
array-read-add-mark c = search (rules, from_zero c.before.before.before)

array-read-add-mark-2 : tie.Need-bounds-nums-1
array-read-add-mark-2 c = search rules

add-mark-requires : tie.Need-add_mark-requires
add-mark-requires c κs = let s = c in
    let a = s.args in
    let x = c.clear_gone-kept in
    let e = c.if-letter-ne-EDGE.false in
    let same : x.new.b ≡ a.marked.now = rw e at x.ensures.2 in
    (s.requires.0 e, omega (arith, x.ensures.0, s.requires.1), λ p. rw same (s.requires.2 p), s.requires.3, s.requires.4, x.auto.a ∙ s.requires.5, x.auto.b ∙ s.requires.6)

same-length-3 : tie.Need-shape_of-classes
same-length-3 c = search rules

same-length-4 : tie.Need-shape_of-marks
same-length-4 c = search rules

same-length-5 : tie.Need-shape_of-marked
same-length-5 c = search rules

returns-2 : tie.Need-returns
returns-2 c = let s = c in
    let a = s.args in
    let x = c.clear_gone-kept in
    let from = c.before.before.before.before.before.before.before.before.before.before in
    let y = c.add_mark in
    λ w v wired wired' k t. row-marked a.row a.links.now a.classes.now a.marks.now a.marked.now x.new.a x.new.b a.n a.m x.result s.requires.1 x.ensures.0 x.ensures.1 x.ensures.2 w v wired' k t c.if-letter-ne-EDGE.false from.first_link-from.result (from_is from) y.new.classes y.new.marks y.new.marked y.result (y.ensures w wired)

pub add_row_mark_spec : {M : Type 1} → statement M
add_row_mark_spec =
    tie.close
    (tie.spec
    clear-gone-requires
    same_length
    same-length-2
    returns
    rules-of-requires
    first-link-requires
    mul-add-mark
    array-read-add-mark
    array-read-add-mark-2
    add-mark-requires
    same-length-3
    same-length-4
    same-length-5
    returns-2)
