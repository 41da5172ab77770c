-- The part from the head to the next one.
use borrow.Author.Rules.{rules}
use mathlib.Core.Path.{sym, ◌∙◌}
use mathlib.Core.Bool.{true}
use Rattle.sheet.proofs.part.FillingLaws.{filling-part, filling-none, filling-by}
use Rattle.sheet.proofs.part.part_for.Statement.{statement}
use Rattle.sheet.proofs.part.part_for.Tie as tie

head-at-requires : tie.Need-head_at-from-requires
head-at-requires c κs = search rules

sub-if1 : tie.Need-overflow_sub-list
sub-if1 c = search rules

sub-result : tie.Need-slice_bounds-result-count
sub-result c = search rules

part-result-start : tie.Need-slice_bounds-result-start
part-result-start c = search rules

part-result-end : tie.Need-slice_bounds-result-end
part-result-end c = search rules

returns : tie.Need-returns-then-list-from-lt-ROW
returns c = let h = c in
    let s = h in
    let a = s.args in
    sym (filling-by a.list.now a.number true s.requires.passes ∙ filling-none a.list.now a.number h.head_at-from.result h.head_at-from.ensures.1 c.if-list-from-lt-ROW.true)

add-rows-end : tie.Need-overflow_add-from
add-rows-end c = search rules

rows-end-requires : tie.Need-rows_end-to-requires
rows-end-requires c κs = search rules

sub-result-2 : tie.Need-slice_bounds-result-count-2
sub-result-2 c = search rules

part-result-start-2 : tie.Need-slice_bounds-result-start-2
part-result-start-2 c = search rules

part-result-end-2 : tie.Need-slice_bounds-result-end-2
part-result-end-2 c = search rules

returns-2 : tie.Need-returns
returns-2 c = let h = c in
    let s = h in
    let a = s.args in
    let e = c.rows_end-to in
    filling-part a.list.now a.number h.head_at-from.result h.head_at-from.ensures.1 e.result e.ensures.0 e.ensures.2 ∙ sym (filling-by a.list.now a.number true s.requires.passes)

pub part_for_spec : {M : Type 1} → statement M
part_for_spec =
    tie.close
    (tie.spec
    head-at-requires
    sub-if1
    sub-result
    part-result-start
    part-result-end
    returns
    add-rows-end
    rows-end-requires
    sub-result-2
    part-result-start-2
    part-result-end-2
    returns-2)
