-- Where the list passes, its part for the context, by the heads that were read; else nothing.
use borrow.Author.Rules.{rules}
use mathlib.Core.Path.{sym, ◌∙◌, ap}
use mathlib.Core.Bool.{false}
use Rattle.sheet.specs.Filling.{is_passed}
use Rattle.reading.specs.declared.read.Reading.{Reading}
use Rattle.sheet.proofs.part.FillingLaws.{filling-by}
use Rattle.reading.proofs.part.ListRead.{heads-read}
use Rattle.reading.proofs.part.filling_of.Statement.{statement}
use Rattle.reading.proofs.part.filling_of.Tie as tie

read-list-requires : tie.Need-read_list-reading-requires
read-list-requires c κs = search rules

enum_told : tie.Need-enum_told-1
enum_told c = search rules

part-for-requires : tie.Need-part_for-requires
part-for-requires c κs = let r = c in
    heads-read r.args.list.now r.read_list-reading.result r.read_list-reading.ensures c.in-Passed.is

enum-told-2 : tie.Need-enum_told-in-Refused
enum-told-2 c = search rules

sub-result : tie.Need-slice_bounds-result-count
sub-result c = search rules

part-result-start : tie.Need-slice_bounds-result-start
part-result-start c = search rules

part-result-end : tie.Need-slice_bounds-result-end
part-result-end c = search rules

returns : tie.Need-returns-in-Passed
returns c = search rules

returns-2 : tie.Need-returns-in-Refused
returns-2 c = let r = c in
    let a = r.args in
    sym (filling-by a.list.now a.number false (ap is_passed (sym (ap (λ (x : Reading). x.answer) r.read_list-reading.ensures) ∙ c.in-Refused.is)))

pub filling_of_spec : {M : Type 1} → statement M
filling_of_spec =
    tie.close
    (tie.spec
    read-list-requires
    enum_told
    part-for-requires
    enum-told-2
    sub-result
    part-result-start
    part-result-end
    returns
    returns-2)
