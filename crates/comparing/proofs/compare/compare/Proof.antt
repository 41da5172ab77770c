-- `compare::compare` meets its contract: an input that is refused, or two that passed. Assumes nothing.
use borrow.Author.Rules.{rules}
use mathlib.Core.Path.{ap, sym, ◌∙◌}
use Rattle.reading.specs.declared.read.Reading.{Reading}
use Rattle.comparing.proofs.Comparing.{first-refused, second-refused, ready_read, both-passed}
use Rattle.comparing.proofs.compare.compare.Statement.{statement}
use Rattle.comparing.proofs.compare.compare.Tie as tie

read-sheet-requires : tie.Need-read_sheet-first-requires
read-sheet-requires c κs = search rules

enum-known-one : tie.Need-enum_known-one
enum-known-one c = search rules

enum_told : tie.Need-enum_told-1
enum_told c = search rules

read-sheet-requires-2 : tie.Need-read_sheet-second-requires
read-sheet-requires-2 c κs = search rules

enum-known-two : tie.Need-enum_known-two
enum-known-two c = search rules

enum-told-2 : tie.Need-enum_told-in-Passed-two
enum-told-2 c = search rules

compare-normals-requires : tie.Need-compare_normals-requires
compare-normals-requires c κs =
    let t = c in
    let r = t in
    let a = r.args in
    ready_read a.a.now a.b.now r.read_sheet-first.result.normal t.read_sheet-second.result.normal
    (ap (λ (x : Reading). x.normal) r.read_sheet-first.ensures) (ap (λ (x : Reading). x.normal) t.read_sheet-second.ensures)

returns : tie.Need-returns-in-Refused
returns c =
    let r = c in
    let a = r.args in
    first-refused a.a.now a.b.now c.in-Refused.why c.in-Refused.row (sym (ap (λ (x : Reading). x.answer) r.read_sheet-first.ensures) ∙ c.in-Refused.is)

returns-2 : tie.Need-returns-in-Refused-two
returns-2 c =
    let t = c in
    let r = t in
    let a = r.args in
    second-refused a.a.now a.b.now c.in-Refused-two.why c.in-Refused-two.row
    (sym (ap (λ (x : Reading). x.answer) r.read_sheet-first.ensures) ∙ t.in-Passed.is) (sym (ap (λ (x : Reading). x.answer) t.read_sheet-second.ensures) ∙ c.in-Refused-two.is)

returns-3 : tie.Need-returns-in-Passed-two
returns-3 c =
    let x = c in
    let t = c in
    let r = c in
    let a = r.args in
    c.compare_normals.ensures
    ∙ both-passed a.a.now a.b.now r.read_sheet-first.result.normal t.read_sheet-second.result.normal
    (ap (λ (x : Reading). x.normal) r.read_sheet-first.ensures) (ap (λ (x : Reading). x.normal) t.read_sheet-second.ensures)
    (sym (ap (λ (x : Reading). x.answer) r.read_sheet-first.ensures) ∙ t.in-Passed.is)
    (sym (ap (λ (x : Reading). x.answer) t.read_sheet-second.ensures) ∙ x.in-Passed-two.is)

pub compare_spec : {M : Type 1} → statement M
compare_spec =
    tie.close
    (tie.spec
    read-sheet-requires
    enum-known-one
    enum_told
    read-sheet-requires-2
    enum-known-two
    enum-told-2
    compare-normals-requires
    returns
    returns-2
    returns-3)
