-- A short slip, an input that is refused at a row, and inputs that passed.
use borrow.Author.Rules.{rules}
use mathlib.Core.Path.{◌≡◌, sym, ◌∙◌, ap}
use Rattle.reading.specs.NormalSheet.{packed_normal}
use Rattle.reading.specs.declared.read.Reading.{Reading}
use Rattle.filling.specs.Fill.{figure_held}
use Rattle.filling.proofs.Parts.{headed-read}
use Rattle.filling.proofs.Answers.{fill-short, fill-figure, fill-list, fill-passed}
use Rattle.filling.proofs.fill.fill.Statement.{statement}
use Rattle.filling.proofs.fill.fill.Tie as tie

returns : tie.Need-returns-then-out-lt-SLIP
returns c = let a = c.args in
    fill-short a.figure.now a.list.now a.out.now c.if-out-lt-SLIP.true

read-figure-requires : tie.Need-read_figure-figure_reading-requires
read-figure-requires c κs = search rules

read-list-requires : tie.Need-read_list-list_reading-requires
read-list-requires c κs = search rules

enum_told : tie.Need-enum_told-1
enum_told c = search rules

enum-told-2 : tie.Need-enum_told-in-Passed-list_answer
enum-told-2 c = search rules

-- The figure as it was read is in its normal form.
figure-normal : (i : tie.After-read_figure-figure_reading) → i.read_figure-figure_reading.result.normal ≡ packed_normal (figure_held i.args.figure.now)
figure-normal i = ap (λ (x : Reading). x.normal) i.read_figure-figure_reading.ensures

fill-read-requires : tie.Need-fill_read-requires
fill-read-requires c κs = let t = c in
    let r = t in
    let i = r in
    let e = i in
    let a = e.args in
    (((a.figure.now, figure-normal i.before.before.before.before.before.before.before), headed-read a.list.now r.read_list-list_reading.result r.read_list-list_reading.ensures t.in-Passed-list_answer.is), e.if-out-lt-SLIP.false)

enum-known-list-answer : tie.Need-enum_known-list_answer
enum-known-list-answer c = search rules

enum-known-figure-answer : tie.Need-enum_known-figure_answer
enum-known-figure-answer c = search rules

same_length : tie.Need-shape_of-out
same_length c = search rules

returns-2 : tie.Need-returns-in-Passed-list_answer
returns-2 c = let w = c in
    let t = w in
    let r = t in
    let i = r in
    let e = i in
    let a = e.args in
    fill-passed a.figure.now a.list.now a.out.now e.if-out-lt-SLIP.false (sym (ap (λ (x : Reading). x.answer) i.read_figure-figure_reading.ensures) ∙ r.in-Passed.is) (sym (ap (λ (x : Reading). x.answer) r.read_list-list_reading.ensures) ∙ t.in-Passed-list_answer.is)
    w.fill_read.result (w.fill_read.ensures.0 a.figure.now (figure-normal i.before.before.before.before.before.before.before.before.before.before)) _ (w.fill_read.ensures.1 a.figure.now (figure-normal i.before.before.before.before.before.before.before.before.before.before))

returns-3 : tie.Need-returns-in-Refused-list_answer
returns-3 c = let r = c in
    let i = r in
    let e = i in
    let a = e.args in
    fill-list a.figure.now a.list.now a.out.now e.if-out-lt-SLIP.false (sym (ap (λ (x : Reading). x.answer) i.read_figure-figure_reading.ensures) ∙ r.in-Passed.is) c.in-Refused-list_answer.why c.in-Refused-list_answer.row (sym (ap (λ (x : Reading). x.answer) r.read_list-list_reading.ensures) ∙ c.in-Refused-list_answer.is)

returns-4 : tie.Need-returns-in-Refused
returns-4 c = let i = c in
    let e = i in
    let a = e.args in
    fill-figure a.figure.now a.list.now a.out.now e.if-out-lt-SLIP.false c.in-Refused.why c.in-Refused.row (sym (ap (λ (x : Reading). x.answer) i.read_figure-figure_reading.ensures) ∙ c.in-Refused.is)

pub fill_spec : {M : Type 1} → statement M
fill_spec =
    tie.close
    (tie.spec
    returns
    read-figure-requires
    enum_told
    read-list-requires
    enum-told-2
    fill-read-requires
    enum-known-list-answer
    enum-known-figure-answer
    same_length
    returns-2
    returns-3
    returns-4)
