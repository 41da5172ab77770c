-- An input that is refused at a row, and inputs that passed.
use borrow.Author.Rules.{rules}
use mathlib.Core.Path.{ap, sym, ◌∙◌}
use Rattle.reading.specs.declared.read.Reading.{Reading}
use Rattle.filling.proofs.Parts.{headed-read}
use Rattle.claiming.proofs.ClaimCode.{claim-first, claim-second, claim-third, claim-all}
use Rattle.claiming.proofs.claim.claim.Statement.{statement}
use Rattle.claiming.proofs.claim.claim.Tie as tie

read-sheet-requires : tie.Need-read_sheet-first-requires
read-sheet-requires c κs = search rules

read-figure-requires : tie.Need-read_figure-second-requires
read-figure-requires c κs = search rules

read-list-requires : tie.Need-read_list-third-requires
read-list-requires c κs = search rules

enum-known-one : tie.Need-enum_known-one
enum-known-one c = search rules

enum_told : tie.Need-enum_told-1
enum_told c = search rules

enum-known-two : tie.Need-enum_known-two
enum-known-two c = search rules

enum-told-2 : tie.Need-enum_told-in-Passed-two
enum-told-2 c = search rules

enum-known-three : tie.Need-enum_known-three
enum-known-three c = search rules

enum-told-3 : tie.Need-enum_told-in-Passed-three
enum-told-3 c = search rules

claim-read-requires : tie.Need-claim_read-requires
claim-read-requires c κs =
    let w = c in
    let l = w in
    let v = l in
    let g = v in
    let u = g in
    let r = u in
    let a = r.args in (
      (
        a.sheet.now,
        (
          a.figure.now,
          record {
            of-sheet = ap (λ (x : Reading). x.normal) r.read_sheet-first.ensures;
            of-figure = ap (λ (x : Reading). x.normal) g.read_figure-second.ensures;
          },
        ),
      ),
      headed-read a.list.now l.read_list-third.result l.read_list-third.ensures w.in-Passed-three.is,
    )

returns : tie.Need-returns-in-Refused
returns c =
    let r = c in
    let a = r.args in
    claim-first a.sheet.now a.figure.now a.list.now c.in-Refused.why c.in-Refused.row (sym (ap (λ (x : Reading). x.answer) r.read_sheet-first.ensures) ∙ c.in-Refused.is)

returns-2 : tie.Need-returns-in-Refused-two
returns-2 c =
    let g = c in
    let u = g in
    let r = u in
    let a = r.args in
    claim-second a.sheet.now a.figure.now a.list.now (sym (ap (λ (x : Reading). x.answer) r.read_sheet-first.ensures) ∙ u.in-Passed.is)
    c.in-Refused-two.why c.in-Refused-two.row (sym (ap (λ (x : Reading). x.answer) g.read_figure-second.ensures) ∙ c.in-Refused-two.is)

returns-3 : tie.Need-returns-in-Refused-three
returns-3 c =
    let l = c in
    let v = l in
    let g = v in
    let u = g in
    let r = u in
    let a = r.args in
    claim-third a.sheet.now a.figure.now a.list.now (sym (ap (λ (x : Reading). x.answer) r.read_sheet-first.ensures) ∙ u.in-Passed.is)
    (sym (ap (λ (x : Reading). x.answer) g.read_figure-second.ensures) ∙ v.in-Passed-two.is)
    c.in-Refused-three.why c.in-Refused-three.row (sym (ap (λ (x : Reading). x.answer) l.read_list-third.ensures) ∙ c.in-Refused-three.is)

returns-4 : tie.Need-returns-in-Passed-three
returns-4 c =
    let w = c in
    let l = w in
    let v = l in
    let g = v in
    let u = g in
    let r = u in
    let a = r.args in
    c.claim_read.ensures a.sheet.now a.figure.now (record {
      of-sheet = ap (λ (x : Reading). x.normal) r.read_sheet-first.ensures;
      of-figure = ap (λ (x : Reading). x.normal) g.read_figure-second.ensures;
    })
    ∙ claim-all a.sheet.now a.figure.now a.list.now (sym (ap (λ (x : Reading). x.answer) r.read_sheet-first.ensures) ∙ u.in-Passed.is)
    (sym (ap (λ (x : Reading). x.answer) g.read_figure-second.ensures) ∙ v.in-Passed-two.is)
    (sym (ap (λ (x : Reading). x.answer) l.read_list-third.ensures) ∙ w.in-Passed-three.is)

pub claim_spec : {M : Type 1} → statement M
claim_spec =
    tie.close
    (tie.spec
    read-sheet-requires
    enum-known-one
    enum_told
    read-figure-requires
    enum-known-two
    enum-told-2
    read-list-requires
    enum-known-three
    enum-told-3
    claim-read-requires
    returns
    returns-2
    returns-3
    returns-4)
