-- A short slip, an input that is refused at a row, and inputs that passed.
use borrow.Author.Rules.{rules}
use mathlib.Core.Path.{ap, sym, ◌∙◌}
use Rattle.reading.specs.declared.read.Reading.{Reading}
use Rattle.swapping.proofs.SwapCode.{TextsRead, texts-read, swap-short, swap-first, swap-second, swap-third, swap-all}
use Rattle.swapping.proofs.swap.swap.Statement.{statement}
use Rattle.swapping.proofs.swap.swap.Tie as tie

texts : (l : tie.After-read_replacement-third) → let a = l.args in
    TextsRead l.read_sheet-first.result l.read_pattern-second.result l.read_replacement-third.result a.sheet.now a.pattern.now a.replacement.now
texts l =
    let g = l in
    let r = g in
    let a = r.args in
    texts-read r.read_sheet-first.result g.read_pattern-second.result l.read_replacement-third.result a.sheet.now a.pattern.now a.replacement.now r.read_sheet-first.ensures g.read_pattern-second.ensures l.read_replacement-third.ensures

returns : tie.Need-returns-then-out-lt-SLIP
returns c =
    let a = c.args in
    swap-short a.sheet.now a.pattern.now a.replacement.now a.out.now c.if-out-lt-SLIP.true

read-sheet-requires : tie.Need-read_sheet-first-requires
read-sheet-requires c κs = search rules

read-pattern-requires : tie.Need-read_pattern-second-requires
read-pattern-requires c κs = search rules

read-replacement-requires : tie.Need-read_replacement-third-requires
read-replacement-requires c κs = search rules

enum-known-one : tie.Need-enum_known-one
enum-known-one c = search rules

enum_told : tie.Need-enum_told-1
enum_told c = search rules

enum-known-two : tie.Need-enum_known-two
enum-known-two c = search rules

enum-told-2 : tie.Need-enum_told-in-Passed-two
enum-told-2 c = search rules

enum-known-three : tie.Need-enum_known-three
enum-known-three c = search rules

enum-told-3 : tie.Need-enum_told-in-Passed-three
enum-told-3 c = search rules

swap-read-requires : tie.Need-swap_read-requires
swap-read-requires c κs =
    let w = c in
    let l = w in
    let v = l in
    let g = v in
    let u = g in
    let r = u in
    let e = r in
    let a = e.args in (
      (
        a.sheet.now,
        (
          a.pattern.now,
          (
            a.replacement.now,
            (texts l.before.before.before.before.before).inputs u.in-Passed.is v.in-Passed-two.is w.in-Passed-three.is,
          ),
        ),
      ),
      e.if-out-lt-SLIP.false,
    )

returns-2 : tie.Need-returns-in-Refused
returns-2 c =
    let r = c in
    let e = r in
    let a = e.args in
    swap-first a.sheet.now a.pattern.now a.replacement.now a.out.now e.if-out-lt-SLIP.false c.in-Refused.why c.in-Refused.row
    (sym (ap (λ (x : Reading). x.answer) r.read_sheet-first.ensures) ∙ c.in-Refused.is)

returns-3 : tie.Need-returns-in-Refused-two
returns-3 c =
    let g = c in
    let u = g in
    let r = u in
    let e = r in
    let a = e.args in
    swap-second a.sheet.now a.pattern.now a.replacement.now a.out.now e.if-out-lt-SLIP.false
    (sym (ap (λ (x : Reading). x.answer) r.read_sheet-first.ensures) ∙ u.in-Passed.is)
    c.in-Refused-two.why c.in-Refused-two.row
    (sym (ap (λ (x : Reading). x.answer) g.read_pattern-second.ensures) ∙ c.in-Refused-two.is)

returns-4 : tie.Need-returns-in-Refused-three
returns-4 c =
    let l = c in
    let v = l in
    let g = v in
    let u = g in
    let r = u in
    let e = r in
    let a = e.args in
    swap-third a.sheet.now a.pattern.now a.replacement.now a.out.now e.if-out-lt-SLIP.false
    ((texts l.before).first-answer _ u.in-Passed.is)
    ((texts l.before).second-answer _ v.in-Passed-two.is)
    c.in-Refused-three.why c.in-Refused-three.row
    ((texts l.before).third-answer _ c.in-Refused-three.is)

same_length : tie.Need-shape_of-out
same_length c = search rules

returns-5 : tie.Need-returns-in-Passed-three
returns-5 c =
    let z = c in
    let w = z in
    let l = w in
    let v = l in
    let g = v in
    let u = g in
    let r = u in
    let e = r in
    let a = e.args in
    let I = (texts l.before.before.before.before.before.before.before.before).inputs u.in-Passed.is v.in-Passed-two.is w.in-Passed-three.is in
    swap-all a.sheet.now a.pattern.now a.replacement.now a.out.now e.if-out-lt-SLIP.false I.placed.passed.sheet-passes I.placed.passed.pattern-passes I.replacement-passes
    z.swap_read.result (z.swap_read.ensures.0 a.sheet.now a.pattern.now a.replacement.now I) _ (z.swap_read.ensures.1 a.sheet.now a.pattern.now a.replacement.now I)

pub swap_spec : {M : Type 1} → statement M
swap_spec =
    tie.close
    (tie.spec
    returns
    read-sheet-requires
    enum-known-one
    enum_told
    read-pattern-requires
    enum-known-two
    enum-told-2
    read-replacement-requires
    enum-known-three
    enum-told-3
    swap-read-requires
    returns-2
    returns-3
    returns-4
    same_length
    returns-5)
