-- A short slip, an input that is refused at a row, and inputs that passed.
use borrow.Author.Rules.{rules}
use mathlib.Core.Path.{ap, sym, ◌∙◌}
use Rattle.reading.specs.declared.read.Reading.{Reading}
use Rattle.finding.specs.Inputs.{PlaceInputs}
use Rattle.finding.proofs.PlaceCode.{place_short, place-first, place-second, place-both}
use Rattle.finding.proofs.place.place.Statement.{statement}
use Rattle.finding.proofs.place.place.Tie as tie

returns : tie.Need-returns-then-out-lt-SLIP
returns c = let a = c.args in
    place_short a.sheet.now a.pattern.now a.out.now c.if-out-lt-SLIP.true

read-sheet-requires : tie.Need-read_sheet-first-requires
read-sheet-requires c κs = search rules

enum-known-one : tie.Need-enum_known-one
enum-known-one c = search rules

enum_told : tie.Need-enum_told-1
enum_told c = search rules

read-pattern-requires : tie.Need-read_pattern-second-requires
read-pattern-requires c κs = search rules

enum-known-two : tie.Need-enum_known-two
enum-known-two c = search rules

enum-told-2 : tie.Need-enum_told-in-Passed-two
enum-told-2 c = search rules

place-normals-requires : tie.Need-place_normals-requires
place-normals-requires c κs =
    let t = c in
    let q = t in
    let u = q in
    let r = u in
    let e = r in
    let a = e.args in (
      (
        a.sheet.now,
        (
          a.pattern.now,
          record {
            passed = record { sheet-passes = sym (ap (λ (x : Reading). x.answer) r.read_sheet-first.ensures) ∙ u.in-Passed.is; pattern-passes = sym (ap (λ (x : Reading). x.answer) q.read_pattern-second.ensures) ∙ t.in-Passed-two.is };
            of-sheet = ap (λ (x : Reading). x.normal) r.read_sheet-first.ensures;
            of-pattern = ap (λ (x : Reading). x.normal) q.read_pattern-second.ensures;
          },
        ),
      ),
      e.if-out-lt-SLIP.false,
    )

returns-2 : tie.Need-returns-in-Refused
returns-2 c =
    let r = c in
    let e = r in
    let a = e.args in
    place-first a.sheet.now a.pattern.now a.out.now e.if-out-lt-SLIP.false c.in-Refused.why c.in-Refused.row (sym (ap (λ (x : Reading). x.answer) r.read_sheet-first.ensures) ∙ c.in-Refused.is)

returns-3 : tie.Need-returns-in-Refused-two
returns-3 c =
    let q = c in
    let u = q in
    let r = u in
    let e = r in
    let a = e.args in
    place-second a.sheet.now a.pattern.now a.out.now e.if-out-lt-SLIP.false (sym (ap (λ (x : Reading). x.answer) r.read_sheet-first.ensures) ∙ u.in-Passed.is) c.in-Refused-two.why c.in-Refused-two.row (sym (ap (λ (x : Reading). x.answer) q.read_pattern-second.ensures) ∙ c.in-Refused-two.is)

same_length : tie.Need-shape_of-out
same_length c = search rules

returns-4 : tie.Need-returns-in-Passed-two
returns-4 c =
    let w = c in
    let t = w in
    let q = t in
    let u = q in
    let r = u in
    let e = r in
    let a = e.args in
    let S = sym (ap (λ (x : Reading). x.answer) r.read_sheet-first.ensures) ∙ u.in-Passed.is in
    let P = sym (ap (λ (x : Reading). x.answer) q.read_pattern-second.ensures) ∙ t.in-Passed-two.is in
    let I : PlaceInputs r.read_sheet-first.result.normal q.read_pattern-second.result.normal a.sheet.now a.pattern.now = record {
      passed = record { sheet-passes = S; pattern-passes = P };
      of-sheet = ap (λ (x : Reading). x.normal) r.read_sheet-first.ensures;
      of-pattern = ap (λ (x : Reading). x.normal) q.read_pattern-second.ensures;
    } in
    place-both a.sheet.now a.pattern.now a.out.now e.if-out-lt-SLIP.false S P
    w.place_normals.result (w.place_normals.ensures.0 a.sheet.now a.pattern.now I) _ (w.place_normals.ensures.1 a.sheet.now a.pattern.now I)

pub place_spec : {M : Type 1} → statement M
place_spec =
    tie.close
    (tie.spec
    returns
    read-sheet-requires
    enum-known-one
    enum_told
    read-pattern-requires
    enum-known-two
    enum-told-2
    place-normals-requires
    returns-2
    returns-3
    same_length
    returns-4)
