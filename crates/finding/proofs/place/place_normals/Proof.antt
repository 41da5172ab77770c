-- No placing was found, or its fillings are written.
use borrow.Author.Rules.{rules}
use borrow.Author.Tests.{not-true, not-false}
use mathlib.Core.Path.{refl}
use Rattle.finding.proofs.PlaceCode.{inputs-ready, inputs_apart, inputs-columns, none-answer, found-links, some-answer, some-slip}
use Rattle.finding.proofs.place.place_normals.Statement.{statement}
use Rattle.finding.proofs.place.place_normals.Tie as tie

smallest-placing-requires : tie.Need-smallest_placing-found-requires
smallest-placing-requires c κs =
    let t = c in
    let i = t.requires.0 in
    inputs-ready t.args.sheet t.args.pattern i.0 i.1.0 i.1.1

returns : tie.Need-returns-then-not-found
returns c =
    let f = c in
    let t = f in
    (λ s p I. none-answer t.args.sheet t.args.pattern s p I f.smallest_placing-found.result f.smallest_placing-found.ensures (not-true _ c.if-not-found.true), λ s p I. refl)

write-fillings-requires : tie.Need-write_fillings-bytes-requires
write-fillings-requires c κs =
    let e = c in
    let f = e in
    let t = f in
    let i = t.requires.0 in
    let I = i.1.1 in
    let r = f.smallest_placing-found.result in
    ((inputs-ready t.args.sheet t.args.pattern i.0 i.1.0 I, found-links t.args.sheet t.args.pattern i.0 i.1.0 I r f.smallest_placing-found.ensures (not-false _ e.if-not-found.false) (search (rules, f.smallest_placing-found.type_inv.1.1)), search (rules, f.smallest_placing-found.type_inv.1.1), inputs_apart t.args.sheet t.args.pattern i.0 i.1.0 I, inputs-columns t.args.sheet t.args.pattern i.0 i.1.0 I), t.requires.1)

same_length : tie.Need-shape_of-out
same_length c = search rules

returns-2 : tie.Need-returns
returns-2 c =
    let w = c in
    let e = w in
    let f = e in
    let t = f in
    let r = f.smallest_placing-found.result in (
      λ s p I. some-answer t.args.sheet t.args.pattern s p I r f.smallest_placing-found.ensures (not-false _ e.if-not-found.false) w.write_fillings-bytes.result w.write_fillings-bytes.ensures.0,
      λ s p I. some-slip t.args.sheet t.args.pattern s p I r f.smallest_placing-found.ensures (not-false _ e.if-not-found.false) w.write_fillings-bytes.result w.write_fillings-bytes.ensures.0 _ _ w.write_fillings-bytes.ensures.1,
    )

pub place_normals_spec : {M : Type 1} → statement M
place_normals_spec =
    tie.close
    (tie.spec smallest-placing-requires returns write-fillings-requires same_length returns-2)
