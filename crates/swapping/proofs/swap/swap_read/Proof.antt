-- Other marks, no placing, too large a result, and the replacement filled with what was found.
use borrow.Author.Rules.{rules}
use borrow.Author.Tests.{not-true, not-false}
use native.Mathlib.Omega.{arith}
use Prim.Native.Nat.{ℕ}
use mathlib.Core.Path.{◌≡◌, refl, ap, ◌∙◌}
use mathlib.Core.List.{List}
use lib.ListN.{length}
use Rattle.rows.specs.Limits.{sheet_atom_limit}
use Rattle.answers.specs.Done.{slip_after}
use Rattle.answers.specs.declared.outcome.Done.TheVariants.{Written}
use Rattle.finding.proofs.PlaceCode.{inputs-ready, inputs-columns, found-links}
use Rattle.swapping.specs.Inputs.{SwapInputs}
use Rattle.swapping.specs.FilledFrom.{PlacingSwaps}
use Rattle.swapping.proofs.ReplacementBlanks.{replacement-blanks}
use Rattle.swapping.proofs.SwapCode.{marks-room, marks-differ, swap-nothing, swap-placing, done-many, done-wide, done-writable, done-written, done-slip}
use Rattle.swapping.proofs.swap.swap_read.Statement.{statement}
use Rattle.swapping.proofs.swap.swap_read.Tie as tie

same-marks-requires : tie.Need-same_marks-requires
same-marks-requires c κs =
    let t = c in
    let a = t.args in
    let i = t.requires.0 in
    marks-room a.sheet a.pattern a.replacement i.0 i.1.0 i.1.1.0 i.1.1.1

returns : tie.Need-returns-then-not-same_marks
returns c =
    let j = c in
    let a = j.args in
    (λ s p q I. marks-differ a.sheet a.pattern a.replacement s p q I j.same_marks.result j.same_marks.ensures (not-true _ c.if-not-same_marks.true-raw), λ s p q I. refl)

smallest-placing-requires : tie.Need-smallest_placing-found-requires
smallest-placing-requires c κs =
    let t = c in
    let i = t.requires.0 in
    inputs-ready t.args.sheet t.args.pattern i.0 i.1.0 i.1.1.1.placed

returns-2 : tie.Need-returns-then-not-found
returns-2 c =
    let f = c in
    let e = f in
    let j = e in
    let a = j.args in (
      λ s p q I. swap-nothing a.sheet a.pattern a.replacement s p q I j.same_marks.result j.same_marks.ensures (not-false _ e.if-not-same_marks.false-raw)
          f.smallest_placing-found.result f.smallest_placing-found.ensures (not-true _ c.if-not-found.true),
      λ s p q I. refl,
    )

-- The list of what was found.
room : (e : tie.Else-not-found) → length e.smallest_placing-found.result.given ≡ sheet_atom_limit
room e = let f = e in
    search (rules, f.smallest_placing-found.type_inv.1.1)

swaps : (g : tie.Else-not-found) → let f = g.before.before in let a = f.args in (s p q : List ℕ) → SwapInputs a.sheet a.pattern a.replacement s p q
    → PlacingSwaps a.sheet a.pattern a.replacement f.smallest_placing-found.result.links_to f.smallest_placing-found.result.given s p q
swaps g s p q I =
    let f = g in
    let e = f in
    let j = e in
    let a = j.args in
    swap-placing a.sheet a.pattern a.replacement s p q I j.same_marks.result j.same_marks.ensures (not-false _ e.if-not-same_marks.false-raw) f.smallest_placing-found.result f.smallest_placing-found.ensures (not-false _ g.if-not-found.false) (room g)

swapped-requires : tie.Need-swapped-normal-requires
swapped-requires c κs =
    let g = c in
    let f = g in
    let t = f in
    let a = t.args in
    let i = t.requires.0 in
    let I = i.1.1.1 in
    let l = swaps g.before.before i.0 i.1.0 i.1.1.0 I in (
      (
        inputs-ready a.sheet a.pattern i.0 i.1.0 I.placed,
        found-links a.sheet a.pattern i.0 i.1.0 I.placed f.smallest_placing-found.result f.smallest_placing-found.ensures (not-false _ g.if-not-found.false) (search (rules, f.smallest_placing-found.type_inv.1.1)),
        room g.before.before,
        replacement-blanks a.sheet a.pattern a.replacement i.0 i.1.0 i.1.1.0 I,
        (inputs-columns a.sheet a.pattern i.0 i.1.0 I.placed).ports,
      ),
      ((i.1.1.0, l.fills.of-figure), (l.list, l.parts)),
    )

returns-3 : tie.Need-returns-then-normal-gt-ATOMS
returns-3 c =
    let w = c in
    let g = w in
    let a = g.args in (
      λ s p q I. let l = swaps g.before.before.before.before.before s p q I in done-many a.replacement l.list q l.fills w.swapped-normal.result (λ T. w.swapped-normal.ensures l.list T l.parts) c.if-normal-gt-ATOMS.true ∙ l.answer,
      λ s p q I. refl,
    )

returns-4 : tie.Need-returns-then-normal-gt-LINKS
returns-4 c =
    let w = c in
    let g = w in
    let a = g.args in (
      λ s p q I. let l = swaps g.before.before.before.before.before.before.before s p q I in done-wide a.replacement l.list q l.fills w.swapped-normal.result (λ T. w.swapped-normal.ensures l.list T l.parts) c.if-normal-gt-LINKS.true ∙ l.answer,
      λ s p q I. refl,
    )

write-normal-requires : tie.Need-write_normal-bytes-requires
write-normal-requires c κs =
    let e = c in
    let w = e in
    let g = w in
    let t = g in
    let i = t.requires.0 in
    let l = swaps g.before.before.before.before.before.before.before.before i.0 i.1.0 i.1.1.0 i.1.1.1 in
    let d = done-writable t.args.replacement l.list i.1.1.0 l.fills w.swapped-normal.result (λ T. w.swapped-normal.ensures l.list T l.parts) e.if-normal-gt-ATOMS.false e.if-normal-gt-LINKS.false in
    (d.0, omega (arith, d.1, t.requires.1))

same_length : tie.Need-shape_of-out
same_length c = search rules

returns-5 : tie.Need-returns
returns-5 c =
    let n = c in
    let e = n in
    let w = e in
    let g = w in
    let a = g.args in
    let few = e.if-normal-gt-ATOMS.false in (
      λ s p q I. let l = swaps g.before.before.before.before.before.before.before.before.before.before.before s p q I in
          done-written a.replacement l.list q l.fills w.swapped-normal.result (λ T. w.swapped-normal.ensures l.list T l.parts) few e.if-normal-gt-LINKS.false n.write_normal-bytes.result n.write_normal-bytes.ensures.0 ∙ l.answer,
      λ s p q I. let l = swaps g.before.before.before.before.before.before.before.before.before.before.before s p q I in
          n.write_normal-bytes.ensures.1
          ∙ done-slip a.replacement l.list q l.fills w.swapped-normal.result (λ T. w.swapped-normal.ensures l.list T l.parts) few e.if-normal-gt-LINKS.false n.write_normal-bytes.result n.write_normal-bytes.ensures.0 a.out.now
          ∙ ap (λ x. slip_after (Written n.write_normal-bytes.result) x a.out.now) l.text,
    )

pub swap_read_spec : {M : Type 1} → statement M
swap_read_spec =
    tie.close
    (tie.spec
    same-marks-requires
    returns
    smallest-placing-requires
    returns-2
    swapped-requires
    returns-3
    returns-4
    write-normal-requires
    same_length
    returns-5)
