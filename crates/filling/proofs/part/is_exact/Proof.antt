-- What is noted, or what the filling shows when it is read.
use borrow.Author.Rules.{rules}
use Prim.Native.Nat.{◌≤◌, ◌+◌}
use mathlib.Core.Path.{◌≡◌, sym, ◌∙◌, ap, subst}
use lib.ListN.{length, take}
use Rattle.rows.specs.Limits.{sheet_marks, mark_room}
use Rattle.rows.specs.declared.Sheet.{Sheet as Normal}
use Rattle.placing.specs.Smallest.{same_list, numbers_to}
use Rattle.filling.proofs.Parts.{part_low, part-marks}
use Rattle.filling.proofs.part.is_exact.Statement.{statement}
use Rattle.filling.proofs.part.is_exact.Tie as tie

mul-if1 : tie.Need-offset_bounds-exact-number
mul-if1 c = search rules

element-copy-out-if1 : tie.Need-bounds-exact-number
element-copy-out-if1 c = search rules

add-if1 : tie.Need-overflow_add-n
add-if1 c = search rules

returns : tie.Need-returns-then-exact-number
returns c = let s = c in
    let a = s.args in
    sym (s.requires.1 a.number a.n c.if-exact-number.true)

part-of-requires : tie.Need-part_of-part-requires
part-of-requires c κs = search rules

marks-exact-requires : tie.Need-marks_exact-requires
marks-exact-requires c κs = let p = c in
    let a = p.args in
    (subst (λ (n : Normal). n.mark_count ≤ sheet_marks) (sym p.part_of-part.ensures) (part_low a.list.now a.number).marks, subst (λ (n : Normal). length n.marks ≡ mark_room) (sym p.part_of-part.ensures) (part-marks a.list.now a.number))

returns-2 : tie.Need-returns
returns-2 c = let p = c in
    let a = p.args in
    c.marks_exact.ensures ∙ ap (λ (n : Normal). same_list (take n.mark_count n.marks) (numbers_to a.n)) p.part_of-part.ensures

pub is_exact_spec : {M : Type 1} → statement M
is_exact_spec =
    tie.close
    (tie.spec
    mul-if1
    element-copy-out-if1
    add-if1
    returns
    part-of-requires
    marks-exact-requires
    returns-2)
