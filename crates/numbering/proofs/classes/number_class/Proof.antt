-- A class without a number gets the next, another keeps its own.
use mathlib.Core.Path.{refl}
use mathlib.Core.Logic.{⊎_elim}
use Rattle.numbering.specs.Numbering.{numbering}
use Rattle.numbering.proofs.Turns.{with-class-new, with-class-old}
use borrow.Author.Rules.{rules}
use Rattle.numbering.proofs.classes.number_class.Statement.{statement}
use Rattle.numbering.proofs.classes.number_class.Tie as tie

mul-if1 : tie.Need-offset_bounds-numbers-label
mul-if1 c = search rules

element-copy-out-if1 : tie.Need-bounds-numbers-label
element-copy-out-if1 c = search rules

add-count : tie.Need-overflow_add-count
add-count c = search rules

cast-numbers : tie.Need-overflow_cast-numbers
cast-numbers c = search rules

mul-numbers : tie.Need-offset_bounds-numbers-label-then-numbers-label-eq0
mul-numbers c = search rules

element-write-numbers : tie.Need-bounds-numbers-label-then-numbers-label-eq0
element-write-numbers c = search rules

mul-result : tie.Need-offset_bounds-numbers-label-2
mul-result c = search rules

element-copy-out-result : tie.Need-bounds-numbers-label-2
element-copy-out-result c = search rules

returns : tie.Need-returns
returns c = let s = c.args in
    let n = numbering s.numbers.now s.count.now in (
      ⊎_elim (λ w. rw (w.numbers-is, w.count-is) (with-class-new n s.label w.if-numbers-label-eq0.true)) (λ w. rw (w.numbers-is, w.count-is) (with-class-old n s.label w.if-numbers-label-eq0.false)) c.if-numbers-label-eq0.branch-raw,
      refl,
    )

pub number_class_spec : {M : Type 1} → statement M
number_class_spec =
    tie.close
    (tie.spec
    mul-if1
    element-copy-out-if1
    add-count
    cast-numbers
    mul-numbers
    element-write-numbers
    mul-result
    element-copy-out-result
    returns)
