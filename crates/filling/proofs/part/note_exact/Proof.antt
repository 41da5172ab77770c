-- Where the marks are exact that is noted.
use borrow.Author.Rules.{rules}
use Prim.Native.Nat.{ℕ}
use mathlib.Core.Path.{sym, ◌∙◌, ap}
use mathlib.Core.List.{List}
use Rattle.placing.specs.Smallest.{same_list, numbers_to}
use Rattle.filling.proofs.Loops.{exacts-next}
use Rattle.filling.proofs.part.note_exact.Statement.{statement}
use Rattle.filling.proofs.part.note_exact.Tie as tie

marks-exact-requires : tie.Need-marks_exact-requires
marks-exact-requires c κs = search rules

add-exact : tie.Need-overflow_add-exact
add-exact c = search rules

mul-exact : tie.Need-offset_bounds-exact-number
mul-exact c = search rules

element-write-exact : tie.Need-bounds-exact-number
element-write-exact c = search rules

returns : tie.Need-returns-then-marks_exact
returns c = let m = c in
    let a = m.args in
    λ list e old. exacts-next list a.exact.now a.number a.n (ap (λ (l : List ℕ). same_list l (numbers_to a.n)) (sym e) ∙ sym m.marks_exact.ensures ∙ c.if-marks_exact.true) old

returns-2 : tie.Need-returns-else-marks_exact
returns-2 c = λ list e old. old

pub note_exact_spec : {M : Type 1} → statement M
note_exact_spec =
    tie.close
    (tie.spec marks-exact-requires add-exact mul-exact element-write-exact returns returns-2)
