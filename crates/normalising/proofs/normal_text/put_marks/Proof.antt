-- `normal_text::put_marks` meets its contract. Invariant: the first k E rows are written over the slip, and the rest of
-- it is as it was. Assumes nothing.
use Prim.Native.Nat.{◌≤◌, ◌-◌, ◌*◌}
use mathlib.Core.Path.{◌≡◌, refl, ◌∙◌}
use native.Mathlib.Omega.{arith}
use lib.ListN.{length}
use Rattle.rows.specs.Format.{row_width}
use Rattle.writing.proofs.RowBytes.{over, over_none}
use Rattle.normalising.specs.NormalRows.{rows_to, mark_row_in}
use Rattle.normalising.proofs.normal_text.NormalRows.{rows-put, mark-width}
use borrow.Author.Rules.{rules}
use Rattle.normalising.proofs.normal_text.put_marks.Statement.{statement}
use Rattle.normalising.proofs.normal_text.put_marks.Tie as tie

abbrev invariant-loop : tie.invariant-loop-k
invariant-loop count out₀ at marked marks k₀ out k = (k ≤ count) × (length out ≡ length out₀) × (out ≡ over out₀ at (rows_to (mark_row_in marked marks) k) (k * row_width))

abbrev decreases-loop : tie.decreases-loop-k
decreases-loop count out₀ at marked marks k₀ out k = count - k

loop-holds : tie.Need-loop-k-init invariant-loop decreases-loop
unfolding rows_to
loop-holds c = (omega arith, refl, over_none c.args.out.now c.args.at)

mul-put-mark : tie.Need-overflow_mul-k invariant-loop decreases-loop
mul-put-mark c = search rules

add-put-mark : tie.Need-overflow_add-at invariant-loop decreases-loop
add-put-mark c = search rules

mul-put-mark-2 : tie.Need-offset_bounds-marked-k invariant-loop decreases-loop
mul-put-mark-2 c = search rules

array-read-put-mark : tie.Need-bounds-marked-k invariant-loop decreases-loop
array-read-put-mark c = search rules

mul-put-mark-3 : tie.Need-offset_bounds-marks-k invariant-loop decreases-loop
mul-put-mark-3 c = search rules

array-read-put-mark-2 : tie.Need-bounds-marks-k invariant-loop decreases-loop
array-read-put-mark-2 c = search rules

put-mark-requires : tie.Need-put_mark-requires invariant-loop decreases-loop
put-mark-requires c κs = let l = c in
    let s = l in
    (omega (arith, l.loop-k.invariant.1, s.requires.1), s.requires.0.1 l.loop-k.k c.loop-k-test.true)

add-k : tie.Need-overflow_add-k invariant-loop decreases-loop
add-k c = search rules

loop-less : tie.Need-loop-k-smaller invariant-loop decreases-loop
loop-less c = search rules

loop-again : tie.Need-loop-k-preserved invariant-loop decreases-loop
loop-again c = let p = c.put_mark in
    let l = c in
    let s = l in (
      omega arith,
      p.auto.out ∙ l.loop-k.invariant.1,
      rows-put (mark_row_in s.args.marked s.args.marks) (mark-width s.args.marked s.args.marks) s.args.out.now p.new.out s.args.at l.loop-k.k (omega (arith, s.requires.1)) (rw l.loop-k.invariant.2 at p.ensures),
    )

mul-result : tie.Need-overflow_mul-result invariant-loop decreases-loop
mul-result c = search rules

add-result : tie.Need-overflow_add-result invariant-loop decreases-loop
add-result c = search rules

same_length : tie.Need-shape_of-out invariant-loop decreases-loop
same_length c = search rules

returns : tie.Need-returns invariant-loop decreases-loop
returns c = let l = c.loop-k in
    let e : l.k ≡ c.args.count = omega arith in
    (omega arith, rw e at l.invariant.2)

pub put_marks_spec : {M : Type 1} → statement M
put_marks_spec =
    tie.close
    (tie.spec
    invariant-loop
    decreases-loop
    loop-holds
    mul-put-mark
    add-put-mark
    mul-put-mark-2
    array-read-put-mark
    mul-put-mark-3
    array-read-put-mark-2
    put-mark-requires
    add-k
    loop-less
    loop-again
    mul-result
    add-result
    same_length
    returns)
