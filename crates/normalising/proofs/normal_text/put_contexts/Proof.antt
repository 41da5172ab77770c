-- `normal_text::put_contexts` meets its contract. Invariant: the first k B rows are written over the slip, and the rest of
-- it is as it was. Assumes nothing.
use Prim.Native.Nat.{◌≤◌, ◌-◌, ◌*◌}
use mathlib.Core.Path.{◌≡◌, refl, ◌∙◌}
use native.Mathlib.Omega.{arith}
use lib.ListN.{length}
use Rattle.rows.specs.Format.{row_width}
use Rattle.writing.proofs.RowBytes.{over, over_none}
use Rattle.normalising.specs.NormalRows.{rows_to, context_row_in}
use Rattle.normalising.proofs.normal_text.NormalRows.{rows-put, context-width}
use borrow.Author.Rules.{rules}
use Rattle.normalising.proofs.normal_text.put_contexts.Statement.{statement}
use Rattle.normalising.proofs.normal_text.put_contexts.Tie as tie

abbrev invariant-loop : tie.invariant-loop-k
invariant-loop count out₀ at contexts k₀ out k = (k ≤ count) × (length out ≡ length out₀) × (out ≡ over out₀ at (rows_to (context_row_in contexts) k) (k * row_width))

abbrev decreases-loop : tie.decreases-loop-k
decreases-loop count out₀ at contexts k₀ out k = count - k

loop-holds : tie.Need-loop-k-init invariant-loop decreases-loop
unfolding rows_to
loop-holds c = (omega arith, refl, over_none c.args.out.now c.args.at)

mul-context : tie.Need-offset_bounds-contexts-k invariant-loop decreases-loop
mul-context c = search rules

array-copy-out-context : tie.Need-bounds-contexts-k invariant-loop decreases-loop
array-copy-out-context c = search rules

mul-put-linked : tie.Need-overflow_mul-k invariant-loop decreases-loop
mul-put-linked c = search rules

add-put-linked : tie.Need-overflow_add-at invariant-loop decreases-loop
add-put-linked c = search rules

put-linked-requires : tie.Need-put_linked-requires invariant-loop decreases-loop
put-linked-requires c κs = let l = c in
    let s = l in
    (omega (arith, l.loop-k.invariant.1, s.requires.1), s.requires.0.1 l.loop-k.k c.loop-k-test.true)

add-k : tie.Need-overflow_add-k invariant-loop decreases-loop
add-k c = search rules

loop-less : tie.Need-loop-k-smaller invariant-loop decreases-loop
loop-less c = search rules

loop-again : tie.Need-loop-k-preserved invariant-loop decreases-loop
loop-again c = let p = c.put_linked in
    let l = c in
    let s = l in (
      omega arith,
      p.auto.out ∙ l.loop-k.invariant.1,
      rows-put (context_row_in s.args.contexts) (context-width s.args.contexts) s.args.out.now p.new.out s.args.at l.loop-k.k (omega (arith, s.requires.1)) (rw l.loop-k.invariant.2 at p.ensures),
    )

mul-result : tie.Need-overflow_mul-result invariant-loop decreases-loop
mul-result c = search rules

add-result : tie.Need-overflow_add-result invariant-loop decreases-loop
add-result c = search rules

same_length : tie.Need-shape_of-out invariant-loop decreases-loop
same_length c = search rules

returns : tie.Need-returns invariant-loop decreases-loop
returns c = let l = c.loop-k in
    let e : l.k ≡ c.args.count = omega arith in
    (omega arith, rw e at l.invariant.2)

pub put_contexts_spec : {M : Type 1} → statement M
put_contexts_spec =
    tie.close
    (tie.spec
    invariant-loop
    decreases-loop
    loop-holds
    mul-context
    array-copy-out-context
    mul-put-linked
    add-put-linked
    put-linked-requires
    add-k
    loop-less
    loop-again
    mul-result
    add-result
    same_length
    returns)
