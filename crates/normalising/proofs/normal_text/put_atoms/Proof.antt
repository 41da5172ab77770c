-- `normal_text::put_atoms` meets its contract. Invariant: the first k S rows are written over the slip, and the rest of
-- it is as it was. Assumes nothing.
use Prim.Native.Nat.{◌≤◌, ◌-◌, ◌*◌}
use mathlib.Core.Path.{◌≡◌, refl, ◌∙◌}
use native.Mathlib.Omega.{arith}
use lib.ListN.{length}
use Rattle.rows.specs.Format.{row_width}
use Rattle.writing.proofs.RowBytes.{over, over_none}
use Rattle.normalising.specs.NormalRows.{rows_to, atom_row_in}
use Rattle.normalising.proofs.normal_text.NormalRows.{rows-put, atom-width}
use borrow.Author.Rules.{rules}
use Rattle.normalising.proofs.normal_text.put_atoms.Statement.{statement}
use Rattle.normalising.proofs.normal_text.put_atoms.Tie as tie

abbrev invariant-loop : tie.invariant-loop-k
invariant-loop count out₀ at atoms k₀ out k = (k ≤ count) × (length out ≡ length out₀) × (out ≡ over out₀ at (rows_to (atom_row_in atoms) k) (k * row_width))

abbrev decreases-loop : tie.decreases-loop-k
decreases-loop count out₀ at atoms k₀ out k = count - k

loop-holds : tie.Need-loop-k-init invariant-loop decreases-loop
unfolding rows_to
loop-holds c = (omega arith, refl, over_none c.args.out.now c.args.at)

mul-atom : tie.Need-offset_bounds-atoms-k invariant-loop decreases-loop
mul-atom c = search rules

array-copy-out-atom : tie.Need-bounds-atoms-k invariant-loop decreases-loop
array-copy-out-atom c = search rules

mul-put-linked : tie.Need-overflow_mul-k invariant-loop decreases-loop
mul-put-linked c = search rules

add-put-linked : tie.Need-overflow_add-at invariant-loop decreases-loop
add-put-linked c = search rules

put-linked-requires : tie.Need-put_linked-requires invariant-loop decreases-loop
put-linked-requires c κs = let l = c in
    let s = l in
    (omega (arith, l.loop-k.invariant.1, s.requires.1), s.requires.0.1 l.loop-k.k c.loop-k-test.true)

add-k : tie.Need-overflow_add-k invariant-loop decreases-loop
add-k c = search rules

loop-less : tie.Need-loop-k-smaller invariant-loop decreases-loop
loop-less c = search rules

loop-again : tie.Need-loop-k-preserved invariant-loop decreases-loop
loop-again c = let p = c.put_linked in
    let l = c in
    let s = l in (
      omega arith,
      p.auto.out ∙ l.loop-k.invariant.1,
      rows-put (atom_row_in s.args.atoms) (atom-width s.args.atoms) s.args.out.now p.new.out s.args.at l.loop-k.k (omega (arith, s.requires.1)) (rw l.loop-k.invariant.2 at p.ensures),
    )

mul-result : tie.Need-overflow_mul-result invariant-loop decreases-loop
mul-result c = search rules

add-result : tie.Need-overflow_add-result invariant-loop decreases-loop
add-result c = search rules

same_length : tie.Need-shape_of-out invariant-loop decreases-loop
same_length c = search rules

returns : tie.Need-returns invariant-loop decreases-loop
returns c = let l = c.loop-k in
    let e : l.k ≡ c.args.count = omega arith in
    (omega arith, rw e at l.invariant.2)

pub put_atoms_spec : {M : Type 1} → statement M
put_atoms_spec =
    tie.close
    (tie.spec
    invariant-loop
    decreases-loop
    loop-holds
    mul-atom
    array-copy-out-atom
    mul-put-linked
    add-put-linked
    put-linked-requires
    add-k
    loop-less
    loop-again
    mul-result
    add-result
    same_length
    returns)
