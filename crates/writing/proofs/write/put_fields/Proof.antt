-- `write::put_fields` meets its contract. The loop's invariant: the first f fields are written over the slip, and
-- the rest of it is as it was. Assumes nothing.
use Prim.Native.Nat.{◌≤◌, ◌-◌, ◌*◌}
use mathlib.Core.Path.{◌≡◌, refl, ◌∙◌}
use native.Mathlib.Omega.{arith}
use borrow.Author.Tests.{ltb-true}
use lib.ListN.{length, take}
use Rattle.rows.specs.Format.{field_width, field_count}
use Rattle.writing.specs.RowText.{fields_bytes}
use Rattle.writing.proofs.RowBytes.{over, over_none, fields-put}
use borrow.Author.Rules.{rules}
use Rattle.writing.proofs.write.put_fields.Statement.{statement}
use Rattle.writing.proofs.write.put_fields.Tie as tie

abbrev invariant-loop : tie.invariant-loop-f
invariant-loop out₀ at count nums f₀ out f = (f ≤ field_count) × (length out ≡ length out₀) × (out ≡ over out₀ at (fields_bytes f (take count nums)) (f * field_width))

abbrev decreases-loop : tie.decreases-loop-f
decreases-loop out₀ at count nums f₀ out f = field_count - f

loop-holds : tie.Need-loop-f-init invariant-loop decreases-loop
unfolding fields_bytes
loop-holds c = (omega arith, refl, over_none c.args.out.now c.args.at)

mul-put-field : tie.Need-overflow_mul-f invariant-loop decreases-loop
mul-put-field c = search rules

add-put-field : tie.Need-overflow_add-at invariant-loop decreases-loop
add-put-field c = search rules

mul-put-field-2 : tie.Need-offset_bounds-nums-f invariant-loop decreases-loop
mul-put-field-2 c = search rules

array-read-put-field : tie.Need-bounds-nums-f invariant-loop decreases-loop
array-read-put-field c = search rules

put-field-requires : tie.Need-put_field-requires invariant-loop decreases-loop
put-field-requires c κs = let l = c in
    let s = l in
    (omega (arith, l.loop-f.invariant.1, s.requires.0), λ e. s.requires.1.1 l.loop-f.f (ltb-true _ _ e))

add-f : tie.Need-overflow_add-f invariant-loop decreases-loop
add-f c = search rules

loop-less : tie.Need-loop-f-smaller invariant-loop decreases-loop
loop-less c = search rules

loop-again : tie.Need-loop-f-preserved invariant-loop decreases-loop
loop-again c = let p = c.put_field in
    let l = c in
    let s = l in
    let w : length s.args.nums ≡ field_count = search rules in (
      omega arith,
      p.auto.out ∙ l.loop-f.invariant.1,
      fields-put s.args.out.now p.new.out s.args.at s.args.nums s.args.count l.loop-f.f (omega (arith, s.requires.1.0)) c.loop-f-test.true s.requires.0 (rw l.loop-f.invariant.2 at p.ensures),
    )

same_length : tie.Need-shape_of-out invariant-loop decreases-loop
same_length c = search rules

returns : tie.Need-returns invariant-loop decreases-loop
returns c = let e : c.loop-f.f ≡ field_count = omega arith in
    rw e at c.loop-f.invariant.2

pub put_fields_spec : {M : Type 1} → statement M
put_fields_spec =
    tie.close
    (tie.spec
    invariant-loop
    decreases-loop
    loop-holds
    mul-put-field
    add-put-field
    mul-put-field-2
    array-read-put-field
    put-field-requires
    add-f
    loop-less
    loop-again
    same_length
    returns)
