-- `write::put_row` meets its contract: the letter and the newline are stored, the fields are put between them.
-- Assumes nothing.
use native.Mathlib.Omega.{arith}
use lib.ListN.{take, length-set}
use Rattle.writing.proofs.RowBytes.{row_put}
use borrow.Author.Rules.{rules}
use Rattle.writing.proofs.write.put_row.Statement.{statement}
use Rattle.writing.proofs.write.put_row.Tie as tie

slice-write-out : tie.Need-bounds-out-at
slice-write-out c = search rules

add-put-fields : tie.Need-overflow_add-at
add-put-fields c = search rules

put-fields-requires : tie.Need-put_fields-requires
put-fields-requires c κs = let s = c in
    (simp length-set (omega (arith, s.requires.0)), s.requires.1)

add-out : tie.Need-overflow_add-out
add-out c = search rules

sub_out : tie.Need-overflow_sub-out
sub_out c = search rules

slice-write-out-2 : tie.Need-bounds-out-at-2
slice-write-out-2 c = let s = c in
    omega (arith, c.put_fields.auto.out, length-set s.args.out.now s.args.at s.args.letter, s.requires.0)

same_length : tie.Need-shape_of-out
same_length c = simp length-set (simp length-set at c.put_fields.auto.out)

returns : tie.Need-returns
returns c = let p = c.put_fields in
    let s = c in
    row_put s.args.out.now p.new.out s.args.at s.args.letter (take s.args.count s.args.nums) s.requires.0 p.ensures

pub put_row_spec : {M : Type 1} → statement M
put_row_spec =
    tie.close
    (tie.spec
    slice-write-out
    add-put-fields
    put-fields-requires
    add-out
    sub_out
    slice-write-out-2
    same_length
    returns)
