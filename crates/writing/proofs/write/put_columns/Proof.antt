-- `write::put_columns` meets its contract: four stores, one after the other. Assumes nothing.
use native.Mathlib.Omega.{arith}
use lib.ListN.{length-set}
use Rattle.writing.proofs.RowBytes.{four-stored}
use borrow.Author.Rules.{rules}
use Rattle.writing.proofs.write.put_columns.Statement.{statement}
use Rattle.writing.proofs.write.put_columns.Tie as tie

slice-write-out : tie.Need-bounds-out-at
slice-write-out c = search rules

add-out : tie.Need-overflow_add-out
add-out c = search rules

slice-write-out-2 : tie.Need-bounds-out-at-2
slice-write-out-2 c = simp length-set (omega arith)

add-out-2 : tie.Need-overflow_add-out-2
add-out-2 c = search rules

slice-write-out-3 : tie.Need-bounds-out-at-3
slice-write-out-3 c = simp length-set (omega arith)

add-out-3 : tie.Need-overflow_add-out-3
add-out-3 c = search rules

slice-write-out-4 : tie.Need-bounds-out-at-4
slice-write-out-4 c = simp length-set (omega arith)

same_length : tie.Need-shape_of-out
same_length c = search rules

returns : tie.Need-returns
returns c = four-stored c.args.out.now c.args.at c.args.a c.args.b c.args.c c.args.d c.requires

pub put_columns_spec : {M : Type 1} → statement M
put_columns_spec =
    tie.close
    (tie.spec
    slice-write-out
    add-out
    slice-write-out-2
    add-out-2
    slice-write-out-3
    add-out-3
    slice-write-out-4
    same_length
    returns)
