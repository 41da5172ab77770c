-- `write::put_field` meets its contract: the four columns of the number, or four spaces. Assumes nothing.
use mathlib.Core.Path.{◌∙◌}
use Rattle.writing.specs.RowText.{field_bytes}
use borrow.Author.Rules.{rules}
use Rattle.writing.proofs.write.put_field.Statement.{statement}
use Rattle.writing.proofs.write.put_field.Tie as tie

column-at-requires : tie.Need-column_at-thousands-requires
column-at-requires c κs = search rules

column-at-requires-2 : tie.Need-column_at-hundreds-requires
column-at-requires-2 c κs = search rules

column-at-requires-3 : tie.Need-column_at-tens-requires
column-at-requires-3 c κs = search rules

cast-put-columns : tie.Need-overflow_cast-n
cast-put-columns c = search rules

add-put-columns : tie.Need-overflow_add-n
add-put-columns c = search rules

put-columns-requires : tie.Need-put_columns-requires
put-columns-requires c κs = search rules

put-columns-requires-2 : tie.Need-put_columns-requires-else-filled
put-columns-requires-2 c κs = search rules

same_length : tie.Need-shape_of-out-then-filled
same_length c = search rules

returns : tie.Need-returns-then-filled
unfolding field_bytes
returns c = let k = c in
    c.put_columns.ensures ∙ rw (k.if-filled.true, k.column_at-tens.ensures, k.column_at-hundreds.ensures, k.column_at-thousands.ensures)

same-length-2 : tie.Need-shape_of-out-else-filled
same-length-2 c = search rules

returns-2 : tie.Need-returns-else-filled
returns-2 c = c.put_columns-else-filled.ensures ∙ rw c.if-filled.false

pub put_field_spec : {M : Type 1} → statement M
put_field_spec =
    tie.close
    (tie.spec
    column-at-requires
    column-at-requires-2
    column-at-requires-3
    cast-put-columns
    add-put-columns
    put-columns-requires
    put-columns-requires-2
    same_length
    returns
    same-length-2
    returns-2)
