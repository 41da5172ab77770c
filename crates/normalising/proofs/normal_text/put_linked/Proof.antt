-- `normal_text::put_linked` meets its contract: one row with the numbers that `row_numbers` lays out. Assumes nothing.
use mathlib.Core.Path.{◌∙◌}
use native.Mathlib.Omega.{arith}
use Rattle.normalising.proofs.normal_text.NormalRows.{linked-taken, linked-narrow}
use borrow.Author.Rules.{rules}
use Rattle.normalising.proofs.normal_text.put_linked.Statement.{statement}
use Rattle.normalising.proofs.normal_text.put_linked.Tie as tie

row-numbers-requires : tie.Need-row_numbers-nums-requires
row-numbers-requires c κs = search rules

add-put-row : tie.Need-overflow_add-count
add-put-row c = search rules

put-row-requires : tie.Need-put_row-requires
put-row-requires c κs = let s = c in
    let a = s.args in
    (search rules, (omega (arith, s.requires.1.counted), rw c.row_numbers-nums.ensures (linked-narrow a.first a.count a.links s.requires.1)))

same_length : tie.Need-shape_of-out
same_length c = search rules

returns : tie.Need-returns
returns c = let n = c in
    let a = n.args in
    c.put_row.ensures ∙ rw (n.row_numbers-nums.ensures, linked-taken a.first a.count a.count a.links)

pub put_linked_spec : {M : Type 1} → statement M
put_linked_spec =
    tie.close (tie.spec row-numbers-requires add-put-row put-row-requires same_length returns)
