use borrow.Author.Rules.{rules}
use Prim.Native.Nat.{ℕ}
use mathlib.Core.Path.{ap, ◌∙◌}
use native.Mathlib.Omega.{arith}
use native.Mathlib.Nat.{add-sub_cancel_left}
use lib.ListN.{take, drop, length-take, length-drop}
use Rattle.rows.specs.Format.{row_width}
use Rattle.rows.specs.Row.{row_of}
use Rattle.sheet.proofs.judge.row_at.Statement.{statement}
use Rattle.sheet.proofs.judge.row_at.Tie as tie

none-requires : tie.Need-none-requires
none-requires c κs = search rules

returns : tie.Need-returns-then-cut
returns c = rw c.if-cut.true c.none.ensures

add-read-row : tie.Need-overflow_add-at
add-read-row c = let s = c in omega (arith, s.requires c.if-cut.false)

sub-read-row : tie.Need-slice_bounds-read_row-count
sub-read-row c = search rules

part-read-row-start : tie.Need-slice_bounds-read_row-start
part-read-row-start c = search rules

part-read-row-end : tie.Need-slice_bounds-read_row-end
part-read-row-end c = let s = c in omega (arith, s.requires c.if-cut.false)

read-row-requires : tie.Need-read_row-requires
read-row-requires c κs = search rules

returns-2 : tie.Need-returns
returns-2 c = let a = c.args in
    rw c.if-cut.false (c.read_row.ensures ∙ ap (λ (n : ℕ). row_of (take n (drop a.at a.text.now))) (add-sub_cancel_left a.at row_width))

pub row_at_spec : {M : Type 1} → statement M
row_at_spec =
    tie.close
    (tie.spec
    none-requires
    returns
    add-read-row
    sub-read-row
    part-read-row-start
    part-read-row-end
    read-row-requires
    returns-2)
