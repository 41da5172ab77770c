-- A known mark merges two links; a new one is stored with its link's place.
use borrow.Author.Rules.{rules}
use native.Mathlib.Omega.{arith}
use Rattle.rows.proofs.Lists.{index_below}
use Rattle.linking.proofs.Arrays.{mark-merged, mark-added}
use Rattle.linking.proofs.take.add_mark.Statement.{statement}
use Rattle.linking.proofs.take.add_mark.Tie as tie

index-of-requires : tie.Need-index_of-i-requires
index-of-requires c κs = search rules

index-of-requires-2 : tie.Need-index_of-p-requires
index-of-requires-2 c κs = search rules

mul-place : tie.Need-offset_bounds-marked-p
mul-place c = search rules

slice-read-place : tie.Need-bounds-marked-p
slice-read-place c = search rules

cast-place : tie.Need-overflow_cast-place
cast-place c = omega (arith, c.requires.2 c.index_of-p.result)

merge-requires : tie.Need-merge-requires
merge-requires c κs = let s = c in
    let a = s.args in
    (omega (arith, s.requires.0, s.requires.4), omega (arith, s.requires.4, s.requires.2 c.index_of-p.result), omega (arith, s.requires.0, s.requires.4, c.index_of-i.ensures, index_below a.a a.n a.links.now))

same_length : tie.Need-shape_of-classes-then-p-m
same_length c = search rules

same-length-2 : tie.Need-shape_of-marks-then-p-m
same-length-2 c = search rules

returns : tie.Need-returns-then-p-m
returns c = let a = c.args in
    let i = c.index_of-i in
    let p = c.index_of-p in
    λ w wired t. mark-merged w wired a.links.now a.classes.now a.n t.0 a.marks.now a.marked.now a.m t.1 a.a a.mark i.result p.result c.merge.new.classes i.ensures p.ensures c.if-p-m.true c.merge.ensures

mul-marks : tie.Need-offset_bounds-marks-m
mul-marks c = search rules

slice-write-marks : tie.Need-bounds-marks-m
slice-write-marks c = search rules

cast-marked : tie.Need-overflow_cast-marked
cast-marked c = let s = c in
    omega (arith, c.index_of-i.ensures, index_below s.args.a s.args.n s.args.links.now, s.requires.0)

mul-marked : tie.Need-offset_bounds-marked-m
mul-marked c = search rules

slice-write-marked : tie.Need-bounds-marked-m
slice-write-marked c = search rules

add-result : tie.Need-overflow_add-result
add-result c = search rules

same-length-3 : tie.Need-shape_of-marks
same-length-3 c = search rules

same-length-4 : tie.Need-shape_of-marked
same-length-4 c = search rules

returns-2 : tie.Need-returns
returns-2 c = let s = c in
    let a = s.args in
    let i = c.index_of-i in
    λ w wired t. mark-added w wired a.links.now a.classes.now a.n t.0 a.marks.now a.marked.now a.m t.1 a.a a.mark i.result i.ensures (rw c.index_of-p.ensures at c.if-p-m.false) (omega (arith, s.requires.1))

pub add_mark_spec : {M : Type 1} → statement M
add_mark_spec =
    tie.close
    (tie.spec
    index-of-requires
    index-of-requires-2
    mul-place
    slice-read-place
    cast-place
    merge-requires
    same_length
    same-length-2
    returns
    mul-marks
    slice-write-marks
    cast-marked
    mul-marked
    slice-write-marked
    add-result
    same-length-3
    same-length-4
    returns-2)
