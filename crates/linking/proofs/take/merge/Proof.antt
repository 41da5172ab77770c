-- Where both are one class already, nothing is left to be done.
use borrow.Author.Rules.{rules}
use Rattle.linking.proofs.Loops.{relabel-none}
use Rattle.linking.proofs.take.merge.Statement.{statement}
use Rattle.linking.proofs.take.merge.Tie as tie

mul-from : tie.Need-offset_bounds-classes-j
mul-from c = search rules

slice-read-from : tie.Need-bounds-classes-j
slice-read-from c = search rules

mul-to : tie.Need-offset_bounds-classes-i
mul-to c = search rules

slice-read-to : tie.Need-bounds-classes-i
slice-read-to c = search rules

returns : tie.Need-returns-then-from-to
returns c = let a = c.args in
    relabel-none _ _ a.n a.classes.now c.if-from-to.true

relabel-requires : tie.Need-relabel-requires
relabel-requires c κs = search rules

same_length : tie.Need-shape_of-classes
same_length c = search rules

returns-2 : tie.Need-returns
returns-2 c = search rules

pub merge_spec : {M : Type 1} → statement M
merge_spec =
    tie.close
    (tie.spec
    mul-from
    slice-read-from
    mul-to
    slice-read-to
    returns
    relabel-requires
    same_length
    returns-2)
