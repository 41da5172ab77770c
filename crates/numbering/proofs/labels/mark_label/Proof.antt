-- The class at the mark's place.
use lib.ListN.{get_or}
use native.Mathlib.Omega.{arith}
use Rattle.rows.proofs.Lists.{index_below}
use borrow.Author.Rules.{rules}
use Rattle.numbering.proofs.labels.mark_label.Statement.{statement}
use Rattle.numbering.proofs.labels.mark_label.Tie as tie

index-of-requires : tie.Need-index_of-p-requires
index-of-requires c κs = search rules

mul-i : tie.Need-offset_bounds-marked-p
mul-i c = let a = c.args in omega (arith, c.index_of-p.ensures, index_below a.m a.n a.marks.now)

shared-slice-read-i : tie.Need-bounds-marked-p
shared-slice-read-i c = let a = c.args in omega (arith, c.index_of-p.ensures, index_below a.m a.n a.marks.now)

cast-i : tie.Need-overflow_cast-i
cast-i c = let s = c in search (rules, s.requires.3 c.index_of-p.result)

mul-result : tie.Need-offset_bounds-classes-i
mul-result c = let s = c in omega (arith, s.requires.3 c.index_of-p.result)

shared-slice-read-result : tie.Need-bounds-classes-i
shared-slice-read-result c = let s = c in omega (arith, s.requires.3 c.index_of-p.result)

cast-result : tie.Need-overflow_cast-result
cast-result c = let s = c in search (rules, s.requires.4 (get_or s.args.marked.now c.index_of-p.result 0))

returns : tie.Need-returns
returns c = rw c.index_of-p.ensures

pub mark_label_spec : {M : Type 1} → statement M
mark_label_spec =
    tie.close
    (tie.spec
    index-of-requires
    mul-i
    shared-slice-read-i
    cast-i
    mul-result
    shared-slice-read-result
    cast-result
    returns)
