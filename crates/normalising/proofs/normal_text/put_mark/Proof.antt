-- `normal_text::put_mark` meets its contract: one row with two numbers. Assumes nothing.
use native.Mathlib.Omega.{arith}
use lib.ListN.{replicate}
use Rattle.rows.specs.Format.{most_links}
use Rattle.normalising.proofs.normal_text.NormalRows.{two-narrow}
use borrow.Author.Rules.{rules}
use Rattle.normalising.proofs.normal_text.put_mark.Statement.{statement}
use Rattle.normalising.proofs.normal_text.put_mark.Tie as tie

array-write-nums : tie.Need-bounds-nums-0
array-write-nums c = search rules

array-write-nums-2 : tie.Need-bounds-nums-1
array-write-nums-2 c = search rules

put-row-requires : tie.Need-put_row-requires
put-row-requires c κs = let s = c in
    (search rules, (omega arith, two-narrow s.args.link s.args.mark (replicate most_links 0) s.requires.1.0 s.requires.1.1))

same_length : tie.Need-shape_of-out
same_length c = search rules

returns : tie.Need-returns
returns c = search rules

pub put_mark_spec : {M : Type 1} → statement M
put_mark_spec =
    tie.close (tie.spec array-write-nums array-write-nums-2 put-row-requires same_length returns)
