-- A part of the buffer or, where all of it was written, the buffer.
use borrow.Author.Rules.{rules}
use native.Mathlib.Omega.{arith}
use mathlib.Core.Path.{sym}
use lib.ListN.{length-take}
use lib.Seq.{take_all}
use Rattle.answers.proofs.row.written_part.Statement.{statement}
use Rattle.answers.proofs.row.written_part.Tie as tie

slice-aggregate-result : tie.Need-slice_bounds-result-end
slice-aggregate-result c = simp length-take (omega arith)

returns : tie.Need-returns-then-n-out
returns c = search rules

returns-2 : tie.Need-returns-else-n-out
returns-2 c = let a = c.args in sym (take_all a.answer.bytes a.out.now (omega arith))

pub written_part_spec : {M : Type 1} → statement M
written_part_spec = tie.close (tie.spec slice-aggregate-result returns returns-2)
