-- `remaining::unused_cut` meets its contract. Assumes nothing.
use Rattle.remaining.proofs.AllowLaws.{shared-all}
use Rattle.remaining.proofs.remaining.unused_cut.Goals as goal

pub returns : goal.returns
returns c = let a = c.args in (
  c.cut.ensures.0,
  λ S n k digits g w. c.cut.ensures.1 S n k a.taken.now digits (shared-all S a.taken.now digits a.table.now a.used.now a.words.now g w a.y c.if-used-y-eq1.false c.shared-word.result (c.shared-word.ensures S n k)) w,
)
