-- Each pair of halves by itself.
use Rattle.std.proofs.Common.{suc, add-one, arith}
use Rattle.ways.proofs.Telling.{tells_none}
use Rattle.ways.proofs.crowded.crowded.Goals as goal

pub loop-side-init : goal.loop-side-init
loop-side-init c = let a = c.args in
    c.tell_marks.ensures a.parts.now a.rows (c.tell_links.ensures.3 a.marked.now a.marks (rw add-one (tells_none a.parts.now a.rows a.marked.now a.marks a.sets.now (suc a.links) (omega arith))))
