-- One more row is told.
use Rattle.ways.proofs.told.tell_links.Goals as goal

pub loop-row-preserved : goal.loop-row-preserved
loop-row-preserved c = let t = c.tell_row.ensures in (t.0, t.1, t.2, λ marked m u. t.3 marked m (c.loop-row.invariant.3 marked m u))
