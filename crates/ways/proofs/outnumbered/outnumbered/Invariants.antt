-- Each pair of halves by itself.
use Rattle.ways.proofs.outnumbered.outnumbered.Given as goal

abbrev pub decreases-loop-side : goal.decreases-loop-side
decreases-loop-side l = l.side
