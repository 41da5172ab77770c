-- No index leaves its array.
use Rattle.std.proofs.Common.{◌<◌}
use Rattle.stepping.specs.Chains.{node_of}
use Rattle.ways.proofs.search.from_link.Given as goal

abbrev pub invariant-loop-v : goal.invariant-loop-v
invariant-loop-v l = l.v < node_of l.net.atoms 0

abbrev pub decreases-loop-v : goal.decreases-loop-v
decreases-loop-v l = l.v
