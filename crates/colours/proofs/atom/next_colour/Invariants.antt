-- Invariant: the colours of the first k links are mixed in.
use Rattle.std.proofs.Common.{◌≡◌, map, take}
use Rattle.colours.specs.Mixed.{mixed_all}
use Rattle.colours.specs.Arrays.{link_colour}
use Rattle.colours.proofs.atom.next_colour.Given as goal

abbrev pub invariant-loop-k : goal.invariant-loop-k
invariant-loop-k l = l.colour ≡ mixed_all l.before (map (link_colour l.links) (take l.k l.atom.links))
