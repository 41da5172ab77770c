-- Invariant: the pattern of the first k places is mixed in.
use Rattle.std.proofs.Common.{◌≡◌, map, take}
use Rattle.colours.specs.Colours.{first_at}
use Rattle.colours.specs.Mixed.{seed, mixed, mixed_all}
use Rattle.colours.proofs.atom.first_colour.Given as goal

abbrev pub invariant-loop-k : goal.invariant-loop-k
invariant-loop-k l = l.colour ≡ mixed_all (mixed (mixed seed l.atom.name) l.size) (map (λ x. first_at x (take l.atom.count l.atom.links)) (take l.k l.atom.links))
