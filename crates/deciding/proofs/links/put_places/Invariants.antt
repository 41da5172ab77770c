-- Invariant: the first k places are put.
use Rattle.deciding.specs.Links.{PlacesIn}
use Rattle.deciding.proofs.links.put_places.Given as goal

abbrev pub invariant-loop-k : goal.invariant-loop-k
invariant-loop-k l = PlacesIn l.initial.to l.a l.b l.k l.to
