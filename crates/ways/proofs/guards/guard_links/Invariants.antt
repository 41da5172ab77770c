-- Invariant: what the figure links so far guard.
use Rattle.std.proofs.Common.{[], ◌∷◌}
use Rattle.ways.specs.Nodes.{GuardsLinksTo}
use Rattle.ways.proofs.guards.guard_links.Given as goal

abbrev pub invariant-loop-x : goal.invariant-loop-x
invariant-loop-x l = GuardsLinksTo l.sets l.opens l.standing l.flags l.side l.x (l.low ∷ l.high ∷ [])
