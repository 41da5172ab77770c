-- Invariant: the set of the links so far.
use Prim.Native.Nat.{◌≤◌}
use Rattle.candidates.proofs.PortRows.{Placed}
use Rattle.candidates.proofs.ports.set_of.Given as goal

abbrev pub invariant-loop-k : goal.invariant-loop-k
invariant-loop-k l = (l.k ≤ l.count) × Placed l.links l.k l.set
