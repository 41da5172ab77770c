-- Invariant: the links of the first i contexts are 0.
use Rattle.starting.specs.Steps.{PortsCleared}
use Rattle.starting.proofs.profile.closed_links.Given as goal

abbrev pub invariant-loop-i : goal.invariant-loop-i
invariant-loop-i l = PortsCleared l.contexts l.i l.closed
