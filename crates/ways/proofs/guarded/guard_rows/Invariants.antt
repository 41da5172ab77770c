-- Invariant: the rows so far.
use Rattle.std.proofs.Common.{◌≤◌}
use Rattle.ways.specs.Nodes.{GuardsTo}
use Rattle.ways.proofs.guarded.guard_rows.Given as goal

abbrev pub invariant-loop-row : goal.invariant-loop-row
invariant-loop-row l = (l.breaking ≤ l.row) × GuardsTo l.parts l.standing l.atoms l.n l.side l.row l.taken l.breaking
