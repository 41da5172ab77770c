-- No index leaves its array.
use Rattle.std.proofs.Common.{◌<◌}
use Rattle.rows.specs.Limits.{sheet_atom_limit}
use Rattle.faults.proofs.part.way_back.Given as goal

abbrev pub invariant-loop-n : goal.invariant-loop-n
invariant-loop-n l = l.j < sheet_atom_limit
