-- Invariant: the first t flags are shut.
use Rattle.std.proofs.Common.{◌≡◌, length}
use Rattle.rows.specs.Limits.{sheet_atom_limit}
use Rattle.ways.proofs.Guarding.{ShutTo}
use Rattle.ways.proofs.guarded.shut.Given as goal

abbrev pub invariant-loop-t : goal.invariant-loop-t
invariant-loop-t l = (length l.taken ≡ sheet_atom_limit) × ShutTo l.initial.taken l.taken l.t
