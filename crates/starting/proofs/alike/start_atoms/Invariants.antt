-- Invariant: the sets of the first i figure atoms have what is alike.
use Prim.Native.Nat.{ℕ, ◌<◌}
use mathlib.Core.Path.{◌≡◌}
use lib.ListN.{length}
use Rattle.rows.specs.Limits.{sheet_atom_limit}
use Rattle.candidates.specs.Laid.{laid_atom}
use Rattle.candidates.specs.Tables.{AtomIn}
use Rattle.starting.specs.Steps.{Alike}
use Rattle.starting.proofs.alike.start_atoms.Given as goal

abbrev pub invariant-loop-i : goal.invariant-loop-i
invariant-loop-i l = (length l.atoms ≡ sheet_atom_limit) × ((j u : ℕ) → j < l.i → u < l.n → Alike (laid_atom l.figure j) (laid_atom l.sheet u) → AtomIn l.atoms j u)
