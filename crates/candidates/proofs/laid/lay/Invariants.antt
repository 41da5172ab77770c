-- Invariant: the first i atoms stand in their rows, and nothing beyond the atoms has changed.
use Prim.Native.Nat.{ℕ, ◌≤◌, ◌*◌, ◌<◌}
use lib.ListN.{length, get_or}
use Rattle.rows.specs.Format.{field_count}
use Rattle.rows.specs.Limits.{sheet_atom_limit}
use mathlib.Core.Path.{◌≡◌}
use Rattle.network.specs.NetIn.{atom_at}
use Rattle.candidates.specs.Laid.{laid_atom}
use Rattle.candidates.proofs.laid.lay.Given as goal

abbrev pub invariant-loop-i : goal.invariant-loop-i
invariant-loop-i l = (l.i ≤ l.net.atom_count) × (length l.laid ≡ sheet_atom_limit * field_count) × ((j : ℕ) → j < l.i → laid_atom l.laid j ≡ atom_at l.net j) × ((q : ℕ) → l.net.atom_count * field_count ≤ q → get_or l.laid q 0 ≡ get_or l.initial.laid q 0)
