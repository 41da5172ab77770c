-- Invariant: the sets of the first i figure atoms have what is of their colours.
use Rattle.std.proofs.Common.{◌≡◌, ℕ, ◌<◌, length, get_or}
use Rattle.rows.specs.Limits.{sheet_atom_limit}
use Rattle.candidates.specs.Tables.{AtomIn}
use Rattle.colours.proofs.sets.atom_sets.Given as goal

abbrev pub invariant-loop-i : goal.invariant-loop-i
invariant-loop-i l = (length l.atoms ≡ sheet_atom_limit) × ((j u : ℕ) → j < l.i → u < l.n → get_or l.figure j 0 ≡ get_or l.sheet u 0 → AtomIn l.atoms j u)
