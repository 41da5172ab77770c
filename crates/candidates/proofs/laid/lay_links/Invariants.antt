-- Invariant: the first k links stand in their row, and nothing else has changed.
use Prim.Native.Nat.{ℕ, ◌≤◌, ◌+◌, ◌*◌, ◌<◌}
use lib.ListN.{length, get_or}
use mathlib.Core.Path.{◌≡◌}
use mathlib.Core.Logic.{◌≢◌}
use Rattle.rows.specs.Limits.{sheet_atom_limit}
use Rattle.rows.specs.Format.{most_links, field_count}
use Rattle.candidates.specs.Laid.{laid_at}
use Rattle.candidates.proofs.laid.lay_links.Given as goal

abbrev pub invariant-loop-k : goal.invariant-loop-k
invariant-loop-k l = (l.k ≤ most_links) × (length l.laid ≡ sheet_atom_limit * field_count) × ((h : ℕ) → h < l.k → laid_at l.laid l.i (2 + h) ≡ get_or l.links h 0) × ((q : ℕ) → ((h : ℕ) → h < most_links → q ≢ l.i * field_count + (2 + h)) → get_or l.laid q 0 ≡ get_or l.initial.laid q 0)
