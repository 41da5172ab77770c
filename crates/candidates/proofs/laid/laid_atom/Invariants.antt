-- Invariant: the first k links are those of the row.
use Prim.Native.Nat.{ℕ, ◌≤◌, ◌+◌, ◌<◌}
use lib.ListN.{length, get_or}
use mathlib.Core.Path.{◌≡◌}
use Rattle.rows.specs.Format.{most_links}
use Rattle.candidates.specs.Laid.{laid_at}
use Rattle.candidates.proofs.laid.laid_atom.Given as goal

abbrev pub invariant-loop-k : goal.invariant-loop-k
invariant-loop-k l = (l.k ≤ most_links) × (length l.links ≡ most_links) × ((h : ℕ) → h < l.k → laid_at l.laid l.i (2 + h) ≡ get_or l.links h 0)
