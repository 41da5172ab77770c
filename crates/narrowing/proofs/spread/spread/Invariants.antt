-- Invariant: the table has what the last row gives, and a good placing in the first sets is in those left.
use Prim.Native.Nat.{ℕ, ◌*◌}
use mathlib.Core.Path.{◌≡◌}
use mathlib.Core.List.{List}
use lib.ListN.{length}
use Rattle.rows.specs.Format.{most_links}
use Rattle.candidates.specs.Laid.{laid_atom}
use Rattle.narrowing.specs.Steps.{GivenTable, NarrowedBy}
use Rattle.narrowing.proofs.spread.spread.Given as goal

abbrev pub invariant-loop-i : goal.invariant-loop-i
invariant-loop-i l =
    (length l.table ≡ most_links * 2) × GivenTable (laid_atom l.laid) l.n l.row l.known l.table × ((kin : List ℕ) → NarrowedBy kin l.laid l.n l.parts l.m l.atoms l.initial.links l.atoms l.links)
