-- Invariant: the first k places are looked up.
use Prim.Native.Nat.{◌*◌}
use mathlib.Core.Path.{◌≡◌}
use lib.ListN.{length}
use Rattle.rows.specs.Format.{most_links}
use Rattle.candidates.specs.Laid.{laid_atom}
use Rattle.narrowing.specs.Steps.{GivenTable}
use Rattle.narrowing.proofs.spread.look_up.Given as goal

abbrev pub invariant-loop-k : goal.invariant-loop-k
invariant-loop-k l = (length l.table ≡ most_links * 2) × GivenTable (laid_atom l.laid) l.n l.row l.k l.table
