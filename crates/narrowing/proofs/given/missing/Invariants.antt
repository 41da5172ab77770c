-- Invariant: no atom of the row has a link that is in the pair.
use Prim.Native.Nat.{ℕ, ◌+◌, ◌*◌, ◌<◌}
use lib.ListN.{get_or}
use Rattle.rows.specs.Limits.{sheet_link_limit}
use Rattle.candidates.specs.Words.{In, InPair}
use Rattle.narrowing.proofs.given.missing.Given as goal

abbrev pub invariant-loop-rest : goal.invariant-loop-rest
invariant-loop-rest l = (y : ℕ) → y < sheet_link_limit → InPair l.pair y → (t : ℕ) → In l.row t → ¬ In (get_or l.users (l.k * sheet_link_limit + y) 0) t

abbrev pub decreases-loop-rest : goal.decreases-loop-rest
decreases-loop-rest l = l.rest
