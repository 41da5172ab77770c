-- Invariant: atom t is added at its first k places.
use Prim.Native.Nat.{◌*◌}
use mathlib.Core.Path.{◌≡◌}
use lib.ListN.{length}
use Rattle.rows.specs.Format.{most_links}
use Rattle.rows.specs.Limits.{sheet_link_limit}
use Rattle.narrowing.proofs.Adding.{Added}
use Rattle.narrowing.proofs.users.add_users.Given as goal

abbrev pub invariant-loop-k : goal.invariant-loop-k
invariant-loop-k l = (length l.users ≡ most_links * sheet_link_limit) × Added l.there l.t l.initial.users l.users l.k
