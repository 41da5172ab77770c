-- Invariant: the table has the users of the first t atoms.
use Prim.Native.Nat.{◌*◌}
use mathlib.Core.Path.{◌≡◌}
use lib.ListN.{length}
use Rattle.rows.specs.Format.{most_links}
use Rattle.rows.specs.Limits.{sheet_link_limit}
use Rattle.narrowing.specs.Users.{UsersIn}
use Rattle.narrowing.proofs.users.users_of.Given as goal

abbrev pub invariant-loop-t : goal.invariant-loop-t
invariant-loop-t l = (length l.users ≡ most_links * sheet_link_limit) × UsersIn l.laid l.t l.users
