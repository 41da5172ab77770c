-- Invariant: the flags of the first x links are done.
use mathlib.Core.Path.{◌≡◌}
use lib.ListN.{length}
use Rattle.rows.specs.Limits.{sheet_link_limit}
use Rattle.deciding.specs.Several.{FlagsBeside}
use Rattle.deciding.proofs.several.flags_beside.Given as goal

abbrev pub invariant-loop-x : goal.invariant-loop-x
invariant-loop-x l = (length l.r ≡ sheet_link_limit) × FlagsBeside l.flags l.set l.x l.r
