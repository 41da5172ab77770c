-- Invariant: the links so far are flagged.
use mathlib.Core.Path.{◌≡◌}
use lib.ListN.{length}
use Rattle.rows.specs.Limits.{sheet_link_limit}
use Rattle.stepping.specs.Flags.{SentTo}
use Rattle.stepping.proofs.Tables.{Marked}
use Rattle.stepping.proofs.lookup.used_links.Given as goal

abbrev pub invariant-loop-x : goal.invariant-loop-x
invariant-loop-x l = (length l.flags ≡ sheet_link_limit) × Marked (λ p. ⊥) (SentTo l.to l.none) l.x l.flags
