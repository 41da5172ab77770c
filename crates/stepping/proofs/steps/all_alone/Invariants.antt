-- Invariant: no two of the links so far meet, and where they go is flagged.
use mathlib.Core.Path.{◌≡◌}
use lib.ListN.{length}
use Rattle.rows.specs.Limits.{sheet_link_limit}
use Rattle.stepping.proofs.Alone.{AloneTo}
use Rattle.stepping.proofs.steps.all_alone.Given as goal

abbrev pub invariant-loop-x : goal.invariant-loop-x
invariant-loop-x l = (length l.met ≡ sheet_link_limit) × AloneTo l.to l.none l.x l.met
