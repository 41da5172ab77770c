-- Invariant: the links so far have the label of the first that goes to the same sheet link.
use mathlib.Core.Path.{◌≡◌}
use lib.ListN.{length}
use Rattle.rows.specs.Limits.{sheet_link_limit}
use Rattle.stepping.proofs.Owners.{Owners}
use Rattle.stepping.proofs.steps.untied.Given as goal

abbrev pub invariant-loop-x : goal.invariant-loop-x
invariant-loop-x l = (length l.owner ≡ sheet_link_limit) × Owners l.to l.labels l.none l.x l.owner
