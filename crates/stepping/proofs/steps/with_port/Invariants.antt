-- Invariant: the links of the set that are not left are tied to this one, and labels stay bounded.
use mathlib.Core.Path.{◌≡◌}
use lib.ListN.{length}
use Rattle.rows.specs.Limits.{sheet_link_limit}
use Rattle.candidates.specs.Words.{PartOf, pair_size}
use Rattle.candidates.proofs.Members.{Seen}
use Rattle.stepping.specs.Labels.{Bounded, GrewWith, Tied}
use Rattle.stepping.proofs.steps.with_port.Given as goal

abbrev pub invariant-loop-rest : goal.invariant-loop-rest
invariant-loop-rest l = (length l.labels ≡ sheet_link_limit) × PartOf l.rest l.initial.rest × GrewWith l.to l.initial.rest l.a l.initial.labels l.labels × Seen (Tied l.to l.labels l.a) l.initial.rest l.rest × Bounded l.n l.labels

abbrev pub decreases-loop-rest : goal.decreases-loop-rest
decreases-loop-rest l = pair_size l.rest
