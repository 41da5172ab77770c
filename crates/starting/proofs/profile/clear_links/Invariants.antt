-- Invariant: what was 0 is, and so are the links that are not left.
use Rattle.std.proofs.Common.{◌≡◌, get_or}
use Rattle.candidates.specs.Words.{PartOf, pair_size}
use Rattle.candidates.specs.Tables.{StaysCleared}
use Rattle.candidates.proofs.Members.{Seen}
use Rattle.starting.proofs.profile.clear_links.Given as goal

abbrev pub invariant-loop-rest : goal.invariant-loop-rest
invariant-loop-rest l = PartOf l.rest l.initial.rest × StaysCleared l.initial.closed l.closed × Seen (λ x. get_or l.closed x 0 ≡ 0) l.initial.rest l.rest

abbrev pub decreases-loop-rest : goal.decreases-loop-rest
decreases-loop-rest l = pair_size l.rest
