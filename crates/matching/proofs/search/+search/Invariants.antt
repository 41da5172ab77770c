-- Invariant: every candidate that the walk has passed was tried in vain, and those that are marked fail. The measure of the
-- recursion is the count still unplaced.
use Rattle.std.proofs.Common.{◌-◌, ◌<◌, IfSome, take}
use Rattle.candidates.proofs.Walking.{reached}
use Rattle.matching.specs.Search.{sheet_of, figure_of}
use Rattle.matching.proofs.SearchTurns.{Tries}
use Rattle.matching.proofs.search.+search.Given as goal

abbrev pub decreases-search : goal.decreases-search
decreases-search l = l.state.figure.atom_count - l.state.placed

abbrev pub invariant-loop-candidate : goal.invariant-loop-candidate
invariant-loop-candidate l =
    record { below : IfSome l.candidate (λ t. t < l.n); tries : Tries (sheet_of l.state l.laid) (figure_of l.state l.parts) (take l.k l.placed) l.failed l.work (reached l.n l.candidate) }

abbrev pub decreases-loop-candidate : goal.decreases-loop-candidate
decreases-loop-candidate l = l.n - reached l.n l.candidate
