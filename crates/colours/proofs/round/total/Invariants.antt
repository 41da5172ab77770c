-- Invariants: the sum over the first t atoms, then over all atoms and the first x links.
use Rattle.std.proofs.Common.{◌≡◌, ◌+◌, ◌%◌}
use Rattle.network.specs.Sums.{sum_to}
use Rattle.colours.specs.Mixed.{word_size}
use Rattle.colours.specs.Arrays.{held}
use Rattle.colours.proofs.round.total.Given as goal

abbrev pub invariant-loop-t : goal.invariant-loop-t
invariant-loop-t l = l.sum ≡ (0 + sum_to (held l.atoms l.links).of_atom l.t) % word_size

abbrev pub invariant-loop-x : goal.invariant-loop-x
invariant-loop-x l = l.sum ≡ (sum_to (held l.atoms l.links).of_atom l.n + sum_to (held l.atoms l.links).of_link l.x) % word_size
