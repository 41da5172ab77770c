-- Invariant: the first t atoms have their first colours, the others their sizes.
use Rattle.std.proofs.Common.{◌≡◌, length, get_or, take}
use Rattle.rows.specs.Limits.{sheet_atom_limit}
use Rattle.candidates.specs.Laid.{laid_atom}
use Rattle.colours.specs.Colours.{pattern}
use Rattle.colours.specs.Mixed.{mixing}
use Rattle.colours.proofs.RoundCode.{Stored}
use Rattle.colours.proofs.round.first_atoms.Given as goal

abbrev pub invariant-loop-t : goal.invariant-loop-t
invariant-loop-t l = (length l.atoms ≡ sheet_atom_limit)
    × Stored (λ u. mixing.atom_first (laid_atom l.laid u).name (get_or l.initial.atoms u 0) (pattern (take (laid_atom l.laid u).count (laid_atom l.laid u).links))) l.initial.atoms l.atoms l.t
