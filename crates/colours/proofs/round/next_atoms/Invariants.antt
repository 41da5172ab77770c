-- Invariant: the first t atoms have their next colours, the others those of before.
use Rattle.std.proofs.Common.{◌≡◌, map, length, get_or, take}
use Rattle.rows.specs.Limits.{sheet_atom_limit}
use Rattle.candidates.specs.Laid.{laid_atom}
use Rattle.colours.specs.Mixed.{mixed_all}
use Rattle.colours.specs.Arrays.{link_colour}
use Rattle.colours.proofs.RoundCode.{Stored}
use Rattle.colours.proofs.round.next_atoms.Given as goal

abbrev pub invariant-loop-t : goal.invariant-loop-t
invariant-loop-t l = (length l.atoms ≡ sheet_atom_limit)
    × Stored (λ u. mixed_all (get_or l.initial.atoms u 0) (map (link_colour l.links) (take (laid_atom l.laid u).count (laid_atom l.laid u).links))) l.initial.atoms l.atoms l.t
