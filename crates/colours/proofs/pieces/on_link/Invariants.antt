-- Invariant: the atoms that have the link at one of the first k places.
use Rattle.std.proofs.Common.{ℕ, ◌+◌, ◌*◌, ◌↔◌, get_or}
use Rattle.rows.specs.Limits.{sheet_link_limit}
use Rattle.candidates.specs.Words.{In}
use Rattle.colours.proofs.PieceCode.{Some}
use Rattle.colours.proofs.pieces.on_link.Given as goal

abbrev pub invariant-loop-k : goal.invariant-loop-k
invariant-loop-k l = (u : ℕ) → In l.all u ↔ Some (λ h v. In (get_or l.users (h * sheet_link_limit + l.y) 0) v) l.k u
