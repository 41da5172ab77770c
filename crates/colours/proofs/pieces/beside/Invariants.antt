-- Invariant: the atoms on the first k links.
use Rattle.std.proofs.Common.{ℕ, ◌+◌, ◌-◌, ◌*◌, ◌↔◌, get_or}
use Rattle.rows.specs.Format.{most_links}
use Rattle.rows.specs.Limits.{sheet_link_limit}
use Rattle.candidates.specs.Laid.{link_of}
use Rattle.candidates.specs.Words.{In}
use Rattle.colours.proofs.PieceCode.{Some}
use Rattle.colours.proofs.pieces.beside.Given as goal

abbrev pub invariant-loop-k : goal.invariant-loop-k
invariant-loop-k l = (u : ℕ) → In l.all u ↔ Some (λ h v. Some (λ i x. In (get_or l.users (i * sheet_link_limit + (link_of l.atom h - 1)) 0) x) most_links v) l.k u
