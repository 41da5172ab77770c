-- Invariant: a connected part at whose links the contexts so far are cut off.
use Prim.Native.Nat.{ℕ, ◌<◌}
use lib.ListN.{replicate, set}
use Rattle.rows.specs.Limits.{sheet_atom_limit, sheet_link_limit}
use Rattle.faults.specs.Parts.{Stepped, Cut}
use Rattle.faults.proofs.part.part.Given as goal

abbrev pub invariant-loop-c : goal.invariant-loop-c
invariant-loop-c l = Stepped l.laid l.atoms l.links l.used (set (replicate sheet_atom_limit 0) l.root 1) (replicate sheet_link_limit 0) l.members l.seen × ((i : ℕ) → i < l.c → Cut l.seen l.used l.ports l.links i)
