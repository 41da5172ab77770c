-- Invariant: the atoms passed over are the same.
use Prim.Native.Nat.{ℕ, ◌<◌}
use mathlib.Core.Path.{◌≡◌}
use Rattle.network.specs.NetIn.{atom_in, atom_at}
use Rattle.rowwise.proofs.identical.identical.Given as goal

abbrev pub invariant-loop-i : goal.invariant-loop-i
invariant-loop-i l = (h : ℕ) → h < l.i → atom_in (atom_at l.a h) ≡ atom_in (atom_at l.b h)
