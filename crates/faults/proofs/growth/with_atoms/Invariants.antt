-- Invariant: the atoms of the nodes so far, which are those on the link, joined.
use Prim.Native.Nat.{◌≤◌, ◌<◌}
use mathlib.Core.Logic.{◌≢◌}
use Rattle.rows.specs.Limits.{sheet_link_limit}
use Rattle.stepping.specs.Chains.{node_of}
use Rattle.faults.specs.Grows.{growth, Sized, Longer, WithAtoms}
use Rattle.faults.proofs.growth.with_atoms.Given as goal

abbrev pub invariant-loop-v : goal.invariant-loop-v
invariant-loop-v l = (l.v < node_of l.atoms 0) × (l.v ≢ 0 → sheet_link_limit ≤ l.v) × Sized l.atoms (growth l.order l.next l.way) × Longer (growth l.initial.order l.count l.initial.way) (growth l.order l.next l.way) × WithAtoms l.chains l.y l.atoms l.v (growth l.initial.order l.count l.initial.way) (growth l.order l.next l.way)

abbrev pub decreases-loop-v : goal.decreases-loop-v
decreases-loop-v l = l.v
