-- Invariant: the links of the contexts so far are tied, labels say no more than ties, and they stay bounded.
use Prim.Native.Nat.{ℕ, ◌<◌}
use mathlib.Core.Path.{◌≡◌}
use lib.ListN.{length}
use Rattle.rows.specs.Limits.{sheet_link_limit}
use Rattle.candidates.specs.PortSets.{set_at}
use Rattle.stepping.specs.Labels.{Sound, Bounded, AllTied}
use Rattle.stepping.proofs.steps.step_labels.Given as goal

abbrev pub invariant-loop-c : goal.invariant-loop-c
invariant-loop-c l = (length l.labels ≡ sheet_link_limit) × Sound l.contexts l.count l.to l.labels × ((i : ℕ) → i < l.c → AllTied l.to (set_at l.contexts i).links l.labels) × Bounded l.n l.labels
