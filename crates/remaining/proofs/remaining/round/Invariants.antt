-- `remaining::round` meets its contract. The loop's invariant: the contexts of the atoms stay in their words. Assumes nothing.
use Prim.Native.Nat.{ℕ, ◌≤◌}
use mathlib.Core.Path.{◌≡◌}
use lib.ListN.{length}
use Rattle.rows.specs.Limits.{sheet_atom_limit}
use Rattle.placing.specs.Net.{Net}
use Rattle.stepping.specs.Chains.{Chained}
use Rattle.remaining.specs.Allowing.{Allows, Together}
use Rattle.remaining.proofs.remaining.round.Given as goal

abbrev pub invariant-loop-y : goal.invariant-loop-y
invariant-loop-y l = (l.y ≤ l.links) × (length l.words ≡ sheet_atom_limit) × ((S : Net) (n : ℕ) → Chained S n l.chains → (digits : ℕ → ℕ) → Together S l.taken digits l.table l.used → Allows S l.taken digits l.initial.words → Allows S l.taken digits l.words)
