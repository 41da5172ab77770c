-- `remaining::settled_cuts` meets its contract. The loop's invariant: the contexts of the atoms stay in their words. Assumes nothing.
use Prim.Native.Nat.{ℕ, ◌≤◌}
use mathlib.Core.Path.{◌≡◌}
use mathlib.Core.List.{List}
use lib.ListN.{length}
use Rattle.rows.specs.Limits.{sheet_atom_limit}
use Rattle.placing.specs.Net.{Net}
use Rattle.stepping.specs.Chains.{Chained}
use Rattle.remaining.specs.Allowing.{Allows, SettledIn}
use Rattle.remaining.proofs.remaining.settled_cuts.Given as goal

abbrev pub invariant-loop-x : goal.invariant-loop-x
invariant-loop-x l = (l.x ≤ l.count) × (length l.words ≡ sheet_atom_limit) × ((S : Net) (n : ℕ) → Chained S n l.chains → (taken : List ℕ) (digits : ℕ → ℕ) → SettledIn S taken digits l.standing l.flags l.to l.count l.none → Allows S taken digits l.initial.words → Allows S taken digits l.words)
