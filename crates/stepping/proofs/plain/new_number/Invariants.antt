-- `plain::new_number` meets its contract. The loop's invariant: the first d numbers differ from this. Assumes nothing.
use Prim.Native.Nat.{ℕ, ◌<◌}
use mathlib.Core.Logic.{◌≢◌}
use lib.ListN.{get_or}
use Rattle.stepping.proofs.plain.new_number.Given as goal

abbrev pub invariant-loop-d : goal.invariant-loop-d
invariant-loop-d l = (i : ℕ) → i < l.d → get_or l.numbers i 0 ≢ get_or l.numbers l.c 0
