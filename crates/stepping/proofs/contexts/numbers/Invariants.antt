-- Invariant: the numbers so far.
use Prim.Native.Nat.{ℕ, ◌<◌}
use mathlib.Core.Path.{◌≡◌}
use lib.ListN.{length, get_or}
use Rattle.rows.specs.Limits.{context_room}
use Rattle.stepping.specs.Contexts.{number_of}
use Rattle.stepping.proofs.contexts.numbers.Given as goal

abbrev pub invariant-loop-c : goal.invariant-loop-c
invariant-loop-c l = (length l.list ≡ context_room) × ((i : ℕ) → i < l.c → get_or l.list i 0 ≡ number_of l.contexts i)
