-- Invariant: the atoms so far have the context.
use Prim.Native.Nat.{ℕ}
use mathlib.Core.List.{List}
use Rattle.faults.specs.Grows.{growth}
use Rattle.faults.specs.Gives.{given, Gave}
use Rattle.faults.proofs.fault.give.Given as goal

abbrev pub invariant-loop-h : goal.invariant-loop-h
invariant-loop-h l = (members : List ℕ) → Gave (given l.initial.contexts l.initial.done) (growth l.order l.count members) l.number l.h (given l.contexts l.done)
