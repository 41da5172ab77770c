-- Invariant: a good placing in the first sets is in those left.
use Prim.Native.Nat.{ℕ}
use mathlib.Core.List.{List}
use Rattle.narrowing.specs.Steps.{NarrowedBy}
use Rattle.narrowing.proofs.follow.follow.Given as goal

abbrev pub invariant-loop : goal.invariant-loop
invariant-loop l = (kin : List ℕ) → NarrowedBy kin l.laid l.n l.parts l.m l.initial.atoms l.initial.links l.atoms l.links
