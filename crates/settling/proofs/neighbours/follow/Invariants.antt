-- The loop's invariant: what is barred so far is so in every completion.
use Prim.Native.Nat.{ℕ, ◌<◌}
use mathlib.Core.Path.{◌≡◌}
use mathlib.Core.List.{List}
use lib.ListN.{length}
use Rattle.rows.specs.Limits.{sheet_link_limit}
use Rattle.rows.specs.declared.Sheet as form
use Rattle.settling.specs.Beyond.{Along}
use Rattle.settling.specs.Completes.{KeepsBars}
use Rattle.settling.proofs.neighbours.follow.Given as goal

abbrev pub invariant-loop-n : goal.invariant-loop-n
invariant-loop-n l = (l.at < l.nets.links) × (l.atom < l.nets.atoms) × ((sheet figure : form.Sheet) (to flags : List ℕ) → Along sheet figure l.nets l.laid l.chains l.kinds l.used to → length flags ≡ sheet_link_limit → KeepsBars sheet figure l.taken to flags l.initial.bars l.x l.bars)
