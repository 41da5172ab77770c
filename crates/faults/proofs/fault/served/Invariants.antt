-- Invariant: the atoms so far are taken or have their least context.
use Prim.Native.Nat.{ℕ, ◌<◌}
use mathlib.Core.Path.{◌≡◌}
use mathlib.Core.Logic.{◌⊎◌}
use lib.ListN.{length, get_or}
use Rattle.rows.specs.Limits.{sheet_atom_limit}
use Rattle.placing.specs.Net.{Net}
use Rattle.placing.specs.Placing.{Placing}
use Rattle.faults.specs.Grows.{Tables}
use Rattle.faults.specs.Gives.{given, TakenFlags, HeldIn, GivenAt}
use Rattle.faults.proofs.fault.served.Given as goal

abbrev pub invariant-loop-j : goal.invariant-loop-j
invariant-loop-j l = (length l.done ≡ sheet_atom_limit) × (length l.contexts ≡ sheet_atom_limit) × ((S F : Net) (q : Placing) → HeldIn S F l.laid l.atoms l.links (λ i. get_or l.numbers i 0) l.rows → Tables S F q l.chains l.used l.ports l.atoms l.rows → TakenFlags S F q l.atoms l.taken → GivenAt S F q (given l.contexts l.done) × ((i : ℕ) → i < l.j → (get_or l.taken i 0 ≡ 1) ⊎ (get_or l.done i 0 ≡ 1)))
