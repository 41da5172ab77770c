-- The loop's invariant: no sheet link before y will do, on any sheet and figure of which this is read.
use Rattle.rows.specs.declared.Sheet as form
use Rattle.settling.specs.Completes.{Tables, KeepsBars}
use Rattle.settling.proofs.Trying.{TriedAt}
use Rattle.settling.proofs.settle.first_link.Given as goal

abbrev pub invariant-loop-y : goal.invariant-loop-y
invariant-loop-y l =
    (sheet figure : form.Sheet) → Tables sheet figure l.nets l.laid l.chains l.kinds l.standing l.to → KeepsBars sheet figure l.taken l.to l.flags l.initial.bars l.x l.bars × TriedAt sheet figure l.taken l.to l.flags l.initial.bars l.x (λ z. Unit {0}) l.y
