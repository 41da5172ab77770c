-- The loop's invariant: the links before x are settled.
use Rattle.rows.specs.declared.Sheet as form
use Rattle.settling.specs.Completes.{Tables}
use Rattle.settling.proofs.SettleLaws.{SettledTo}
use Rattle.settling.proofs.settle.settled.Given as goal

abbrev pub invariant-loop-x : goal.invariant-loop-x
invariant-loop-x l =
    (sheet figure : form.Sheet) → Tables sheet figure l.nets l.laid l.chains l.kinds l.standing l.to → SettledTo sheet figure l.taken l.to l.opened l.flags l.next l.rest l.several l.bars l.x
