-- `filling::rows_end` meets its contract. The invariant: the rows passed, and those before the next H row from
-- here on, are the rows before the next H row from the start. Assumes nothing.
use borrow.Author.Rules.{rules}
use Prim.Native.Nat.{◌-◌}
use mathlib.Core.Bool.{true}
use native.Mathlib.Omega.{arith}
use borrow.Author.Tests.{eq-eqb}
use lib.ListN.{length}
use Rattle.sheet.proofs.part.FillingLaws.{before-short, before-row, Parted, parted-start, parted-row, parted-end}
use Rattle.sheet.proofs.part.rows_end.Statement.{statement}
use Rattle.sheet.proofs.part.rows_end.Tie as tie

abbrev invariant-loop : tie.invariant-loop-at
invariant-loop list from at₀ at = Parted list from at

abbrev decreases-loop : tie.decreases-loop-at
decreases-loop list from at₀ at = length list - at

loop-holds : tie.Need-loop-at-init invariant-loop decreases-loop
loop-holds c = parted-start c.args.list.now c.args.from c.requires

sub-if1 : tie.Need-overflow_sub-list invariant-loop decreases-loop
sub-if1 c = search rules

returns : tie.Need-returns-then-list-at-lt-ROW invariant-loop decreases-loop
returns c = let l = c in
    let s = l.args.list.now in
    parted-end s l.args.from l.loop-at.at l.loop-at.invariant (before-short s l.loop-at.at c.if-list-at-lt-ROW.true)

shared-slice-read-if2 : tie.Need-bounds-list-at invariant-loop decreases-loop
shared-slice-read-if2 c = search rules

returns-2 : tie.Need-returns-then-list-at-eq-HEAD_BYTE invariant-loop decreases-loop
returns-2 c = let l = c in
    let s = l.args.list.now in
    parted-end s l.args.from l.loop-at.at l.loop-at.invariant (before-row s l.loop-at.at (omega arith) true (eq-eqb _ _ c.if-list-at-eq-HEAD_BYTE.true))

add_at : tie.Need-overflow_add-at invariant-loop decreases-loop
add_at c = search rules

loop-less : tie.Need-loop-at-smaller invariant-loop decreases-loop
loop-less c = search rules

loop-again : tie.Need-loop-at-preserved invariant-loop decreases-loop
loop-again c = let l = c in
    parted-row l.args.list.now l.args.from l.loop-at.at l.loop-at.invariant (omega arith) c.if-list-at-eq-HEAD_BYTE.false

returns-3 : tie.Need-returns invariant-loop decreases-loop
returns-3 c = let l = c in
    let s = l.args.list.now in
    parted-end s l.args.from l.loop-at.at l.loop-at.invariant (before-short s l.loop-at.at (omega arith))

pub rows_end_spec : {M : Type 1} → statement M
rows_end_spec =
    tie.close
    (tie.spec
    invariant-loop
    decreases-loop
    loop-holds
    sub-if1
    returns
    shared-slice-read-if2
    returns-2
    add_at
    loop-less
    loop-again
    returns-3)
