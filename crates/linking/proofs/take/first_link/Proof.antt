-- Invariant: none of the first f fields holds a link.
use borrow.Author.Rules.{rules}
use Prim.Native.Nat.{◌≤◌, ◌+◌, ◌-◌}
use mathlib.Core.Path.{◌≡◌}
use native.Mathlib.Omega.{arith}
use lib.ListN.{length, drop}
use Rattle.rows.specs.Format.{field_count}
use Rattle.linking.specs.Steps.{first_link_in}
use Rattle.linking.proofs.RowLinks.{first-hit, first-miss, first-end}
use Rattle.linking.proofs.take.first_link.Statement.{statement}
use Rattle.linking.proofs.take.first_link.Tie as tie

abbrev invariant-loop : tie.invariant-loop-f
invariant-loop own f₀ f = (f ≤ field_count) × (length own ≡ field_count) × (first_link_in own ≡ f + first_link_in (drop f own))

abbrev decreases-loop : tie.decreases-loop-f
decreases-loop own f₀ f = field_count - f

loop-holds : tie.Need-loop-f-init invariant-loop decreases-loop
loop-holds c = (omega arith, search rules, omega arith)

mul-if1 : tie.Need-offset_bounds-own-f invariant-loop decreases-loop
mul-if1 c = search rules

element-copy-out-if1 : tie.Need-bounds-own-f invariant-loop decreases-loop
element-copy-out-if1 c = search rules

returns : tie.Need-returns-then-own-f invariant-loop decreases-loop
returns c = let l = c in
    omega (arith, l.loop-f.invariant.2, first-hit l.args.own l.loop-f.f (omega (arith, l.loop-f.invariant.1, c.loop-f-test.true)) c.if-own-f.true)

add-f : tie.Need-overflow_add-f invariant-loop decreases-loop
add-f c = search rules

loop-less : tie.Need-loop-f-smaller invariant-loop decreases-loop
loop-less c = search rules

loop-again : tie.Need-loop-f-preserved invariant-loop decreases-loop
loop-again c = let l = c in (
  omega (arith, c.loop-f-test.true),
  l.loop-f.invariant.1,
  omega (arith, l.loop-f.invariant.2, first-miss l.args.own l.loop-f.f (omega (arith, l.loop-f.invariant.1, c.loop-f-test.true)) c.if-own-f.false),
)

returns-2 : tie.Need-returns invariant-loop decreases-loop
returns-2 c = let l = c in
    omega (arith, l.loop-f.invariant.2, first-end l.args.own l.loop-f.f (omega (arith, l.loop-f.invariant.1, c.loop-f-test.false)))

pub first_link_spec : {M : Type 1} → statement M
first_link_spec =
    tie.close
    (tie.spec
    invariant-loop
    decreases-loop
    loop-holds
    mul-if1
    element-copy-out-if1
    returns
    add-f
    loop-less
    loop-again
    returns-2)
