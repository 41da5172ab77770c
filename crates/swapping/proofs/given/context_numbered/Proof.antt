-- Invariant: the context is not before place j.
use borrow.Author.Rules.{rules}
use native.Mathlib.Omega.{arith}
use Prim.Native.Nat.{ℕ, ◌≤◌, ◌<◌, ◌+◌, ◌-◌}
use mathlib.Core.Path.{◌≡◌, ap, sym, ◌∙◌}
use lib.ListN.{length}
use Rattle.rows.specs.Limits.{context_room}
use Rattle.numbering.proofs.Turns.{unmapped}
use Rattle.network.specs.NetIn.{row_at}
use Rattle.swapping.proofs.given.context_numbered.Statement.{statement}
use Rattle.swapping.proofs.given.context_numbered.Tie as tie

abbrev invariant-loop : tie.invariant-loop-j
invariant-loop count number contexts j₀ j = (length contexts ≡ context_room) × ((k : ℕ) × (j ≤ k) × (k < count) × ((row_at contexts k).number ≡ number))

abbrev decreases-loop : tie.decreases-loop-j
decreases-loop count number contexts j₀ j = count - j

loop-holds : tie.Need-loop-j-init invariant-loop decreases-loop
loop-holds c = let t = c.requires.1 in
    (search (rules, unmapped), (t.0, omega arith, t.1, t.2))

add-loop : tie.Need-overflow_add-j invariant-loop decreases-loop
add-loop c = let t = c.loop-j.invariant.1 in
    omega (arith, t.1, t.2, c.requires.0)

mul-if1 : tie.Need-offset_bounds-contexts-j invariant-loop decreases-loop
mul-if1 c = omega (arith, c.requires.0)

element-copy-out-if1 : tie.Need-bounds-contexts-j invariant-loop decreases-loop
element-copy-out-if1 c = omega (arith, c.requires.0)

returns : tie.Need-returns-then-contexts-j invariant-loop decreases-loop
returns c = (omega (arith, c.loop-j-test.true), c.if-contexts-j.true)

add-j : tie.Need-overflow_add-j-in-loop-j invariant-loop decreases-loop
add-j c = omega (arith, c.requires.0)

loop-less : tie.Need-loop-j-smaller invariant-loop decreases-loop
loop-less c = omega (arith, c.loop-j-test.true)

loop-again : tie.Need-loop-j-preserved invariant-loop decreases-loop
loop-again c = let l = c in
    let t = l.loop-j.invariant.1 in
    let a = l.args in
    let other : l.loop-j.j ≡ t.0 → ⊥ = λ e. c.if-contexts-j.false (ap (λ k. (row_at a.contexts k).number) e ∙ t.3) in
    (l.loop-j.invariant.0, (t.0, omega (arith, t.1, other), t.2, t.3))

returns-2 : tie.Need-returns invariant-loop decreases-loop
returns-2 c = let l = c in
    let t = l.loop-j.invariant.1 in
    let a = l.args in
    let e : t.0 ≡ l.loop-j.j = omega (arith, t.1, t.2, c.loop-j-test.false) in
    (omega (arith, t.2, e), ap (λ k. (row_at a.contexts k).number) (sym e) ∙ t.3)

pub context_numbered_spec : {M : Type 1} → statement M
context_numbered_spec = tie.close (tie.spec invariant-loop decreases-loop loop-holds add-loop mul-if1 element-copy-out-if1 returns add-j loop-less loop-again returns-2)
