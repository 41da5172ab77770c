-- Invariant: the contexts from i on lack a filling first where all do.
use borrow.Author.Rules.{rules}
use native.Mathlib.Omega.{arith}
use Prim.Native.Nat.{suc, ◌≤◌, ◌+◌, ◌-◌}
use mathlib.Core.Path.{◌≡◌, refl, sym, ◌∙◌}
use mathlib.Core.List.{[]}
use lib.ListN.{length, get_or, take, drop}
use mathlib.Core.Bool.{true, false}
use borrow.Author.Tests.{eq-eqb, ne_eqb}
use Rattle.rows.specs.Format.{context_bound}
use Rattle.rows.specs.Limits.{context_room}
use Rattle.normalising.specs.NormalRows.{past_contexts}
use Rattle.numbering.proofs.Turns.{unmapped}
use Rattle.filling.specs.Parts.{first_unported}
use Rattle.filling.proofs.Loops.{lacking-next, lacking-end}
use Rattle.filling.proofs.part.first_lacking.Statement.{statement}
use Rattle.filling.proofs.part.first_lacking.Tie as tie

abbrev invariant-loop : tie.invariant-loop-i
invariant-loop count contexts ports i₀ i = (i ≤ count) × (length contexts ≡ context_room) × (length ports ≡ context_bound) × (first_unported ports (drop i (take count contexts)) ≡ first_unported ports (take count contexts))

abbrev decreases-loop : tie.decreases-loop-i
decreases-loop count contexts ports i₀ i = count - i

loop-holds : tie.Need-loop-i-init invariant-loop decreases-loop
loop-holds c = (search rules, search (rules, unmapped), search rules, refl)

mul-context : tie.Need-offset_bounds-contexts-i invariant-loop decreases-loop
mul-context c = omega (arith, c.requires.few)

array-copy-out-context : tie.Need-bounds-contexts-i invariant-loop decreases-loop
array-copy-out-context c = omega (arith, c.requires.few)

cast-if1 : tie.Need-overflow_cast-context invariant-loop decreases-loop
cast-if1 c = omega (arith, c.requires.number c.loop-i.i)

mul-if1 : tie.Need-offset_bounds-ports-context invariant-loop decreases-loop
mul-if1 c = omega (arith, c.requires.number c.loop-i.i)

array-read-if1 : tie.Need-bounds-ports-context invariant-loop decreases-loop
array-read-if1 c = omega (arith, c.requires.number c.loop-i.i)

add-if1 : tie.Need-overflow_add-context invariant-loop decreases-loop
add-if1 c = omega (arith, c.requires.count c.loop-i.i)

cast-result : tie.Need-overflow_cast-result invariant-loop decreases-loop
cast-result c = search rules

returns : tie.Need-returns-then-ports-context invariant-loop decreases-loop
returns c = let l = c in
    let s = l in
    let a = s.args in
    let x = get_or a.contexts l.loop-i.i past_contexts in
    sym (lacking-next [] a.contexts a.count l.loop-i.i past_contexts a.ports (omega (arith, l.loop-i.invariant.1, s.requires.few)) c.loop-i-test.true false
    (ne_eqb (get_or a.ports x.number 0) (suc x.count) (λ e. c.if-ports-context.true (e ∙ (let z : suc x.count ≡ x.count + 1 = omega arith in z))))) ∙ l.loop-i.invariant.3

add-i : tie.Need-overflow_add-i invariant-loop decreases-loop
add-i c = search rules

loop-less : tie.Need-loop-i-smaller invariant-loop decreases-loop
loop-less c = search rules

loop-again : tie.Need-loop-i-preserved invariant-loop decreases-loop
loop-again c = let l = c in
    let s = l in
    let a = s.args in
    let x = get_or a.contexts l.loop-i.i past_contexts in (
      search rules,
      l.loop-i.invariant.1,
      l.loop-i.invariant.2,
      sym (lacking-next [] a.contexts a.count l.loop-i.i past_contexts a.ports (omega (arith, l.loop-i.invariant.1, s.requires.few)) c.loop-i-test.true true
          (eq-eqb (get_or a.ports x.number 0) (suc x.count) (c.if-ports-context.false ∙ (let z : x.count + 1 ≡ suc x.count = omega arith in z)))) ∙ l.loop-i.invariant.3,
    )

returns-2 : tie.Need-returns invariant-loop decreases-loop
returns-2 c = let l = c in
    let a = l.args in
    sym (lacking-end [] a.contexts a.count l.loop-i.i past_contexts a.ports c.loop-i-test.false) ∙ l.loop-i.invariant.3

pub first_lacking_spec : {M : Type 1} → statement M
first_lacking_spec =
    tie.close
    (tie.spec
    invariant-loop
    decreases-loop
    loop-holds
    mul-context
    array-copy-out-context
    cast-if1
    mul-if1
    array-read-if1
    add-if1
    cast-result
    returns
    add-i
    loop-less
    loop-again
    returns-2)
