-- Invariant: of the heads from i on the first with other marks is that of all.
use borrow.Author.Rules.{rules}
use borrow.Author.Tests.{not-true, not-false}
use native.Mathlib.Omega.{arith}
use Prim.Native.Nat.{◌≤◌, ◌+◌, ◌-◌}
use mathlib.Core.Path.{◌≡◌, refl, sym, ◌∙◌}
use mathlib.Core.Bool.{true, false}
use lib.ListN.{length, get_or, take, drop}
use Rattle.rows.specs.Limits.{context_room}
use Rattle.normalising.specs.NormalRows.{past_contexts}
use Rattle.numbering.proofs.Turns.{unmapped}
use Rattle.filling.specs.Fill.{first_differing}
use Rattle.filling.specs.Parts.{Counted}
use Rattle.filling.proofs.Parts.{heads-counted}
use Rattle.filling.proofs.Found.{exact-part}
use Rattle.filling.proofs.Loops.{differing-next, differing-end}
use Rattle.filling.proofs.part.first_differing.Statement.{statement}
use Rattle.filling.proofs.part.first_differing.Tie as tie

abbrev invariant-loop : tie.invariant-loop-i
invariant-loop count list exact heads i₀ i = (i ≤ count) × (length heads ≡ context_room) × (first_differing list (drop i (take count heads)) ≡ first_differing list (take count heads))

abbrev decreases-loop : tie.decreases-loop-i
decreases-loop count list exact heads i₀ i = count - i

counted : (s : tie.Start invariant-loop decreases-loop) → Counted s.args.heads s.args.count
counted s = heads-counted s.args.list.now s.args.heads s.args.count s.requires.0

loop-holds : tie.Need-loop-i-init invariant-loop decreases-loop
loop-holds c = (search rules, search (rules, unmapped), refl)

mul-head : tie.Need-offset_bounds-heads-i invariant-loop decreases-loop
mul-head c = omega (arith, (counted c.before.before.before).few)

array-copy-out-head : tie.Need-bounds-heads-i invariant-loop decreases-loop
array-copy-out-head c = omega (arith, (counted c.before.before.before).few)

is-exact-requires : tie.Need-is_exact-requires invariant-loop decreases-loop
is-exact-requires c κs = let l = c in
    let s = l in
    (s.requires.0, s.requires.1, (counted s.before.before.before.before).number l.loop-i.i, (counted s.before.before.before.before).count l.loop-i.i)

cast-result : tie.Need-overflow_cast-result invariant-loop decreases-loop
cast-result c = search rules

returns : tie.Need-returns-then-not-is_exact invariant-loop decreases-loop
returns c = let t = c in
    let x = t in
    let l = x in
    let s = l in
    let a = s.args in
    let h = get_or a.heads l.loop-i.i past_contexts in
    sym (differing-next a.list.now a.heads a.count l.loop-i.i past_contexts (omega (arith, l.loop-i.invariant.1, (counted s.before.before.before.before.before.before.before).few)) x.loop-i-test.true false
    (sym (x.is_exact.ensures ∙ exact-part a.list.now h.number h.count) ∙ not-true _ t.if-not-is_exact.true-raw))
    ∙ l.loop-i.invariant.2

add-i : tie.Need-overflow_add-i invariant-loop decreases-loop
add-i c = search rules

loop-less : tie.Need-loop-i-smaller invariant-loop decreases-loop
loop-less c = search rules

loop-again : tie.Need-loop-i-preserved invariant-loop decreases-loop
loop-again c = let x = c in
    let l = x in
    let s = l in
    let a = s.args in
    let h = get_or a.heads l.loop-i.i past_contexts in (
      search rules,
      l.loop-i.invariant.1,
      sym (differing-next a.list.now a.heads a.count l.loop-i.i past_contexts (omega (arith, l.loop-i.invariant.1, (counted s.before.before.before.before.before.before).few)) x.loop-i-test.true true
          (sym (x.is_exact.ensures ∙ exact-part a.list.now h.number h.count) ∙ not-false _ c.if-not-is_exact.false-raw))
          ∙ l.loop-i.invariant.2,
    )

returns-2 : tie.Need-returns invariant-loop decreases-loop
returns-2 c = let l = c in
    let a = l.args in
    sym (differing-end a.list.now a.heads a.count l.loop-i.i past_contexts c.loop-i-test.false) ∙ l.loop-i.invariant.2

pub first_differing_spec : {M : Type 1} → statement M
first_differing_spec =
    tie.close
    (tie.spec
    invariant-loop
    decreases-loop
    loop-holds
    mul-head
    array-copy-out-head
    is-exact-requires
    cast-result
    returns
    add-i
    loop-less
    loop-again
    returns-2)
