-- Invariant: the links of the first f fields are counted.
use borrow.Author.Rules.{rules}
use Prim.Native.Nat.{ℕ, suc, ◌<◌, ◌≤◌, ◌+◌, ◌-◌}
use mathlib.Core.Path.{◌≡◌, refl, ◌∙◌, sym, ap}
use mathlib.Core.Logic.{⊎_elim}
use native.Mathlib.Omega.{arith}
use mathlib.Core.Bool.{Bool, true, false}
use lib.ListN.{length, drop, get_or}
use Rattle.rows.specs.Pick.{pick}
use Rattle.rows.specs.Format.{field_count, blank}
use Rattle.linking.specs.Steps.{link_count_in}
use Rattle.linking.proofs.RowLinks.{links-next, links_end}
use Rattle.linking.proofs.take.link_count.Statement.{statement}
use Rattle.linking.proofs.take.link_count.Tie as tie

abbrev invariant-loop : tie.invariant-loop-f
invariant-loop count own links₀ f₀ links f = (f ≤ field_count) × (length own ≡ field_count) × (links ≤ f) × (link_count_in own count ≡ links + link_count_in (drop f own) count)

abbrev decreases-loop : tie.decreases-loop-f
decreases-loop count own links₀ f₀ links f = field_count - f

-- what is counted in all, by whether the field at f holds a link, and a counted one
turn : (l : tie.At-loop-f invariant-loop decreases-loop) →
    let own = l.args.own in
    let count = l.args.count in
    l.loop-f.f < field_count → (link counted : Bool) → (get_or own l.loop-f.f blank).link ≡ link → (get_or own l.loop-f.f blank).counted ≡ counted
    → link_count_in own count ≡ l.loop-f.links + pick link (pick counted count (suc (link_count_in (drop (l.loop-f.f + 1) own) count))) (link_count_in (drop (l.loop-f.f + 1) own) count)
turn l h link counted e k =
    l.loop-f.invariant.3 ∙ ap (λ (n : ℕ). l.loop-f.links + n) (links-next l.args.own l.loop-f.f (omega (arith, l.loop-f.invariant.1)) l.args.count link counted e k)

loop-holds : tie.Need-loop-f-init invariant-loop decreases-loop
loop-holds c = (omega arith, search rules, omega arith, omega arith)

mul-rule : tie.Need-offset_bounds-own-f invariant-loop decreases-loop
mul-rule c = search rules

array-copy-out-rule : tie.Need-bounds-own-f invariant-loop decreases-loop
array-copy-out-rule c = search rules

add-result : tie.Need-overflow_add-result invariant-loop decreases-loop
add-result c = search rules

returns : tie.Need-returns-then-rule-2 invariant-loop decreases-loop
returns c = let l = c.before.before.before.before in
    sym (turn l c.loop-f-test.true true true c.if-rule.true c.if-rule-2.true)

add-links : tie.Need-overflow_add-links invariant-loop decreases-loop
add-links c = search rules

add-f : tie.Need-overflow_add-f invariant-loop decreases-loop
add-f c = search rules

loop-less : tie.Need-loop-f-smaller invariant-loop decreases-loop
loop-less c = search rules

loop-again : tie.Need-loop-f-preserved invariant-loop decreases-loop
loop-again c = let l = c.before.before.before in
    let test = c.loop-f-test.true in
    let rule = get_or l.args.own l.loop-f.f blank in
    ⊎_elim
    (λ w. (omega arith, l.loop-f.invariant.1, omega (arith, l.loop-f.invariant.2, w.links-is), omega (arith, w.links-is, turn l test true false w.if-rule.true w.if-rule-2.false)))
    (λ w. (omega arith, l.loop-f.invariant.1, omega (arith, l.loop-f.invariant.2, w.links-is), omega (arith, w.links-is, turn l test false rule.counted w.if-rule.false refl)))
    c.if-rule.branch-raw

returns-2 : tie.Need-returns invariant-loop decreases-loop
returns-2 c = let l = c in
    omega (arith, l.loop-f.invariant.3, links_end l.args.own l.loop-f.f l.args.count (omega (arith, l.loop-f.invariant.1, c.loop-f-test.false)))

pub link_count_spec : {M : Type 1} → statement M
link_count_spec =
    tie.close
    (tie.spec
    invariant-loop
    decreases-loop
    loop-holds
    mul-rule
    array-copy-out-rule
    add-result
    returns
    add-links
    add-f
    loop-less
    loop-again
    returns-2)
