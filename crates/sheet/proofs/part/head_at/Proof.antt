-- Invariant: the search through the heads from i on finds what the walk over the list finds.
use borrow.Author.Rules.{rules}
use native.Mathlib.Omega.{arith}
use Prim.Native.Nat.{◌≤◌, ◌-◌}
use mathlib.Core.Path.{◌≡◌, sym, ◌∙◌}
use lib.ListN.{length, drop}
use Rattle.rows.specs.Limits.{figure_contexts}
use Rattle.sheet.specs.Filling.{from_head}
use Rattle.sheet.proofs.part.HeadRows.{Inside, from_first, heads_from, head_at, heads-few, search-start, search-end, search-inside, search-hit, search-miss}
use Rattle.sheet.proofs.part.head_at.Statement.{statement}
use Rattle.sheet.proofs.part.head_at.Tie as tie

abbrev invariant-loop : tie.invariant-loop-i
invariant-loop list count number heads i₀ i = (i ≤ count) × (from_head (length list) number list ≡ from_first (heads_from list i) number list (drop (length list) list))

abbrev decreases-loop : tie.decreases-loop-i
decreases-loop list count number heads i₀ i = count - i

few : (s : tie.Start invariant-loop decreases-loop) → s.args.count ≤ figure_contexts
few s = heads-few s.args.list.now s.args.heads s.args.count s.requires

inside : (c : tie.In-loop-i invariant-loop decreases-loop) → Inside c.args.list.now (head_at c.args.heads c.loop-i.i)
inside c = let s = c in
    search-inside s.args.list.now s.args.heads s.args.count s.requires s.args.number c.loop-i.i c.loop-i-test.true

loop-holds : tie.Need-loop-i-init invariant-loop decreases-loop
loop-holds c = (omega arith, search-start c.args.list.now c.args.heads c.args.count c.requires c.args.number)

mul-if1 : tie.Need-offset_bounds-heads-i invariant-loop decreases-loop
mul-if1 c = omega (arith, few c.before.before)

element-copy-out-if1 : tie.Need-bounds-heads-i invariant-loop decreases-loop
element-copy-out-if1 c = omega (arith, few c.before.before)

mul-result : tie.Need-offset_bounds-heads-i-then-heads-i invariant-loop decreases-loop
mul-result c = omega (arith, few c.before.before.before)

element-copy-out-result : tie.Need-bounds-heads-i-then-heads-i invariant-loop decreases-loop
element-copy-out-result c = omega (arith, few c.before.before.before)

sub-result : tie.Need-overflow_sub-result invariant-loop decreases-loop
sub-result c = (inside c.before.before).0

mul-result-2 : tie.Need-overflow_mul-result invariant-loop decreases-loop
mul-result-2 c = omega (arith, inside c.before.before)

returns : tie.Need-returns-then-heads-i invariant-loop decreases-loop
returns c = let l = c in
    let s = l in
    let a = s.args in
    (omega (arith, inside c.before.before), sym (l.loop-i.invariant.1 ∙ search-hit a.list.now a.heads a.count s.requires a.number l.loop-i.i c.loop-i-test.true c.if-heads-i.true _))

add-i : tie.Need-overflow_add-i invariant-loop decreases-loop
add-i c = search rules

loop-less : tie.Need-loop-i-smaller invariant-loop decreases-loop
loop-less c = search rules

loop-again : tie.Need-loop-i-preserved invariant-loop decreases-loop
loop-again c = let l = c in
    let s = l in
    let a = s.args in
    (omega arith, l.loop-i.invariant.1 ∙ search-miss a.list.now a.heads a.count s.requires a.number l.loop-i.i c.loop-i-test.true c.if-heads-i.false _)

returns-2 : tie.Need-returns invariant-loop decreases-loop
returns-2 c = let l = c in
    let s = l in
    let a = s.args in
    (omega arith, sym (l.loop-i.invariant.1 ∙ search-end a.list.now a.heads a.count s.requires a.number l.loop-i.i c.loop-i-test.false))

pub head_at_spec : {M : Type 1} → statement M
head_at_spec =
    tie.close
    (tie.spec
    invariant-loop
    decreases-loop
    loop-holds
    mul-if1
    element-copy-out-if1
    mul-result
    element-copy-out-result
    sub-result
    mul-result-2
    returns
    add-i
    loop-less
    loop-again
    returns-2)
