-- Invariant: the numbers of the first k fields are taken in.
use borrow.Author.Rules.{rules}
use Prim.Native.Nat.{◌≤◌, ◌+◌, ◌-◌}
use mathlib.Core.Path.{◌≡◌, ◌∙◌}
use native.Mathlib.Omega.{arith}
use lib.ListN.{length, take, drop, get_or}
use Rattle.rows.specs.Format.{field_count}
use Rattle.rows.specs.Limits.{link_room}
use Rattle.rows.specs.Held.{with_links}
use Rattle.linking.specs.Steps.{Relinks, Hinted}
use Rattle.linking.proofs.Arrays.{links-none, links-more}
use Rattle.rows.proofs.Lists.{row-link}
use Rattle.linking.proofs.take.add_links.Statement.{statement}
use Rattle.linking.proofs.take.add_links.Tie as tie

abbrev invariant-loop : tie.invariant-loop-k
invariant-loop links₀ classes₀ n from count hints₀ nums m₀ k₀ links classes hints m k = (k ≤ count) × (length nums ≡ field_count) × (m ≤ n + k) × (length links ≡ link_room) × (length classes ≡ link_room) × Relinks links₀ classes₀ n links classes m (λ w. with_links w (take k (drop from nums))) × Hinted hints links m

abbrev decreases-loop : tie.decreases-loop-k
decreases-loop links₀ classes₀ n from count hints₀ nums m₀ k₀ links classes hints m k = count - k

loop-holds : tie.Need-loop-k-init invariant-loop decreases-loop
loop-holds c = (search rules, search rules, search rules, search rules, search rules, links-none _ _ _, c.requires.5)

add-add-link : tie.Need-overflow_add-from invariant-loop decreases-loop
add-add-link c = search rules

mul-add-link : tie.Need-offset_bounds-nums-from invariant-loop decreases-loop
mul-add-link c = search rules

array-read-add-link : tie.Need-bounds-nums-from invariant-loop decreases-loop
array-read-add-link c = search rules

add-link-requires : tie.Need-add_link-m-requires invariant-loop decreases-loop
add-link-requires c κs = (search rules, search rules, search rules, c.loop-k.invariant.6)

add-k : tie.Need-overflow_add-k invariant-loop decreases-loop
add-k c = search rules

loop-less : tie.Need-loop-k-smaller invariant-loop decreases-loop
loop-less c = search rules

loop-again : tie.Need-loop-k-preserved invariant-loop decreases-loop
loop-again c = let p = c.add_link-m in
    let l = c in
    let s = l in
    let a = s.args in
    let k = l.loop-k.k in (
      omega (arith, l.loop-k.invariant.0, c.loop-k-test.true),
      l.loop-k.invariant.1,
      omega (arith, l.loop-k.invariant.2, p.ensures.0),
      p.auto.links ∙ l.loop-k.invariant.3,
      p.auto.classes ∙ l.loop-k.invariant.4,
      rw (row-link a.nums a.from k (omega (arith, l.loop-k.invariant.1, s.requires.2, c.loop-k-test.true))) (links-more a.links.now a.classes.now a.n l.loop-k.links l.loop-k.classes l.loop-k.m _ _ p.result (take k (drop a.from a.nums)) (get_or a.nums (a.from + k) 0) l.loop-k.invariant.5 p.ensures.1),
      p.ensures.2,
    )

same_length : tie.Need-shape_of-links invariant-loop decreases-loop
same_length c = search rules

same-length-2 : tie.Need-shape_of-classes invariant-loop decreases-loop
same-length-2 c = search rules

returns : tie.Need-returns invariant-loop decreases-loop
returns c = let l = c in
    let e : l.loop-k.k ≡ l.args.count = omega (arith, l.loop-k.invariant.0, c.loop-k-test.false) in
    (omega (arith, e, l.loop-k.invariant.2), rw e at l.loop-k.invariant.5, l.loop-k.invariant.6)

pub add_links_spec : {M : Type 1} → statement M
add_links_spec =
    tie.close
    (tie.spec
    invariant-loop
    decreases-loop
    loop-holds
    add-add-link
    mul-add-link
    array-read-add-link
    add-link-requires
    add-k
    loop-less
    loop-again
    same_length
    same-length-2
    returns)
