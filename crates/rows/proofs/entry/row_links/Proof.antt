-- Invariant: the first k links are the row's.
use borrow.Author.Rules.{rules}
use Prim.Native.Nat.{◌≤◌, ◌-◌}
use mathlib.Core.Path.{◌≡◌}
use native.Mathlib.Omega.{arith}
use lib.ListN.{length, take, drop, length-set}
use Rattle.rows.specs.Format.{most_links, field_count}
use Rattle.rows.proofs.Lists.{copied_next, copied_all}
use Rattle.rows.proofs.entry.row_links.Statement.{statement}
use Rattle.rows.proofs.entry.row_links.Tie as tie

abbrev invariant-loop : tie.invariant-loop-k
invariant-loop nums links₀ k₀ links k = (k ≤ most_links) × (length nums ≡ field_count) × (length links ≡ most_links) × (take k links ≡ take k (drop 2 nums))

abbrev decreases-loop : tie.decreases-loop-k
decreases-loop nums links₀ k₀ links k = most_links - k

loop-holds : tie.Need-loop-k-init invariant-loop decreases-loop
loop-holds c = search rules

add-links : tie.Need-overflow_add-links invariant-loop decreases-loop
add-links c = search rules

mul-links : tie.Need-offset_bounds-nums-k invariant-loop decreases-loop
mul-links c = search rules

array-read-links : tie.Need-bounds-nums-k invariant-loop decreases-loop
array-read-links c = search rules

mul-links-2 : tie.Need-offset_bounds-links-k invariant-loop decreases-loop
mul-links-2 c = search rules

array-write-links : tie.Need-bounds-links-k invariant-loop decreases-loop
array-write-links c = search rules

add-k : tie.Need-overflow_add-k invariant-loop decreases-loop
add-k c = search rules

loop-less : tie.Need-loop-k-smaller invariant-loop decreases-loop
loop-less c = search rules

loop-again : tie.Need-loop-k-preserved invariant-loop decreases-loop
loop-again c = let l = c.before in (
  search rules,
  l.loop-k.invariant.1,
  simp length-set l.loop-k.invariant.2,
  copied_next l.loop-k.links l.before.args.nums l.loop-k.k (search rules) (omega (arith, l.loop-k.invariant.1)) l.loop-k.invariant.3,
)

returns : tie.Need-returns invariant-loop decreases-loop
returns c = let l = c.before in
    let e : l.loop-k.k ≡ most_links = omega arith in
    copied_all l.loop-k.links l.before.args.nums most_links l.loop-k.invariant.2 l.loop-k.invariant.1 (rw e at l.loop-k.invariant.3)

pub row_links_spec : {M : Type 1} → statement M
row_links_spec =
    tie.close
    (tie.spec
    invariant-loop
    decreases-loop
    loop-holds
    add-links
    mul-links
    array-read-links
    mul-links-2
    array-write-links
    add-k
    loop-less
    loop-again
    returns)
