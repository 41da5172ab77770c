-- `normal_text::row_numbers` meets its contract. Invariant: the two numbers and the first k links. Assumes nothing.
use Prim.Native.Nat.{◌≤◌, ◌+◌, ◌-◌}
use mathlib.Core.Path.{◌≡◌, refl}
use mathlib.Core.List.{◌∷◌}
use native.Mathlib.Omega.{arith}
use lib.ListN.{length, take, length-set}
use Rattle.rows.specs.Format.{most_links, field_count}
use Rattle.normalising.proofs.normal_text.NormalRows.{numbers-next, numbers-all}
use borrow.Author.Rules.{rules}
use Rattle.normalising.proofs.normal_text.row_numbers.Statement.{statement}
use Rattle.normalising.proofs.normal_text.row_numbers.Tie as tie

abbrev invariant-loop : tie.invariant-loop-k
invariant-loop first count links nums₀ k₀ nums k = (k ≤ most_links) × (length links ≡ most_links) × (length nums ≡ field_count) × (take (k + 2) nums ≡ first ∷ count ∷ take k links)

abbrev decreases-loop : tie.decreases-loop-k
decreases-loop first count links nums₀ k₀ nums k = most_links - k

array-write-nums : tie.Need-bounds-nums-0 invariant-loop decreases-loop
array-write-nums c = search rules

array-write-nums-2 : tie.Need-bounds-nums-1 invariant-loop decreases-loop
array-write-nums-2 c = search rules

loop-holds : tie.Need-loop-k-init invariant-loop decreases-loop
loop-holds c = (omega arith, search rules, refl, refl)

mul-nums : tie.Need-offset_bounds-links-k invariant-loop decreases-loop
mul-nums c = search rules

array-read-nums : tie.Need-bounds-links-k invariant-loop decreases-loop
array-read-nums c = search rules

add-nums : tie.Need-overflow_add-nums invariant-loop decreases-loop
add-nums c = search rules

mul-nums-2 : tie.Need-offset_bounds-nums-k invariant-loop decreases-loop
mul-nums-2 c = search rules

array-write-nums-3 : tie.Need-bounds-nums-k invariant-loop decreases-loop
array-write-nums-3 c = search rules

add-k : tie.Need-overflow_add-k invariant-loop decreases-loop
add-k c = search rules

loop-less : tie.Need-loop-k-smaller invariant-loop decreases-loop
loop-less c = search rules

loop-again : tie.Need-loop-k-preserved invariant-loop decreases-loop
loop-again c = let l = c.loop-k in
    let a = c.args in
    let i = l.invariant in (
      search rules,
      i.1,
      simp length-set i.2,
      numbers-next l.nums a.links a.first a.count l.k (omega (arith, i.2)) (omega (arith, i.1)) i.3,
    )

returns : tie.Need-returns invariant-loop decreases-loop
returns c = let l = c.loop-k in
    let a = c.args in
    let e : l.k ≡ most_links = omega arith in
    numbers-all l.nums a.links a.first a.count most_links l.invariant.2 l.invariant.1 (rw e at l.invariant.3)

pub row_numbers_spec : {M : Type 1} → statement M
row_numbers_spec =
    tie.close
    (tie.spec
    invariant-loop
    decreases-loop
    array-write-nums
    array-write-nums-2
    loop-holds
    mul-nums
    array-read-nums
    add-nums
    mul-nums-2
    array-write-nums-3
    add-k
    loop-less
    loop-again
    returns)
