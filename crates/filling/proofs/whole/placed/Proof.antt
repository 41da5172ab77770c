-- Invariant: the first k links are places.
use borrow.Author.Rules.{rules}
use native.Mathlib.Omega.{arith}
use Prim.Native.Nat.{ℕ, ◌≤◌, ◌-◌}
use mathlib.Core.Path.{◌≡◌, refl, sym, ◌∙◌, ap}
use mathlib.Core.List.{List}
use lib.ListN.{length, get_or, set}
use Rattle.rows.specs.Format.{most_links}
use Rattle.rows.proofs.Lists.{mapped, mapped_next}
use Rattle.filling.specs.Glued.{place_of}
use Rattle.filling.proofs.Loops.{mapped-whole}
use Rattle.filling.proofs.whole.placed.Statement.{statement}
use Rattle.filling.proofs.whole.placed.Tie as tie

abbrev invariant-loop : tie.invariant-loop-k
invariant-loop p links more₀ k₀ more k = (k ≤ most_links) × (length links ≡ most_links) × (more ≡ mapped (place_of p) k links)

abbrev decreases-loop : tie.decreases-loop-k
decreases-loop p links more₀ k₀ more k = most_links - k

loop-holds : tie.Need-loop-k-init invariant-loop decreases-loop
loop-holds c = (search rules, search rules, refl)

mul-more : tie.Need-overflow_mul-more invariant-loop decreases-loop
mul-more c = search rules

cast-more : tie.Need-overflow_cast-more invariant-loop decreases-loop
cast-more c = search rules

mul-more-2 : tie.Need-offset_bounds-links-k invariant-loop decreases-loop
mul-more-2 c = search rules

array-read-more : tie.Need-bounds-links-k invariant-loop decreases-loop
array-read-more c = search rules

add-more : tie.Need-overflow_add-more invariant-loop decreases-loop
add-more c = let l = c in
    omega (arith, l.requires.0, l.requires.1 l.loop-k.k)

mul-more-3 : tie.Need-offset_bounds-more-k invariant-loop decreases-loop
mul-more-3 c = search rules

array-write-more : tie.Need-bounds-more-k invariant-loop decreases-loop
array-write-more c = search rules

add-k : tie.Need-overflow_add-k invariant-loop decreases-loop
add-k c = search rules

loop-less : tie.Need-loop-k-smaller invariant-loop decreases-loop
loop-less c = search rules

loop-again : tie.Need-loop-k-preserved invariant-loop decreases-loop
loop-again c = let l = c in
    let a = l.args in
    let f = place_of a.p in (
      search rules,
      l.loop-k.invariant.1,
      ap (λ (v : List ℕ). set v l.loop-k.k (f (get_or a.links l.loop-k.k 0))) l.loop-k.invariant.2 ∙ sym (mapped_next f 0 a.links l.loop-k.k (omega (arith, l.loop-k.invariant.1))),
    )

returns : tie.Need-returns invariant-loop decreases-loop
returns c = let l = c in
    let a = l.args in
    let e : l.loop-k.k ≡ most_links = omega arith in
    rw e at l.loop-k.invariant.2 ∙ mapped-whole (place_of a.p) a.links most_links l.loop-k.invariant.1

pub placed_spec : {M : Type 1} → statement M
placed_spec =
    tie.close
    (tie.spec
    invariant-loop
    decreases-loop
    loop-holds
    mul-more
    cast-more
    mul-more-2
    array-read-more
    add-more
    mul-more-3
    array-write-more
    add-k
    loop-less
    loop-again
    returns)
