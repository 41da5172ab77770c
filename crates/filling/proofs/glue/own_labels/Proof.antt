-- Invariant: the first k places have their own labels.
use borrow.Author.Rules.{rules}
use native.Mathlib.Omega.{arith}
use Prim.Native.Nat.{ℕ, ◌≤◌, ◌<◌, ◌-◌}
use mathlib.Core.Path.{◌≡◌}
use lib.ListN.{length, get_or, length-set}
use Rattle.filling.specs.Parts.{places}
use Rattle.filling.proofs.Loops.{own-next}
use Rattle.filling.proofs.glue.own_labels.Statement.{statement}
use Rattle.filling.proofs.glue.own_labels.Tie as tie

abbrev invariant-loop : tie.invariant-loop-k
invariant-loop labels₀ k₀ labels k = (k ≤ places) × (length labels ≡ places) × ((j : ℕ) → j < k → get_or labels j 0 ≡ j)

abbrev decreases-loop : tie.decreases-loop-k
decreases-loop labels₀ k₀ labels k = places - k

loop-holds : tie.Need-loop-k-init invariant-loop decreases-loop
loop-holds c = (search rules, c.requires, λ j h. absurd (omega arith))

cast-labels : tie.Need-overflow_cast-labels invariant-loop decreases-loop
cast-labels c = search rules

mul-labels : tie.Need-offset_bounds-labels-k invariant-loop decreases-loop
mul-labels c = search rules

element-write-labels : tie.Need-bounds-labels-k invariant-loop decreases-loop
element-write-labels c = search rules

add-k : tie.Need-overflow_add-k invariant-loop decreases-loop
add-k c = search rules

loop-less : tie.Need-loop-k-smaller invariant-loop decreases-loop
loop-less c = search rules

loop-again : tie.Need-loop-k-preserved invariant-loop decreases-loop
loop-again c = let l = c in
    (search rules, simp length-set l.loop-k.invariant.1, own-next l.loop-k.labels l.loop-k.k (omega (arith, l.loop-k.invariant.1)) l.loop-k.invariant.2)

returns : tie.Need-returns invariant-loop decreases-loop
returns c = let l = c in
    record { size = l.loop-k.invariant.1; own = λ j h. l.loop-k.invariant.2 j (omega arith) }

pub own_labels_spec : {M : Type 1} → statement M
own_labels_spec =
    tie.close
    (tie.spec
    invariant-loop
    decreases-loop
    loop-holds
    cast-labels
    mul-labels
    element-write-labels
    add-k
    loop-less
    loop-again
    returns)
