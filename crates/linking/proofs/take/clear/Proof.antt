-- Invariant: the first i numbers are 0, and the others are as they were.
use borrow.Author.Rules.{rules}
use Prim.Native.Nat.{◌≤◌, ◌-◌}
use mathlib.Core.Path.{◌≡◌}
use native.Mathlib.Omega.{arith}
use lib.ListN.{length, length-set}
use Rattle.linking.specs.Steps.{cleared}
use Rattle.linking.proofs.Loops.{clear_next}
use Rattle.linking.proofs.take.clear.Statement.{statement}
use Rattle.linking.proofs.take.clear.Tie as tie

abbrev invariant-loop : tie.invariant-loop-i
invariant-loop s₀ n i₀ s i = (i ≤ n) × (length s ≡ length s₀) × (s ≡ cleared i s₀)

abbrev decreases-loop : tie.decreases-loop-i
decreases-loop s₀ n i₀ s i = n - i

loop-holds : tie.Need-loop-i-init invariant-loop decreases-loop
loop-holds c = search rules

mul-s : tie.Need-offset_bounds-s-i invariant-loop decreases-loop
mul-s c = search rules

slice-write-s : tie.Need-bounds-s-i invariant-loop decreases-loop
slice-write-s c = search rules

add-i : tie.Need-overflow_add-i invariant-loop decreases-loop
add-i c = search rules

loop-less : tie.Need-loop-i-smaller invariant-loop decreases-loop
loop-less c = search rules

loop-again : tie.Need-loop-i-preserved invariant-loop decreases-loop
loop-again c = let l = c in
    let a = l.args in
    (search rules, simp length-set l.loop-i.invariant.1, clear_next a.s.now l.loop-i.s l.loop-i.i (omega (arith, l.requires, c.loop-i-test.true)) l.loop-i.invariant.2)

same_length : tie.Need-shape_of-s invariant-loop decreases-loop
same_length c = search rules

returns : tie.Need-returns invariant-loop decreases-loop
returns c = let l = c in
    let e : l.loop-i.i ≡ l.args.n = omega arith in
    rw e at l.loop-i.invariant.2

pub clear_spec : {M : Type 1} → statement M
clear_spec =
    tie.close
    (tie.spec
    invariant-loop
    decreases-loop
    loop-holds
    mul-s
    slice-write-s
    add-i
    loop-less
    loop-again
    same_length
    returns)
