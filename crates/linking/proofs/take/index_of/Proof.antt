-- Invariant: the place is i further on than in what is left of the first n numbers.
use borrow.Author.Rules.{rules}
use Prim.Native.Nat.{◌≤◌, ◌+◌, ◌-◌}
use mathlib.Core.Path.{◌≡◌, ◌∙◌, sym}
use native.Mathlib.Omega.{arith}
use lib.ListN.{length, drop, take}
use lib.Seq.{length-take-le, get_or-take}
use Rattle.rows.specs.Held.{index_of}
use Rattle.linking.proofs.Loops.{index-end, index-hit, index-miss}
use Rattle.linking.proofs.take.index_of.Statement.{statement}
use Rattle.linking.proofs.take.index_of.Tie as tie

abbrev invariant-loop : tie.invariant-loop-i
invariant-loop s n x i₀ i = (i ≤ n) × (index_of x (take n s) ≡ i + index_of x (drop i (take n s)))

abbrev decreases-loop : tie.decreases-loop-i
decreases-loop s n x i₀ i = n - i

skipped-requires : tie.Need-skipped-i-requires invariant-loop decreases-loop
skipped-requires c κs = search rules

loop-holds : tie.Need-loop-i-init invariant-loop decreases-loop
loop-holds c = c.skipped-i.ensures

mul-if1 : tie.Need-offset_bounds-s-i invariant-loop decreases-loop
mul-if1 c = search rules

shared-slice-read-if1 : tie.Need-bounds-s-i invariant-loop decreases-loop
shared-slice-read-if1 c = search rules

returns : tie.Need-returns-then-s-i invariant-loop decreases-loop
returns c = let l = c in
    let s = l.args.s.now in
    let n = l.args.n in
    let len : length (take n s) ≡ n = length-take-le n s l.requires in
    omega (arith, l.loop-i.invariant.1, index-hit (take n s) l.args.x l.loop-i.i (omega arith) (get_or-take n s l.loop-i.i 0 (search rules) ∙ c.if-s-i.true))

add-i : tie.Need-overflow_add-i invariant-loop decreases-loop
add-i c = search rules

loop-less : tie.Need-loop-i-smaller invariant-loop decreases-loop
loop-less c = search rules

loop-again : tie.Need-loop-i-preserved invariant-loop decreases-loop
loop-again c = let l = c in
    let s = l.args.s.now in
    let n = l.args.n in
    let len : length (take n s) ≡ n = length-take-le n s l.requires in
    (search rules, omega (arith, l.loop-i.invariant.1, index-miss (take n s) l.args.x l.loop-i.i (omega arith) (λ e. c.if-s-i.false (sym (get_or-take n s l.loop-i.i 0 (search rules)) ∙ e))))

returns-2 : tie.Need-returns invariant-loop decreases-loop
returns-2 c = let l = c in
    let s = l.args.s.now in
    let n = l.args.n in
    let len : length (take n s) ≡ n = length-take-le n s l.requires in
    omega (arith, l.loop-i.invariant.1, index-end (take n s) l.args.x l.loop-i.i (omega arith))

pub index_of_spec : {M : Type 1} → statement M
index_of_spec =
    tie.close
    (tie.spec
    invariant-loop
    decreases-loop
    skipped-requires
    loop-holds
    mul-if1
    shared-slice-read-if1
    returns
    add-i
    loop-less
    loop-again
    returns-2)
