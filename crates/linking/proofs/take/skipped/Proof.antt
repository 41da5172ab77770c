-- Invariant: the place of x is i further on than in what is left of the first n numbers.
use borrow.Author.Rules.{rules}
use Prim.Native.Nat.{◌≤◌, ◌+◌, ◌-◌}
use mathlib.Core.Path.{◌≡◌, ◌∙◌, sym}
use native.Mathlib.Omega.{arith}
use lib.ListN.{length, drop, take}
use lib.Seq.{length-take-le, get_or-take}
use Rattle.rows.specs.Held.{index_of}
use Rattle.linking.proofs.Loops.{index-lacks}
use Rattle.linking.proofs.take.skipped.Statement.{statement}
use Rattle.linking.proofs.take.skipped.Tie as tie

abbrev invariant-loop : tie.invariant-loop-i
invariant-loop s n x i₀ i = (i ≤ n) × (index_of x (take n s) ≡ i + index_of x (drop i (take n s)))

abbrev decreases-loop : tie.decreases-loop-i
decreases-loop s n x i₀ i = n - i

loop-holds : tie.Need-loop-i-init invariant-loop decreases-loop
loop-holds c = search rules

sub-loop : tie.Need-overflow_sub-n invariant-loop decreases-loop
sub-loop c = search rules

among-eight-requires : tie.Need-among_eight-requires invariant-loop decreases-loop
among-eight-requires c κs = search rules

returns : tie.Need-returns-then-among_eight invariant-loop decreases-loop
returns c = c.loop-i.invariant

add-i : tie.Need-overflow_add-i invariant-loop decreases-loop
add-i c = search rules

loop-less : tie.Need-loop-i-smaller invariant-loop decreases-loop
loop-less c = search rules

loop-again : tie.Need-loop-i-preserved invariant-loop decreases-loop
loop-again c = let l = c in
    let a = l.args in
    let s = a.s.now in
    let n = a.n in
    let len : length (take n s) ≡ n = length-take-le n s l.requires in
    let lacks = c.among_eight.ensures c.if-among_eight.false in (
      omega arith,
      omega (arith, l.loop-i.invariant.1, index-lacks (take n s) a.x l.loop-i.i 8 (omega arith) (λ k h e. lacks k h (sym (get_or-take n s (l.loop-i.i + k) 0 (omega arith)) ∙ e))),
    )

returns-2 : tie.Need-returns invariant-loop decreases-loop
returns-2 c = c.loop-i.invariant

pub skipped_spec : {M : Type 1} → statement M
skipped_spec = tie.close (tie.spec invariant-loop decreases-loop loop-holds sub-loop among-eight-requires returns add-i loop-less loop-again returns-2)
