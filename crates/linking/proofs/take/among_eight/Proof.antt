-- Invariant: where nothing was found, x is not among the numbers that were looked at.
use borrow.Author.Rules.{rules}
use Prim.Native.Nat.{◌≤◌, ◌-◌}
use mathlib.Core.Path.{◌≡◌, ◌∙◌, sym}
use mathlib.Core.Bool.{true, false, true≢false}
use mathlib.Core.Logic.{⊎_elim}
use native.Mathlib.Omega.{arith}
use Rattle.linking.proofs.Loops.{Lacks, lacks-more}
use Rattle.linking.proofs.take.among_eight.Statement.{statement}
use Rattle.linking.proofs.take.among_eight.Tie as tie

abbrev invariant-loop : tie.invariant-loop-k
invariant-loop s i x found₀ k₀ found k = (k ≤ 8) × (found ≡ false → Lacks s i x k)

abbrev decreases-loop : tie.decreases-loop-k
decreases-loop s i x found₀ k₀ found k = 8 - k

loop-holds : tie.Need-loop-k-init invariant-loop decreases-loop
loop-holds c = (omega arith, λ e k h. absurd (omega arith))

add-if1 : tie.Need-overflow_add-i invariant-loop decreases-loop
add-if1 c = search rules

mul-if1 : tie.Need-offset_bounds-s-i invariant-loop decreases-loop
mul-if1 c = search rules

shared-slice-read-if1 : tie.Need-bounds-s-i invariant-loop decreases-loop
shared-slice-read-if1 c = search rules

add-k : tie.Need-overflow_add-k invariant-loop decreases-loop
add-k c = search rules

loop-less : tie.Need-loop-k-smaller invariant-loop decreases-loop
loop-less c = search rules

loop-again : tie.Need-loop-k-preserved invariant-loop decreases-loop
loop-again c = let l = c in
    let a = l.args in (
      omega arith,
      ⊎_elim
          (λ w e. absurd (true≢false (sym w.found-is ∙ e)))
          (λ w e. lacks-more a.s.now a.i a.x l.loop-k.k (l.loop-k.invariant.1 (sym w.found-is ∙ e)) w.if-s-i.false)
          c.if-s-i.branch-raw,
    )

returns : tie.Need-returns invariant-loop decreases-loop
returns c e k h = c.loop-k.invariant.1 e k (omega arith)

pub among_eight_spec : {M : Type 1} → statement M
among_eight_spec = tie.close (tie.spec invariant-loop decreases-loop loop-holds add-if1 mul-if1 shared-slice-read-if1 add-k loop-less loop-again returns)
