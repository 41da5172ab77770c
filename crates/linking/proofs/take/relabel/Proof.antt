-- Invariant: the first i labels are mapped, and the others are as they were.
use borrow.Author.Rules.{rules}
use Prim.Native.Nat.{◌≤◌, ◌<◌, ◌-◌}
use mathlib.Core.Path.{◌≡◌, ◌∙◌, ap}
use mathlib.Core.Logic.{⊎_elim}
use native.Mathlib.Omega.{arith}
use lib.ListN.{length, length-set, set}
use lib.Seq.{set-get_or}
use Rattle.rows.specs.Held.{relabelled}
use Rattle.rows.proofs.Lists.{mapped}
use Rattle.linking.proofs.Loops.{relabel-hit, relabel-miss}
use Rattle.linking.proofs.take.relabel.Statement.{statement}
use Rattle.linking.proofs.take.relabel.Tie as tie

abbrev invariant-loop : tie.invariant-loop-i
invariant-loop classes₀ n from to i₀ classes i = (i ≤ n) × (length classes ≡ length classes₀) × (classes ≡ mapped (relabelled from to) i classes₀)

abbrev decreases-loop : tie.decreases-loop-i
decreases-loop classes₀ n from to i₀ classes i = n - i

loop-holds : tie.Need-loop-i-init invariant-loop decreases-loop
loop-holds c = search rules

mul-label : tie.Need-offset_bounds-classes-i invariant-loop decreases-loop
mul-label c = search rules

slice-read-label : tie.Need-bounds-classes-i invariant-loop decreases-loop
slice-read-label c = search rules

mul-classes : tie.Need-offset_bounds-classes-i-in-loop-i invariant-loop decreases-loop
mul-classes c = search rules

slice-write-classes : tie.Need-bounds-classes-i-in-loop-i invariant-loop decreases-loop
slice-write-classes c = search rules

add-i : tie.Need-overflow_add-i invariant-loop decreases-loop
add-i c = search rules

loop-less : tie.Need-loop-i-smaller invariant-loop decreases-loop
loop-less c = search rules

loop-again : tie.Need-loop-i-preserved invariant-loop decreases-loop
loop-again c = let l = c in
    let a = l.args in
    let h : l.loop-i.i < length a.classes.now = omega (arith, l.requires, c.loop-i-test.true) in (
      search rules,
      simp length-set l.loop-i.invariant.1,
      ⊎_elim
          (λ w. ap (set l.loop-i.classes l.loop-i.i) w.label-is ∙ relabel-hit a.from a.to a.classes.now l.loop-i.classes l.loop-i.i h l.loop-i.invariant.2 w.if-label-from.true)
          (λ w. ap (set l.loop-i.classes l.loop-i.i) w.label-is ∙ set-get_or l.loop-i.classes l.loop-i.i 0 ∙ relabel-miss a.from a.to a.classes.now l.loop-i.classes l.loop-i.i h l.loop-i.invariant.2 w.if-label-from.false)
          c.if-label-from.branch-raw,
    )

same_length : tie.Need-shape_of-classes invariant-loop decreases-loop
same_length c = search rules

returns : tie.Need-returns invariant-loop decreases-loop
returns c = let l = c in
    let e : l.loop-i.i ≡ l.args.n = omega arith in
    rw e at l.loop-i.invariant.2

pub relabel_spec : {M : Type 1} → statement M
relabel_spec =
    tie.close
    (tie.spec
    invariant-loop
    decreases-loop
    loop-holds
    mul-label
    slice-read-label
    mul-classes
    slice-write-classes
    add-i
    loop-less
    loop-again
    same_length
    returns)
