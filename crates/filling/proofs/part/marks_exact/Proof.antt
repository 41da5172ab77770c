-- Invariant: the marks from k on are the numbers from k + 1 on exactly when all are those from 1 on.
use borrow.Author.Rules.{rules}
use native.Mathlib.Omega.{arith}
use Prim.Native.Nat.{◌≤◌, ◌+◌, ◌-◌}
use mathlib.Core.Path.{◌≡◌, sym, ◌∙◌, ap}
use lib.ListN.{length, get_or, take, drop}
use mathlib.Core.Bool.{true, false}
use borrow.Author.Tests.{eq-eqb, ne_eqb}
use Rattle.rows.specs.Limits.{mark_room}
use Rattle.placing.specs.Smallest.{same_list, numbers_from, numbers_to}
use Rattle.filling.proofs.Loops.{marks-next, marks-end, marks-other}
use Rattle.filling.proofs.part.marks_exact.Statement.{statement}
use Rattle.filling.proofs.part.marks_exact.Tie as tie

abbrev invariant-loop : tie.invariant-loop-k
invariant-loop marks count n k₀ k = (k ≤ n) × (count ≡ n) × (length marks ≡ mark_room) × (same_list (drop k (take n marks)) (numbers_from (k + 1) (n - k)) ≡ same_list (take n marks) (numbers_to n))

abbrev decreases-loop : tie.decreases-loop-k
decreases-loop marks count n k₀ k = n - k

returns : tie.Need-returns-then-count-n invariant-loop decreases-loop
returns c = let s = c in
    let a = s.args in
    sym (marks-other a.marks.now a.count a.n (omega (arith, s.requires.0, s.requires.1)) c.if-count-n.true)

loop-holds : tie.Need-loop-k-init invariant-loop decreases-loop
loop-holds c = let a = c.args in
    (search rules, c.if-count-n.false, c.requires.1, ap (λ m. same_list (take a.n a.marks.now) (numbers_from 1 m)) (let z : a.n - 0 ≡ a.n = omega arith in z))

cast-if2 : tie.Need-overflow_cast-k invariant-loop decreases-loop
cast-if2 c = search rules

mul-if2 : tie.Need-offset_bounds-marks-k invariant-loop decreases-loop
mul-if2 c = search rules

element-copy-out-if2 : tie.Need-bounds-marks-k invariant-loop decreases-loop
element-copy-out-if2 c = search rules

add-if2 : tie.Need-overflow_add-k invariant-loop decreases-loop
add-if2 c = search rules

returns-2 : tie.Need-returns-then-marks-k invariant-loop decreases-loop
returns-2 c = let l = c in
    let s = l in
    let a = s.args in
    sym (marks-next a.marks.now a.n l.loop-k.k (omega (arith, l.loop-k.invariant.1, l.loop-k.invariant.2, s.requires.0)) c.loop-k-test.true false (ne_eqb (get_or a.marks.now l.loop-k.k 0) (l.loop-k.k + 1) c.if-marks-k.true))
    ∙ l.loop-k.invariant.3 ∙ ap (λ m. same_list (take m a.marks.now) (numbers_to a.n)) (sym l.loop-k.invariant.1)

add-k : tie.Need-overflow_add-k-in-loop-k invariant-loop decreases-loop
add-k c = search rules

loop-less : tie.Need-loop-k-smaller invariant-loop decreases-loop
loop-less c = search rules

loop-again : tie.Need-loop-k-preserved invariant-loop decreases-loop
loop-again c = let l = c in
    let s = l in
    let a = s.args in (
      search rules,
      l.loop-k.invariant.1,
      l.loop-k.invariant.2,
      sym (marks-next a.marks.now a.n l.loop-k.k (omega (arith, l.loop-k.invariant.1, l.loop-k.invariant.2, s.requires.0)) c.loop-k-test.true true (eq-eqb (get_or a.marks.now l.loop-k.k 0) (l.loop-k.k + 1) c.if-marks-k.false))
          ∙ l.loop-k.invariant.3,
    )

returns-3 : tie.Need-returns invariant-loop decreases-loop
returns-3 c = let l = c in
    let a = l.args in
    sym (marks-end a.marks.now a.n l.loop-k.k c.loop-k-test.false) ∙ l.loop-k.invariant.3 ∙ ap (λ m. same_list (take m a.marks.now) (numbers_to a.n)) (sym l.loop-k.invariant.1)

pub marks_exact_spec : {M : Type 1} → statement M
marks_exact_spec =
    tie.close
    (tie.spec
    invariant-loop
    decreases-loop
    returns
    loop-holds
    cast-if2
    mul-if2
    element-copy-out-if2
    add-if2
    returns-2
    add-k
    loop-less
    loop-again
    returns-3)
