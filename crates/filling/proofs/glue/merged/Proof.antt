-- Invariant: the first k labels are mapped, and the others are as they were.
use borrow.Author.Rules.{rules}
use native.Mathlib.Omega.{arith}
use Prim.Native.Nat.{◌≤◌, ◌<◌, ◌-◌}
use mathlib.Core.Path.{◌≡◌, refl, ◌∙◌, ap}
use lib.ListN.{length, get_or, set, length-set}
use lib.Seq.{set-get_or}
use mathlib.Core.Logic.{⊎_elim}
use Rattle.rows.specs.Held.{relabelled}
use Rattle.rows.proofs.Lists.{mapped}
use Rattle.linking.proofs.Loops.{relabel-hit, relabel-miss}
use Rattle.filling.specs.Parts.{places}
use Rattle.filling.proofs.Fresh.{merged-one, merged-first}
use Rattle.filling.proofs.glue.merged.Statement.{statement}
use Rattle.filling.proofs.glue.merged.Tie as tie

abbrev invariant-loop : tie.invariant-loop-k
invariant-loop labels₀ n a b from to k₀ labels k = (k ≤ n) × (length labels ≡ places) × (labels ≡ mapped (relabelled from to) k labels₀)

abbrev decreases-loop : tie.decreases-loop-k
decreases-loop labels₀ n a b from to k₀ labels k = n - k

mul-from : tie.Need-offset_bounds-labels-b invariant-loop decreases-loop
mul-from c = search rules

element-copy-out-from : tie.Need-bounds-labels-b invariant-loop decreases-loop
element-copy-out-from c = search rules

mul-to : tie.Need-offset_bounds-labels-a invariant-loop decreases-loop
mul-to c = search rules

element-copy-out-to : tie.Need-bounds-labels-a invariant-loop decreases-loop
element-copy-out-to c = search rules

cast-if1 : tie.Need-overflow_cast-from invariant-loop decreases-loop
cast-if1 c = let s = c in search (rules, s.requires.3.low s.args.b s.requires.1)

mul-labels : tie.Need-offset_bounds-labels-b-then-from-b invariant-loop decreases-loop
mul-labels c = search rules

element-write-labels : tie.Need-bounds-labels-b-then-from-b invariant-loop decreases-loop
element-write-labels c = search rules

returns : tie.Need-returns-then-from-b invariant-loop decreases-loop
returns c = let s = c in
    merged-one s.args.labels.now s.args.n s.args.a s.args.b s.requires.0 s.requires.1 s.requires.3 s.requires.4 c.if-from-b.true

loop-holds : tie.Need-loop-k-init invariant-loop decreases-loop
loop-holds c = (search rules, c.requires.3.size, refl)

mul-label : tie.Need-offset_bounds-labels-k invariant-loop decreases-loop
mul-label c = search rules

element-copy-out-label : tie.Need-bounds-labels-k invariant-loop decreases-loop
element-copy-out-label c = search rules

mul-labels-2 : tie.Need-offset_bounds-labels-k-in-loop-k invariant-loop decreases-loop
mul-labels-2 c = search rules

element-write-labels-2 : tie.Need-bounds-labels-k-in-loop-k invariant-loop decreases-loop
element-write-labels-2 c = search rules

add-k : tie.Need-overflow_add-k invariant-loop decreases-loop
add-k c = search rules

loop-less : tie.Need-loop-k-smaller invariant-loop decreases-loop
loop-less c = search rules

loop-again : tie.Need-loop-k-preserved invariant-loop decreases-loop
loop-again c = let l = c in
    let s = l in
    let L = s.args.labels.now in
    let from = get_or L s.args.b 0 in
    let to = get_or L s.args.a 0 in
    let h : l.loop-k.k < length L = omega (arith, s.requires.2, s.requires.3.size) in (
      search rules,
      simp length-set l.loop-k.invariant.1,
      ⊎_elim
          (λ w. ap (set l.loop-k.labels l.loop-k.k) w.label-is ∙ relabel-hit from to L l.loop-k.labels l.loop-k.k h l.loop-k.invariant.2 w.if-label-from.true)
          (λ w. ap (set l.loop-k.labels l.loop-k.k) w.label-is ∙ set-get_or l.loop-k.labels l.loop-k.k 0 ∙ relabel-miss from to L l.loop-k.labels l.loop-k.k h l.loop-k.invariant.2 w.if-label-from.false)
          c.if-label-from.branch-raw,
    )

returns-2 : tie.Need-returns invariant-loop decreases-loop
returns-2 c = let l = c in
    let s = l in
    let L = s.args.labels.now in
    let e : l.loop-k.k ≡ s.args.n = omega arith in
    (rw e at l.loop-k.invariant.2) ∙ merged-first L s.args.n s.args.a s.args.b s.requires.0 s.requires.1 s.requires.3 s.requires.4

pub merged_spec : {M : Type 1} → statement M
merged_spec =
    tie.close
    (tie.spec
    invariant-loop
    decreases-loop
    mul-from
    element-copy-out-from
    mul-to
    element-copy-out-to
    cast-if1
    mul-labels
    element-write-labels
    returns
    loop-holds
    mul-label
    element-copy-out-label
    mul-labels-2
    element-write-labels-2
    add-k
    loop-less
    loop-again
    returns-2)
