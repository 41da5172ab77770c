-- Invariant: the labels of the first k places are seen, and their numbers are written.
use borrow.Author.Rules.{rules}
use native.Mathlib.Omega.{arith}
use Prim.Native.Nat.{ℕ, ◌≤◌, ◌<◌, ◌+◌, ◌-◌}
use mathlib.Core.Path.{◌≡◌, refl, sym, ◌∙◌, ap}
use mathlib.Core.List.{List, [], map, map-map}
use lib.ListN.{length, get_or, take, length-set}
use Rattle.rows.specs.Limits.{mark_room}
use Rattle.rows.specs.Packed.{padded}
use Rattle.filling.specs.Classes.{Sees, with_labels, number_in}
use Rattle.filling.proofs.Loops.{sees-none, places-next, numbers-next}
use Rattle.filling.proofs.classes.numbered_marks.Statement.{statement}
use Rattle.filling.proofs.classes.numbered_marks.Tie as tie

abbrev invariant-loop : tie.invariant-loop-k
invariant-loop labels known₀ n₀ count marked numbered₀ k₀ known n numbered k = (k ≤ count) × (length marked ≡ mark_room) × (length numbered ≡ mark_room) × Sees known₀ n₀ known n (map (λ x. get_or labels x 0) (take k marked))
    × ((later : List ℕ) → numbered ≡ padded mark_room 0 (map (λ x. number_in (with_labels (take n known) later) (get_or labels x 0)) (take k marked)))

abbrev decreases-loop : tie.decreases-loop-k
decreases-loop labels known₀ n₀ count marked numbered₀ k₀ known n numbered k = count - k

loop-holds : tie.Need-loop-k-init invariant-loop decreases-loop
unfolding padded
loop-holds c = (search rules, search rules, search rules, sees-none _ _ c.requires.0, λ later. refl)

mul-label : tie.Need-offset_bounds-marked-k invariant-loop decreases-loop
mul-label c = search rules

array-read-label : tie.Need-bounds-marked-k invariant-loop decreases-loop
array-read-label c = search rules

cast-label : tie.Need-overflow_cast-label invariant-loop decreases-loop
cast-label c = search rules

mul-label-2 : tie.Need-offset_bounds-labels-marked invariant-loop decreases-loop
mul-label-2 c = omega (arith, c.requires.2 c.loop-k.k)

element-copy-out-label : tie.Need-bounds-labels-marked invariant-loop decreases-loop
element-copy-out-label c = omega (arith, c.requires.2 c.loop-k.k)

number-label-requires : tie.Need-number_label-requires invariant-loop decreases-loop
number-label-requires c κs = c.loop-k.invariant.3.room

mul-numbered : tie.Need-offset_bounds-numbered-k invariant-loop decreases-loop
mul-numbered c = search rules

array-write-numbered : tie.Need-bounds-numbered-k invariant-loop decreases-loop
array-write-numbered c = search rules

add-k : tie.Need-overflow_add-k invariant-loop decreases-loop
add-k c = search rules

loop-less : tie.Need-loop-k-smaller invariant-loop decreases-loop
loop-less c = search rules

loop-again : tie.Need-loop-k-preserved invariant-loop decreases-loop
loop-again c = let p = c.number_label in
    let l = c in
    let s = l in
    let a = s.args in
    let v = l.loop-k in
    let f : ℕ → ℕ = λ x. get_or a.labels.now x 0 in
    let h : v.k < length a.marked = omega (arith, v.invariant.1, s.requires.1, c.loop-k-test.true) in (
      search rules,
      v.invariant.1,
      simp length-set v.invariant.2,
      places-next f a.marked v.k h v.known p.new.known v.n p.new.n p.ensures.0 a.known.now a.n.now v.invariant.3,
      numbers-next f a.marked v.k h v.known p.new.known v.n p.new.n p.ensures.0 mark_room v.numbered p.result (omega (arith, v.invariant.1)) p.ensures.1 v.invariant.4,
    )

same_length : tie.Need-shape_of-known invariant-loop decreases-loop
same_length c = c.loop-k.invariant.3.room.1 ∙ sym c.requires.0.1

returns : tie.Need-returns invariant-loop decreases-loop
unfolding with_labels
returns c = let v = c.loop-k in
    let a = c.args in
    let f : ℕ → ℕ = λ x. get_or a.labels.now x 0 in
    let e : v.k ≡ a.count = omega (arith, v.invariant.0, c.loop-k-test.false) in
    (rw e at v.invariant.3, (rw e at (v.invariant.4 [])) ∙ ap (padded mark_room 0) (sym (map-map (number_in (take v.n v.known)) f (take a.count a.marked))))

pub numbered_marks_spec : {M : Type 1} → statement M
numbered_marks_spec =
    tie.close
    (tie.spec
    invariant-loop
    decreases-loop
    loop-holds
    mul-label
    array-read-label
    cast-label
    mul-label-2
    element-copy-out-label
    number-label-requires
    mul-numbered
    array-write-numbered
    add-k
    loop-less
    loop-again
    same_length
    returns)
