-- Invariant: with the classes of the marks that are left, all are numbered, and the first i marks have their numbers.
use borrow.Author.Rules.{rules}
use Prim.Native.Nat.{◌≤◌, ◌<◌, ◌+◌, ◌-◌}
use mathlib.Core.Path.{◌≡◌, refl, sym, ◌∙◌, subst}
use mathlib.Core.List.{[], map}
use native.Mathlib.Omega.{arith}
use lib.ListN.{length, take, drop, get_or, length-set}
use Rattle.rows.specs.Limits.{mark_room}
use Rattle.rows.specs.Held.{index_of}
use Rattle.rows.specs.Packed.{padded}
use Rattle.numbering.specs.Numbering.{Numbering, numbering, mark_label_in, with_classes, marks_by}
use Rattle.numbering.proofs.Turns.{classes-end}
use Rattle.numbering.proofs.Kept.{pass-count, pass-left, pass-stored}
use Rattle.numbering.proofs.numbered.numbered_marks.Statement.{statement}
use Rattle.numbering.proofs.numbered.numbered_marks.Tie as tie

abbrev invariant-loop : tie.invariant-loop-i
invariant-loop numbers₀ count₀ marks marked classes n ascending numbered₀ i₀ numbers count numbered i = (i ≤ n) × (length numbered ≡ mark_room) × (count ≤ count₀ + i)
    × (with_classes (numbering numbers count) (map (mark_label_in marks marked classes n) (drop i (take n ascending))) ≡ with_classes (numbering numbers₀ count₀) (map (mark_label_in marks marked classes n) (take n ascending)))
    × (numbered ≡ marks_by (with_classes (with_classes (numbering numbers₀ count₀) (map (mark_label_in marks marked classes n) (take n ascending))) []).numbers (mark_label_in marks marked classes n) (take i ascending))

abbrev decreases-loop : tie.decreases-loop-i
decreases-loop numbers₀ count₀ marks marked classes n ascending numbered₀ i₀ numbers count numbered i = n - i

loop-holds : tie.Need-loop-i-init invariant-loop decreases-loop
unfolding padded
loop-holds c = (search rules, search rules, search rules, refl, refl)

mul-mark-label : tie.Need-offset_bounds-ascending-i invariant-loop decreases-loop
mul-mark-label c = search rules

shared-slice-read-mark-label : tie.Need-bounds-ascending-i invariant-loop decreases-loop
shared-slice-read-mark-label c = search rules

mark-label-requires : tie.Need-mark_label-label-requires invariant-loop decreases-loop
mark-label-requires c κs = search rules

number-class-requires : tie.Need-number_class-requires invariant-loop decreases-loop
number-class-requires c κs = let l = c in
    let s = l in
    let a = s.args in
    (omega (arith, c.mark_label-label.ensures, s.requires.0.4 (get_or a.marked.now (index_of (get_or a.ascending.now l.loop-i.i 0) (take a.n a.marks.now)) 0)), omega (arith, l.loop-i.invariant.2, s.requires.3))

mul-numbered : tie.Need-offset_bounds-numbered-i invariant-loop decreases-loop
mul-numbered c = search rules

array-write-numbered : tie.Need-bounds-numbered-i invariant-loop decreases-loop
array-write-numbered c = search rules

add-i : tie.Need-overflow_add-i invariant-loop decreases-loop
add-i c = search rules

loop-less : tie.Need-loop-i-smaller invariant-loop decreases-loop
loop-less c = search rules

loop-again : tie.Need-loop-i-preserved invariant-loop decreases-loop
loop-again c = let l = c in
    let s = l in
    let a = s.args in
    let f = mark_label_in a.marks.now a.marked.now a.classes.now a.n in
    let v = l.loop-i in
    let p = c.number_class in
    let n = numbering v.numbers v.count in
    let n' = numbering p.new.numbers p.new.count in
    let all = with_classes (numbering a.numbers.now a.count.now) (map f (take a.n a.ascending.now)) in
    let g = c.mark_label-label in
    let h : v.i < a.n = omega arith in (
      search rules,
      simp length-set v.invariant.1,
      omega (arith, v.invariant.2, pass-count f a.ascending.now a.n v.i s.requires.2 h n n' all g.result p.result g.ensures p.ensures.0 v.invariant.3),
      pass-left f a.ascending.now a.n v.i s.requires.2 h n n' all g.result p.result g.ensures p.ensures.0 v.invariant.3,
      pass-stored f a.ascending.now a.n v.i s.requires.2 h n n' all g.result p.result g.ensures p.ensures.0 v.invariant.3 mark_room [] v.numbered p.ensures.1 (omega (arith, s.requires.1)) v.invariant.4,
    )

returns : tie.Need-returns invariant-loop decreases-loop
unfolding with_classes
returns c = let l = c in
    let a = l.args in
    let v = l.loop-i in
    let f = mark_label_in a.marks.now a.marked.now a.classes.now a.n in
    let e : v.i ≡ a.n = omega arith in
    let d : numbering v.numbers v.count ≡ with_classes (numbering a.numbers.now a.count.now) (map f (take a.n a.ascending.now))
    = sym (classes-end f a.ascending.now a.n v.i (numbering v.numbers v.count) (omega arith)) ∙ v.invariant.3 in
    let t : v.numbered ≡ marks_by v.numbers f (take a.n a.ascending.now)
    = subst (λ (m : Numbering). v.numbered ≡ marks_by m.numbers f (take a.n a.ascending.now)) (sym d) (rw e at v.invariant.4) in
    (d, t)

pub numbered_marks_spec : {M : Type 1} → statement M
numbered_marks_spec =
    tie.close
    (tie.spec
    invariant-loop
    decreases-loop
    loop-holds
    mul-mark-label
    shared-slice-read-mark-label
    mark-label-requires
    number-class-requires
    mul-numbered
    array-write-numbered
    add-i
    loop-less
    loop-again
    returns)
