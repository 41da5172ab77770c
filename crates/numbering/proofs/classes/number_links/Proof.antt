-- Invariant: with the classes of the links that are left, all are numbered, and the first k links have their numbers.
use borrow.Author.Rules.{rules}
use Prim.Native.Nat.{ℕ, ◌≤◌, ◌<◌, ◌+◌, ◌-◌}
use mathlib.Core.Path.{◌≡◌, refl, sym, ◌∙◌}
use mathlib.Core.List.{List, map}
use native.Mathlib.Omega.{arith}
use lib.ListN.{length, take, drop, get_or, length-set}
use Rattle.rows.specs.Format.{most_links}
use Rattle.rows.specs.Held.{index_of}
use Rattle.rows.specs.Packed.{padded}
use Rattle.numbering.specs.Numbering.{numbering, label_in, with_classes, link_labels, links_by}
use Rattle.numbering.proofs.Turns.{classes-end}
use Rattle.numbering.proofs.Kept.{pass-count, pass-left, pass-stored}
use Rattle.numbering.proofs.classes.number_links.Statement.{statement}
use Rattle.numbering.proofs.classes.number_links.Tie as tie

abbrev invariant-loop : tie.invariant-loop-k
invariant-loop numbers₀ count₀ links classes n port-count hints ports numbered₀ k₀ numbers count numbered k = (k ≤ port-count) × (length ports ≡ most_links) × (length numbered ≡ most_links) × (count ≤ count₀ + k)
    × (with_classes (numbering numbers count) (map (label_in links classes n) (drop k (take port-count ports))) ≡ with_classes (numbering numbers₀ count₀) (link_labels (label_in links classes n) port-count ports))
    × ((later : List ℕ) → numbered ≡ links_by (with_classes (with_classes (numbering numbers₀ count₀) (link_labels (label_in links classes n) port-count ports)) later).numbers (label_in links classes n) k ports)

abbrev decreases-loop : tie.decreases-loop-k
decreases-loop numbers₀ count₀ links classes n port-count hints ports numbered₀ k₀ numbers count numbered k = port-count - k

loop-holds : tie.Need-loop-k-init invariant-loop decreases-loop
unfolding padded
loop-holds c = (search rules, search rules, search rules, search rules, refl, λ later. refl)

mul-label-of : tie.Need-offset_bounds-ports-k invariant-loop decreases-loop
mul-label-of c = search rules

array-read-label-of : tie.Need-bounds-ports-k invariant-loop decreases-loop
array-read-label-of c = search rules

label-of-requires : tie.Need-label_of-label-requires invariant-loop decreases-loop
label-of-requires c κs = search rules

number-class-requires : tie.Need-number_class-requires invariant-loop decreases-loop
number-class-requires c κs = let s = c in
    let a = s.args in
    (omega (arith, c.label_of-label.ensures, s.requires.0.2 (index_of (get_or a.ports c.loop-k.k 0) (take a.n a.links.now))), omega (arith, s.requires.2, s.requires.1))

mul-numbered : tie.Need-offset_bounds-numbered-k invariant-loop decreases-loop
mul-numbered c = search rules

array-write-numbered : tie.Need-bounds-numbered-k invariant-loop decreases-loop
array-write-numbered c = search rules

add-k : tie.Need-overflow_add-k invariant-loop decreases-loop
add-k c = search rules

loop-less : tie.Need-loop-k-smaller invariant-loop decreases-loop
loop-less c = search rules

loop-again : tie.Need-loop-k-preserved invariant-loop decreases-loop
loop-again c = let l = c in
    let a = l.args in
    let f = label_in a.links.now a.classes.now a.n in
    let v = l.loop-k in
    let p = c.number_class in
    let n = numbering v.numbers v.count in
    let n' = numbering p.new.numbers p.new.count in
    let all = with_classes (numbering a.numbers.now a.count.now) (link_labels f a.port_count a.ports) in
    let g = c.label_of-label in
    let fits : a.port_count ≤ length a.ports = omega (arith, v.invariant.1, l.requires.1) in
    let h : v.k < a.port_count = omega arith in (
      search rules,
      v.invariant.1,
      simp length-set v.invariant.2,
      omega (arith, v.invariant.3, pass-count f a.ports a.port_count v.k fits h n n' all g.result p.result g.ensures p.ensures.0 v.invariant.4),
      pass-left f a.ports a.port_count v.k fits h n n' all g.result p.result g.ensures p.ensures.0 v.invariant.4,
      λ later. pass-stored f a.ports a.port_count v.k fits h n n' all g.result p.result g.ensures p.ensures.0 v.invariant.4 most_links later v.numbered p.ensures.1 (omega (arith, l.requires.1)) (v.invariant.5 later),
    )

returns : tie.Need-returns invariant-loop decreases-loop
returns c = let l = c in
    let a = l.args in
    let v = l.loop-k in
    let f = label_in a.links.now a.classes.now a.n in
    let e : v.k ≡ a.port_count = omega arith in
    let d : numbering v.numbers v.count ≡ with_classes (numbering a.numbers.now a.count.now) (link_labels f a.port_count a.ports)
    = sym (classes-end f a.ports a.port_count v.k (numbering v.numbers v.count) (omega arith)) ∙ v.invariant.4 in
    (d, λ later. rw d (rw e at (v.invariant.5 later)))

pub number_links_spec : {M : Type 1} → statement M
number_links_spec =
    tie.close
    (tie.spec
    invariant-loop
    decreases-loop
    loop-holds
    mul-label-of
    array-read-label-of
    label-of-requires
    number-class-requires
    mul-numbered
    array-write-numbered
    add-k
    loop-less
    loop-again
    returns)
