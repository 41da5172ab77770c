-- Invariant: with the classes of the atoms that are left, all are numbered, and the first i atoms have their numbers.
use borrow.Author.Rules.{rules}
use Prim.Native.Nat.{ℕ, ◌≤◌, ◌<◌, ◌+◌, ◌*◌, ◌-◌}
use mathlib.Core.Path.{◌≡◌, refl, sym, ◌∙◌, ap}
use mathlib.Core.List.{List, []}
use native.Mathlib.Omega.{arith}
use lib.ListN.{length, take, drop, get_or}
use Rattle.rows.specs.Format.{most_links}
use Rattle.rows.specs.Limits.{atom_room}
use Rattle.rows.specs.declared.Atom.{Atom}
use Rattle.rows.proofs.Lists.{mapped}
use Rattle.numbering.specs.Numbering.{numbering, label_in, with_classes, link_labels, atom_labels, atom_numbered}
use Rattle.numbering.proofs.Turns.{unmapped, with-links-count, atoms-next, atoms-end}
use Rattle.numbering.proofs.Kept.{pass_same, pass-put}
use Rattle.numbering.proofs.numbered.numbered_atoms.Statement.{statement}
use Rattle.numbering.proofs.numbered.numbered_atoms.Tie as tie

-- past an array's end the logic reads this
abbrev none : Atom
none = record { name = 0; count = 0; links = [] }

abbrev linked : Atom → List ℕ → Atom
linked a w = record { name = a.name; count = a.count; links = w }

abbrev invariant-loop : tie.invariant-loop-i
invariant-loop numbers₀ count₀ links classes n atom-count hints atoms₀ i₀ numbers count atoms i = (i ≤ atom-count) × (length atoms₀ ≡ atom_room) × (count ≤ count₀ + most_links * i)
    × (with_classes (numbering numbers count) (atom_labels (label_in links classes n) (drop i (take atom-count atoms₀))) ≡ with_classes (numbering numbers₀ count₀) (atom_labels (label_in links classes n) (take atom-count atoms₀)))
    × ((later : List ℕ) → atoms ≡ mapped (atom_numbered (with_classes (with_classes (numbering numbers₀ count₀) (atom_labels (label_in links classes n) (take atom-count atoms₀))) later).numbers (label_in links classes n)) i atoms₀)

abbrev decreases-loop : tie.decreases-loop-i
decreases-loop numbers₀ count₀ links classes n atom-count hints atoms₀ i₀ numbers count atoms i = atom-count - i

loop-holds : tie.Need-loop-i-init invariant-loop decreases-loop
loop-holds c = (search rules, search (rules, unmapped), search rules, refl, λ later. refl)

mul-atom : tie.Need-offset_bounds-atoms-i invariant-loop decreases-loop
mul-atom c = search rules

array-copy-out-atom : tie.Need-bounds-atoms-i invariant-loop decreases-loop
array-copy-out-atom c = search rules

cast-number-links : tie.Need-overflow_cast-atom invariant-loop decreases-loop
cast-number-links c = search rules

number-links-requires : tie.Need-number_links-link_numbers-requires invariant-loop decreases-loop
number-links-requires c κs = let l = c in
    let s = l in
    let a = s.args in
    let f = label_in a.links.now a.classes.now a.n in
    let v = l.loop-i in
    let all = with_classes (numbering a.numbers.now a.count.now) (atom_labels f (take a.atom_count a.atoms)) in
    let e = pass_same none (λ b. b.count) (λ b. b.links) linked f all a.atoms v.atoms v.i (omega (arith, v.invariant.1, s.requires.0.1)) v.invariant.4 in
    let few : (get_or v.atoms v.i none).count ≤ most_links = rw e (s.requires.1 v.i) in
    (s.requires.0.0, few, omega (arith, v.invariant.2, s.requires.0.2))

mul-atoms : tie.Need-offset_bounds-atoms-i-in-loop-i invariant-loop decreases-loop
mul-atoms c = search rules

array-set-from-atoms : tie.Need-bounds-atoms-i-in-loop-i invariant-loop decreases-loop
array-set-from-atoms c = search rules

add-i : tie.Need-overflow_add-i invariant-loop decreases-loop
add-i c = search rules

loop-less : tie.Need-loop-i-smaller invariant-loop decreases-loop
loop-less c = search rules

loop-again : tie.Need-loop-i-preserved invariant-loop decreases-loop
loop-again c = let l = c in
    let t = c.loop-i-test.true in
    let s = l in
    let a = s.args in
    let f = label_in a.links.now a.classes.now a.n in
    let v = l.loop-i in
    let p = c.number_links-link_numbers in
    let n = numbering v.numbers v.count in
    let n' = numbering p.new.numbers p.new.count in
    let all = with_classes (numbering a.numbers.now a.count.now) (atom_labels f (take a.atom_count a.atoms)) in
    let rest = atom_labels f (drop (v.i + 1) (take a.atom_count a.atoms)) in
    let h : v.i < length a.atoms = omega (arith, v.invariant.1, s.requires.0.1) in
    let b = get_or a.atoms v.i none in
    let e = pass_same none (λ b. b.count) (λ b. b.links) linked f all a.atoms v.atoms v.i h v.invariant.4 in
    let next : n' ≡ with_classes n (link_labels f b.count b.links) = rw e at p.ensures.0 in
    let left : with_classes n' rest ≡ all = rw next (sym (atoms-next f a.atoms a.atom_count v.i n none (omega (arith, v.invariant.1, s.requires.0.1)) (omega arith)) ∙ v.invariant.3) in (
      search rules,
      v.invariant.1,
      omega (arith, v.invariant.2, ap (λ m. m.count) next, with-links-count n f b.count b.links, s.requires.1 v.i),
      left,
      pass-put none (λ b. b.count) (λ b. b.links) linked f all a.atoms v.atoms v.i h v.invariant.4 n' rest p.result left p.ensures.1,
    )

returns : tie.Need-returns invariant-loop decreases-loop
returns c = let l = c in
    let a = l.args in
    let v = l.loop-i in
    let f = label_in a.links.now a.classes.now a.n in
    let e : v.i ≡ a.atom_count = omega arith in
    let d : numbering v.numbers v.count ≡ with_classes (numbering a.numbers.now a.count.now) (atom_labels f (take a.atom_count a.atoms))
    = sym (atoms-end f a.atoms a.atom_count v.i (numbering v.numbers v.count) (omega arith)) ∙ v.invariant.3 in
    (d, (omega (arith, v.invariant.2), λ later. rw d (rw e at (v.invariant.4 later))))

pub numbered_atoms_spec : {M : Type 1} → statement M
numbered_atoms_spec =
    tie.close
    (tie.spec
    invariant-loop
    decreases-loop
    loop-holds
    mul-atom
    array-copy-out-atom
    cast-number-links
    number-links-requires
    mul-atoms
    array-set-from-atoms
    add-i
    loop-less
    loop-again
    returns)
