-- Invariant: the links of the first i atoms are seen, and these atoms have their numbers.
use borrow.Author.Rules.{rules}
use native.Mathlib.Omega.{arith}
use Prim.Native.Nat.{ℕ, ◌≤◌, ◌<◌, ◌+◌, ◌-◌}
use mathlib.Core.Path.{◌≡◌, refl, sym, ◌∙◌, ap, subst}
use mathlib.Core.List.{List, [], map}
use lib.ListN.{length, get_or, take}
use lib.Seq.{get_or-take, length-take-le}
use Rattle.rows.specs.Limits.{atom_room}
use Rattle.rows.specs.declared.Atom.{Atom}
use Rattle.rows.proofs.Lists.{mapped, mapped_at}
use Rattle.normalising.specs.NormalRows.{past_atoms}
use Rattle.numbering.proofs.Turns.{unmapped}
use Rattle.filling.specs.Whole.{labelled_atom, Linked}
use Rattle.filling.specs.Classes.{Sees, with_labels, links_in, numbered_at}
use Rattle.filling.proofs.Loops.{sees-none, atoms-seen, atoms-numbered}
use Rattle.filling.proofs.classes.numbered_atoms.Statement.{statement}
use Rattle.filling.proofs.classes.numbered_atoms.Tie as tie

abbrev invariant-loop : tie.invariant-loop-i
invariant-loop labels known₀ n₀ count atoms₀ i₀ known n atoms i = (i ≤ count) × (length atoms₀ ≡ atom_room) × Sees known₀ n₀ known n (links_in (map (labelled_atom labels) (take i atoms₀)))
    × ((later : List ℕ) → atoms ≡ mapped (numbered_at (with_labels (take n known) later) labels) i atoms₀)

abbrev decreases-loop : tie.decreases-loop-i
decreases-loop labels known₀ n₀ count atoms₀ i₀ known n atoms i = count - i

loop-holds : tie.Need-loop-i-init invariant-loop decreases-loop
unfolding links_in
loop-holds c = (search rules, search (rules, unmapped), sees-none _ _ c.requires.0, λ later. refl)

mul-atom : tie.Need-offset_bounds-atoms-i invariant-loop decreases-loop
mul-atom c = search rules

array-copy-out-atom : tie.Need-bounds-atoms-i invariant-loop decreases-loop
array-copy-out-atom c = search rules

cast-numbered-links : tie.Need-overflow_cast-atom invariant-loop decreases-loop
cast-numbered-links c = search rules

numbered-links-requires : tie.Need-numbered_links-links-requires invariant-loop decreases-loop
numbered-links-requires c κs = let l = c in
    let s = l in
    let a = s.args in
    let v = l.loop-i in
    let t = c.loop-i-test.true in
    let here : get_or v.atoms v.i past_atoms ≡ get_or a.atoms v.i past_atoms
    = ap (λ (b : List Atom). get_or b v.i past_atoms) (v.invariant.3 []) ∙ mapped_at (numbered_at (with_labels (take v.n v.known) []) a.labels.now) past_atoms a.atoms v.i (omega (arith, v.invariant.1, s.requires.1, t)) in
    let q : Linked (get_or v.atoms v.i past_atoms) = subst Linked (get_or-take a.count a.atoms v.i past_atoms t ∙ sym here) (s.requires.2 v.i) in
    (v.invariant.2.room, q.0, q.1)

mul-atoms : tie.Need-offset_bounds-atoms-i-in-loop-i invariant-loop decreases-loop
mul-atoms c = search rules

array-set-from-atoms : tie.Need-bounds-atoms-i-in-loop-i invariant-loop decreases-loop
array-set-from-atoms c = search rules

add-i : tie.Need-overflow_add-i invariant-loop decreases-loop
add-i c = search rules

loop-less : tie.Need-loop-i-smaller invariant-loop decreases-loop
loop-less c = search rules

loop-again : tie.Need-loop-i-preserved invariant-loop decreases-loop
loop-again c = let p = c.numbered_links-links in
    let l = c in
    let s = l in
    let a = s.args in
    let v = l.loop-i in
    let m = a.labels.now in
    let x = get_or v.atoms v.i past_atoms in
    let t = c.loop-i-test.true in
    let h : v.i < length a.atoms = omega (arith, v.invariant.1, s.requires.1, t) in
    let here : x ≡ get_or a.atoms v.i past_atoms = ap (λ (b : List Atom). get_or b v.i past_atoms) (v.invariant.3 []) ∙ mapped_at (numbered_at (with_labels (take v.n v.known) []) m) past_atoms a.atoms v.i h in (
      omega (arith, t),
      v.invariant.1,
      atoms-seen m a.atoms v.i past_atoms x h here v.known p.new.known v.n p.new.n p.ensures.0 a.known.now a.n.now v.invariant.2,
      atoms-numbered m a.atoms v.i past_atoms x h here v.known p.new.known v.n p.new.n p.ensures.0 v.atoms p.result p.ensures.1 v.invariant.3,
    )

same_length : tie.Need-shape_of-known invariant-loop decreases-loop
same_length c = c.loop-i.invariant.2.room.1 ∙ sym c.requires.0.1

returns : tie.Need-returns invariant-loop decreases-loop
returns c = let v = c.loop-i in
    let s = c in
    let a = s.args in
    let e : v.i ≡ a.count = omega (arith, v.invariant.0, c.loop-i-test.false) in
    (rw e at v.invariant.2, (λ later. rw e at (v.invariant.3 later), length-take-le a.count a.atoms (omega (arith, v.invariant.1, s.requires.1))))

pub numbered_atoms_spec : {M : Type 1} → statement M
numbered_atoms_spec =
    tie.close
    (tie.spec
    invariant-loop
    decreases-loop
    loop-holds
    mul-atom
    array-copy-out-atom
    cast-numbered-links
    numbered-links-requires
    mul-atoms
    array-set-from-atoms
    add-i
    loop-less
    loop-again
    same_length
    returns)
