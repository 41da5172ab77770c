-- Invariant: with the contexts that are left, all have their fillings, and all atoms are there.
use borrow.Author.Rules.{rules}
use native.Mathlib.Omega.{arith}
use Prim.Native.Nat.{ℕ, ◌≤◌, ◌<◌, ◌+◌, ◌*◌, ◌-◌}
use mathlib.Core.Path.{◌≡◌, refl, sym, ◌∙◌, ap, subst}
use mathlib.Core.List.{List, ◌++◌, append-nil, append_assoc}
use lib.ListN.{length, get_or, take, drop, length-take}
use Rattle.rows.specs.Limits.{sheet_atom_limit, sheet_marks, atom_room, context_room, mark_room}
use Rattle.rows.specs.declared.Atom.{Atom}
use Rattle.normalising.specs.NormalRows.{past_atoms, past_contexts}
use Rattle.rows.specs.declared.Sheet.{Sheet as Normal}
use Rattle.numbering.proofs.Turns.{unmapped}
use Rattle.filling.specs.Parts.{part_normal, part_room, Exacts}
use Rattle.filling.specs.Glued.{FreshFrom, joined_all, port_pairs, all_pairs}
use Rattle.filling.specs.Whole.{part_atoms, context_atoms, room_for, whole_atoms}
use Rattle.filling.proofs.Parts.{part_low, part-marks}
use Rattle.filling.proofs.Fresh.{fresh-own, fresh-more}
use Rattle.filling.proofs.Loops.{pairs_next, pairs_end, room_twice, room-all, atoms-next, atoms-end}
use Rattle.filling.proofs.whole.whole_of.Statement.{statement}
use Rattle.filling.proofs.whole.whole_of.Tie as tie

abbrev invariant-loop : tie.invariant-loop-i
invariant-loop count list heads head-count labels₀ exact₀ contexts whole₀ i₀ labels exact whole i = (i ≤ count) × (length contexts ≡ context_room) × FreshFrom ((i + 1) * part_room) labels × (whole.count ≤ atom_room)
    × (joined_all labels (all_pairs list (i + 1) (drop i (take count contexts))) ≡ joined_all labels₀ (all_pairs list 1 (take count contexts)))
    × (room_for (whole_atoms whole ++ context_atoms list (i + 1) (drop i (take count contexts))) ≡ room_for (whole_atoms whole₀ ++ context_atoms list 1 (take count contexts)))
    × Exacts list exact

abbrev decreases-loop : tie.decreases-loop-i
decreases-loop count list heads head-count labels₀ exact₀ contexts whole₀ i₀ labels exact whole i = count - i

loop-holds : tie.Need-loop-i-init invariant-loop decreases-loop
loop-holds c = let s = c in
    (search rules, search (rules, unmapped), fresh-own s.args.labels.now part_room (omega arith) s.requires.3, s.requires.1, refl, refl, s.requires.4)

mul-context : tie.Need-offset_bounds-contexts-i invariant-loop decreases-loop
mul-context c = omega (arith, c.requires.0.counted.few)

array-copy-out-context : tie.Need-bounds-contexts-i invariant-loop decreases-loop
array-copy-out-context c = omega (arith, c.requires.0.counted.few)

part-of-requires : tie.Need-part_of-part-requires invariant-loop decreases-loop
part-of-requires c κs = c.requires.2

add-with-ports : tie.Need-overflow_add-i invariant-loop decreases-loop
add-with-ports c = search rules

cast-with-ports : tie.Need-overflow_cast-context invariant-loop decreases-loop
cast-with-ports c = search rules

with-ports-requires : tie.Need-with_ports-requires invariant-loop decreases-loop
with-ports-requires c κs = let p = c in
    let l = p in
    let s = l in
    let x = get_or s.args.contexts l.loop-i.i past_contexts in (
      (omega (arith, s.requires.0.counted.few, p.loop-i-test.true), s.requires.0.counted.count l.loop-i.i, fresh-more l.loop-i.labels ((l.loop-i.i + 1) * part_room) ((l.loop-i.i + 1 + 1) * part_room) (omega arith) (omega (arith, s.requires.0.counted.few, p.loop-i-test.true)) l.loop-i.invariant.2, omega arith, omega (arith, s.requires.0.counted.count l.loop-i.i)),
      λ k. (s.requires.0.links l.loop-i.i k, subst (λ (n : Normal). get_or n.marked k 0 < part_room) (sym p.part_of-part.ensures) ((part_low s.args.list.now x.number).marked k)),
    )

note-exact-requires : tie.Need-note_exact-requires invariant-loop decreases-loop
note-exact-requires c κs = let p = c in
    let l = p in
    let s = l in
    let x = get_or s.args.contexts l.loop-i.i past_contexts in
    (subst (λ (n : Normal). n.mark_count ≤ sheet_marks) (sym p.part_of-part.ensures) (part_low s.args.list.now x.number).marks, subst (λ (n : Normal). length n.marks ≡ mark_room) (sym p.part_of-part.ensures) (part-marks s.args.list.now x.number), s.requires.0.counted.number l.loop-i.i, s.requires.0.counted.count l.loop-i.i)

add-with-part : tie.Need-overflow_add-i-in-loop-i invariant-loop decreases-loop
add-with-part c = search rules

with-part-requires : tie.Need-with_part-whole-requires invariant-loop decreases-loop
with-part-requires c κs = let p = c in
    let l = p in
    let s = l in
    let x = get_or s.args.contexts l.loop-i.i past_contexts in
    let low = part_low s.args.list.now x.number in
    (l.loop-i.invariant.3, omega (arith, s.requires.0.counted.few, p.loop-i-test.true), subst (λ (n : Normal). n.atom_count ≤ sheet_atom_limit) (sym p.part_of-part.ensures) low.atoms, subst (λ (n : Normal). (i k : ℕ) → get_or (get_or n.atoms i past_atoms).links k 0 < part_room) (sym p.part_of-part.ensures) low.atom_links)

add-i : tie.Need-overflow_add-i-in-loop-i-2 invariant-loop decreases-loop
add-i c = let t = c in
    omega (arith, t.loop-i-test.true, t.requires.0.counted.few)

loop-less : tie.Need-loop-i-smaller invariant-loop decreases-loop
loop-less c = search rules

loop-again : tie.Need-loop-i-preserved invariant-loop decreases-loop
loop-again c = let note = c in
    let w = note.before.before.before.before in
    let p = w.before.before.before.before.before.before in
    let l = p.before.before.before.before in
    let s = l.before.before in
    let a = s.args in
    let x = get_or a.contexts l.loop-i.i past_contexts in
    let left = drop (l.loop-i.i + 1) (take a.count a.contexts) in
    let many : a.count ≤ length a.contexts = omega (arith, l.loop-i.invariant.1, s.requires.0.counted.few) in
    let in-loop = p.loop-i-test.true in
    let pairs = all_pairs a.list.now (l.loop-i.i + 1 + 1) left in
    let rest = context_atoms a.list.now (l.loop-i.i + 1 + 1) left in
    let W = whole_atoms l.loop-i.whole in
    let P = part_atoms (l.loop-i.i + 1) (part_normal a.list.now x.number) in
    let g : whole_atoms c.with_part-whole.result ≡ room_for (W ++ P) = c.with_part-whole.ensures.atoms ∙ ap (λ (n : Normal). room_for (W ++ part_atoms (l.loop-i.i + 1) n)) p.part_of-part.ensures in (
      search rules,
      l.loop-i.invariant.1,
      w.with_ports.ensures.1,
      c.with_part-whole.ensures.few,
      ap (λ (m : List ℕ). joined_all m pairs) (w.with_ports.ensures.0 ∙ ap (λ (n : Normal). joined_all l.loop-i.labels (port_pairs (l.loop-i.i + 1) (take x.count x.links) (take x.count n.marked))) p.part_of-part.ensures)
          ∙ sym (pairs_next a.list.now a.contexts a.count l.loop-i.i past_contexts l.loop-i.labels (l.loop-i.i + 1) many in-loop) ∙ l.loop-i.invariant.4,
      ap (λ (w : List Atom). room_for (w ++ rest)) g ∙ room_twice (W ++ P) rest ∙ ap room_for (append_assoc W P rest)
          ∙ ap (λ (t : List Atom). room_for (W ++ t)) (sym (atoms-next a.list.now a.contexts a.count l.loop-i.i past_contexts (l.loop-i.i + 1) many in-loop)) ∙ l.loop-i.invariant.5,
      note.note_exact.ensures a.list.now (ap (λ (n : Normal). take n.mark_count n.marks) p.part_of-part.ensures) l.loop-i.invariant.6,
    )

returns : tie.Need-returns invariant-loop decreases-loop
returns c = let l = c in
    let a = l.args in
    let W = whole_atoms l.loop-i.whole in (
      l.loop-i.invariant.6,
      record {
        atoms = sym (room-all W (omega (arith, length-take l.loop-i.whole.count l.loop-i.whole.atoms, l.loop-i.invariant.3))) ∙ ap room_for (sym (append-nil W))
            ∙ ap (λ (t : List Atom). room_for (W ++ t)) (sym (atoms-end a.list.now a.contexts a.count l.loop-i.i past_contexts (l.loop-i.i + 1) c.loop-i-test.false))
            ∙ l.loop-i.invariant.5;
        few = l.loop-i.invariant.3;
        labels = sym (pairs_end a.list.now a.contexts a.count l.loop-i.i past_contexts l.loop-i.labels (l.loop-i.i + 1) c.loop-i-test.false) ∙ l.loop-i.invariant.4;
      },
    )

pub whole_of_spec : {M : Type 1} → statement M
whole_of_spec =
    tie.close
    (tie.spec
    invariant-loop
    decreases-loop
    loop-holds
    mul-context
    array-copy-out-context
    part-of-requires
    add-with-ports
    cast-with-ports
    with-ports-requires
    note-exact-requires
    add-with-part
    with-part-requires
    add-i
    loop-less
    loop-again
    returns)
