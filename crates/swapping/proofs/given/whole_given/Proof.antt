-- Invariant: with the contexts that are left, all have what is given to them, and all atoms are there.
use borrow.Author.Rules.{rules}
use native.Mathlib.Omega.{arith}
use Prim.Native.Nat.{ℕ, ◌≤◌, ◌+◌, ◌*◌, ◌-◌}
use mathlib.Core.Path.{◌≡◌, refl, sym, ◌∙◌, ap}
use mathlib.Core.List.{List, ◌++◌, append-nil, append_assoc}
use lib.ListN.{length, get_or, take, drop, length-take}
use Rattle.hyperlmntal.specs.Link.{◌∈◌}
use Rattle.rows.specs.Format.{most_links}
use Rattle.rows.specs.Limits.{atom_room, context_room}
use Rattle.rows.specs.declared.Atom.{Atom}
use Rattle.numbering.specs.Numbering.{numbering}
use Rattle.numbering.proofs.Turns.{unmapped}
use Rattle.normalising.specs.NormalRows.{past_contexts}
use Rattle.placing.specs.Net.{NetCell}
use Rattle.network.specs.NetIn.{net_in}
use Rattle.filling.specs.Parts.{part_normal, part_room}
use Rattle.filling.specs.Glued.{FreshFrom, joined_all, port_pairs, all_pairs}
use Rattle.filling.specs.Whole.{part_atoms, context_atoms, room_for, whole_atoms}
use Rattle.filling.proofs.Fresh.{fresh-own, fresh-more}
use Rattle.filling.proofs.Loops.{pairs_next, pairs_end, room_twice, room-all, atoms-next, atoms-end}
use Rattle.swapping.specs.Given.{GivenPart}
use Rattle.swapping.proofs.GivenParts.{blank-in, ends-range, ports-low, begun-few, marked-low, marked-part, atoms-part}
use Rattle.swapping.proofs.given.whole_given.Statement.{statement}
use Rattle.swapping.proofs.given.whole_given.Tie as tie

abbrev invariant-loop : tie.invariant-loop-i
invariant-loop count sheet pattern links-to given labels₀ contexts blanks whole₀ i₀ labels whole i = (i ≤ count) × (length contexts ≡ context_room) × FreshFrom ((i + 1) * part_room) labels × (whole.count ≤ atom_room)
    × ((list : List ℕ) → ((c : NetCell) → c ∈ (net_in pattern).contexts → GivenPart sheet links-to given list c)
    → (joined_all labels (all_pairs list (i + 1) (drop i (take count contexts))) ≡ joined_all labels₀ (all_pairs list 1 (take count contexts)))
    × (room_for (whole_atoms whole ++ context_atoms list (i + 1) (drop i (take count contexts))) ≡ room_for (whole_atoms whole₀ ++ context_atoms list 1 (take count contexts))))

abbrev decreases-loop : tie.decreases-loop-i
decreases-loop count sheet pattern links-to given labels₀ contexts blanks whole₀ i₀ labels whole i = count - i

loop-holds : tie.Need-loop-i-init invariant-loop decreases-loop
loop-holds c = let s = c in
    (omega arith, search (rules, unmapped), fresh-own s.args.labels.now part_room (omega arith) s.requires.0.2, s.requires.0.1, λ list parts. (refl, refl))

mul-context : tie.Need-offset_bounds-contexts-i invariant-loop decreases-loop
mul-context c = omega (arith, c.requires.0.0.counted.few)

array-copy-out-context : tie.Need-bounds-contexts-i invariant-loop decreases-loop
array-copy-out-context c = omega (arith, c.requires.0.0.counted.few)

cast-n : tie.Need-overflow_cast-n invariant-loop decreases-loop
cast-n c = search rules

context-numbered-requires : tie.Need-context_numbered-j-requires invariant-loop decreases-loop
context-numbered-requires c κs = let t = c in
    let s = t in
    (s.requires.1.0.figure-fit.context-count, s.requires.1.3.blank t.loop-i.i t.loop-i-test.true)

mul-blank : tie.Need-offset_bounds-blanks-j invariant-loop decreases-loop
mul-blank c = let s = c in
    omega (arith, c.context_numbered-j.ensures.0, s.requires.1.0.figure-fit.context-count)

array-copy-out-blank : tie.Need-bounds-blanks-j invariant-loop decreases-loop
array-copy-out-blank c = let s = c in
    omega (arith, c.context_numbered-j.ensures.0, s.requires.1.0.figure-fit.context-count, s.requires.1.0.figure-fit.context-room)

ports-of-requires : tie.Need-ports_of-ports-requires invariant-loop decreases-loop
ports-of-requires c κs = let x = c in
    let t = x in
    let s = t in
    let a = s.args in
    let i = t.loop-i.i in
    let x' = get_or a.contexts i past_contexts in
    let ready = s.requires.1.0 in
    let j = x.context_numbered-j.result in
    let h = x.context_numbered-j.ensures.0 in
    let q = s.requires.1.3.ports i j t.loop-i-test.true h x.context_numbered-j.ensures.1 in
    (ready.sheet-fit.class-count, s.requires.1.1.room, s.requires.0.0.counted.count i, ends-range a.sheet a.pattern ready s.requires.1.4 a.links_to.now a.given.now s.requires.1.1 j h x'.number x'.count x.context_numbered-j.ensures.1 q)

add-with-given : tie.Need-overflow_add-i invariant-loop decreases-loop
add-with-given c = let t = c in
    omega (arith, t.loop-i-test.true, t.requires.0.0.counted.few)

with-given-requires : tie.Need-with_given-whole-requires invariant-loop decreases-loop
with-given-requires c κs = let t = c in
    let s = t in
    (s.requires.1.0.sheet-fit, s.requires.1.2, omega (arith, t.loop-i-test.true, s.requires.0.0.counted.few), t.loop-i.invariant.3, refl)

numbers-of-requires : tie.Need-numbers_of-marked-requires invariant-loop decreases-loop
numbers-of-requires c κs = let g = c in
    let o = g in
    let x = o in
    let t = x in
    let s = t in
    let a = s.args in
    let i = t.loop-i.i in
    let x' = get_or a.contexts i past_contexts in
    let ready = s.requires.1.0 in
    let j = x.context_numbered-j.result in
    let h = x.context_numbered-j.ensures.0 in
    let q = s.requires.1.3.ports i j t.loop-i-test.true h x.context_numbered-j.ensures.1 in (
      s.requires.0.0.counted.count i,
      omega (arith, begun-few a.sheet a.pattern ready s.requires.1.4 a.links_to.now a.given.now s.requires.1.1 j h x'.number x'.count x.context_numbered-j.ensures.1 q o.ports_of-ports.result o.ports_of-ports.ensures (numbering g.with_given-whole.new.numbers g.with_given-whole.new.numbered) g.with_given-whole.ensures.0, s.requires.0.0.counted.count i),
      ports-low a.sheet a.pattern ready s.requires.1.4 a.links_to.now a.given.now s.requires.1.1 j h x'.number x'.count x.context_numbered-j.ensures.1 q o.ports_of-ports.result o.ports_of-ports.ensures,
    )

add-with-ports : tie.Need-overflow_add-i-in-loop-i invariant-loop decreases-loop
add-with-ports c = let t = c in
    omega (arith, t.loop-i-test.true, t.requires.0.0.counted.few)

slice-aggregate-with-ports : tie.Need-slice_bounds-with_ports-end invariant-loop decreases-loop
slice-aggregate-with-ports c = search rules

with-ports-requires : tie.Need-with_ports-requires invariant-loop decreases-loop
with-ports-requires c κs = let m = c in
    let g = m in
    let o = g in
    let x = o in
    let t = x in
    let l = t in
    let s = l in
    let a = s.args in
    let i = l.loop-i.i in
    let x' = get_or a.contexts i past_contexts in
    let ready = s.requires.1.0 in
    let j = x.context_numbered-j.result in
    let h = x.context_numbered-j.ensures.0 in
    let q = s.requires.1.3.ports i j t.loop-i-test.true h x.context_numbered-j.ensures.1 in
    let from = numbering g.with_given-whole.new.numbers g.with_given-whole.new.numbered in
    let after = numbering m.numbers_of-marked.new.numbers m.numbers_of-marked.new.numbered in
    let size : length m.numbers_of-marked.result ≡ most_links = search (rules, m.numbers_of-marked.type_inv) in
    let low = marked-low a.sheet a.pattern ready s.requires.1.4 a.links_to.now a.given.now s.requires.1.1 j h x'.number x'.count x.context_numbered-j.ensures.1 q o.ports_of-ports.result o.ports_of-ports.ensures from g.with_given-whole.ensures.0 after m.numbers_of-marked.ensures.0 m.numbers_of-marked.result m.numbers_of-marked.ensures.1 in (
      (omega (arith, s.requires.0.0.counted.few, t.loop-i-test.true), s.requires.0.0.counted.count i, fresh-more l.loop-i.labels ((i + 1) * part_room) ((i + 1 + 1) * part_room) (omega arith) (omega (arith, s.requires.0.0.counted.few, t.loop-i-test.true)) l.loop-i.invariant.2, omega arith, omega (arith, s.requires.0.0.counted.count i, size)),
      λ k. (s.requires.0.0.links i k, low k),
    )

add-i : tie.Need-overflow_add-i-in-loop-i-2 invariant-loop decreases-loop
add-i c = let t = c in
    omega (arith, t.loop-i-test.true, t.requires.0.0.counted.few)

loop-less : tie.Need-loop-i-smaller invariant-loop decreases-loop
loop-less c = search rules

loop-again : tie.Need-loop-i-preserved invariant-loop decreases-loop
loop-again c = let m = c in
    let g = m in
    let o = g in
    let x = o in
    let t = x in
    let l = t in
    let s = l in
    let a = s.args in
    let i = l.loop-i.i in
    let x' = get_or a.contexts i past_contexts in
    let ready = s.requires.1.0 in
    let j = x.context_numbered-j.result in
    let h = x.context_numbered-j.ensures.0 in
    let z = x.context_numbered-j.ensures.1 in
    let q = s.requires.1.3.ports i j t.loop-i-test.true h z in
    let from = numbering g.with_given-whole.new.numbers g.with_given-whole.new.numbered in
    let after = numbering m.numbers_of-marked.new.numbers m.numbers_of-marked.new.numbered in
    let left = drop (i + 1) (take a.count a.contexts) in
    let many : a.count ≤ length a.contexts = omega (arith, l.loop-i.invariant.1, s.requires.0.0.counted.few) in
    let W = whole_atoms l.loop-i.whole in (
      search rules,
      l.loop-i.invariant.1,
      c.with_ports.ensures.1,
      (g.with_given-whole.ensures.1 (take x'.count o.ports_of-ports.result)).few,
      λ list parts. let part = parts _ (blank-in a.sheet a.pattern ready s.requires.1.4 a.links_to.now a.given.now s.requires.1.1 j h) in
          let pairs = all_pairs list (i + 1 + 1) left in
          let rest = context_atoms list (i + 1 + 1) left in
          let P = part_atoms (i + 1) (part_normal list x'.number) in
          let e = l.loop-i.invariant.4 list parts in
          let marked = marked-part a.sheet a.pattern ready s.requires.1.4 a.links_to.now a.given.now s.requires.1.1 j h x'.number x'.count z q o.ports_of-ports.result o.ports_of-ports.ensures from g.with_given-whole.ensures.0 after m.numbers_of-marked.ensures.0 m.numbers_of-marked.result m.numbers_of-marked.ensures.1 list part in
          let atoms = atoms-part a.sheet a.pattern ready s.requires.1.4 a.links_to.now a.given.now s.requires.1.1 j h x'.number x'.count z q o.ports_of-ports.result o.ports_of-ports.ensures from g.with_given-whole.ensures.0 after m.numbers_of-marked.ensures.0 m.numbers_of-marked.result m.numbers_of-marked.ensures.1 list part (i + 1) in
          let more : whole_atoms g.with_given-whole.result ≡ room_for (W ++ P) = (g.with_given-whole.ensures.1 (take x'.count o.ports_of-ports.result)).atoms ∙ ap (λ (k : List Atom). room_for (W ++ k)) atoms in (
            ap (λ (k : List ℕ). joined_all k pairs) (c.with_ports.ensures.0 ∙ ap (λ (k : List ℕ). joined_all l.loop-i.labels (port_pairs (i + 1) (take x'.count x'.links) k)) marked)
                ∙ sym (pairs_next list a.contexts a.count i past_contexts l.loop-i.labels (i + 1) many t.loop-i-test.true) ∙ e.0,
            ap (λ (k : List Atom). room_for (k ++ rest)) more ∙ room_twice (W ++ P) rest ∙ ap room_for (append_assoc W P rest)
                ∙ ap (λ (k : List Atom). room_for (W ++ k)) (sym (atoms-next list a.contexts a.count i past_contexts (i + 1) many t.loop-i-test.true)) ∙ e.1,
          ),
    )

returns : tie.Need-returns invariant-loop decreases-loop
returns c = let l = c in
    let a = l.args in
    let W = whole_atoms l.loop-i.whole in
    λ list parts. let e = l.loop-i.invariant.4 list parts in
    record {
      atoms = sym (room-all W (omega (arith, length-take l.loop-i.whole.count l.loop-i.whole.atoms, l.loop-i.invariant.3))) ∙ ap room_for (sym (append-nil W))
          ∙ ap (λ (t : List Atom). room_for (W ++ t)) (sym (atoms-end list a.contexts a.count l.loop-i.i past_contexts (l.loop-i.i + 1) c.loop-i-test.false))
          ∙ e.1;
      few = l.loop-i.invariant.3;
      labels = sym (pairs_end list a.contexts a.count l.loop-i.i past_contexts l.loop-i.labels (l.loop-i.i + 1) c.loop-i-test.false) ∙ e.0;
    }

pub whole_given_spec : {M : Type 1} → statement M
whole_given_spec =
    tie.close
    (tie.spec
    invariant-loop
    decreases-loop
    loop-holds
    mul-context
    array-copy-out-context
    cast-n
    context-numbered-requires
    mul-blank
    array-copy-out-blank
    ports-of-requires
    add-with-given
    with-given-requires
    numbers-of-requires
    add-with-ports
    slice-aggregate-with-ports
    with-ports-requires
    add-i
    loop-less
    loop-again
    returns)
