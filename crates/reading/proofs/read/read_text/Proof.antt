-- Invariant: the arrays hold what k rows hold, what is left decides the outcome, and no link is without a hint.
use borrow.Author.Rules.{rules}
use Prim.Native.Nat.{ℕ, ◌≤◌, ◌+◌, ◌-◌, ◌*◌}
use mathlib.Core.Path.{◌≡◌, refl, ◌∙◌, sym, ap}
use mathlib.Core.List.{[]}
use mathlib.Core.Bool.{Bool, true, false}
use borrow.Author.Tests.{not-true, not-false}
use native.Mathlib.Omega.{arith}
use lib.Dec.{eqb}
use lib.ListN.{length, get_or, drop, set}
use Rattle.rows.specs.Pick.{pick}
use Rattle.rows.specs.Format.{row_width}
use Rattle.rows.specs.Held.{with_row}
use Rattle.rows.specs.Packed.{padded, ports_of}
use Rattle.rows.specs.TextArrays.{packed, TextArrays}
use Rattle.linking.specs.Steps.{Hinted, Room}
use Rattle.rows.specs.Entry.{Ranged}
use Rattle.linking.proofs.Hints.{hinted-none}
use Rattle.sheet.specs.Filling.{is_passed}
use Rattle.sheet.proofs.read.Taken.{row_at}
use Rattle.sheet.specs.Kinds.{is_list}
use Rattle.reading.specs.Made.{Widths, is_many}
use Rattle.reading.proofs.read.Turn.{Kept, kept-room, kept-widths, kept-start, kept-end, kept-numberable, kept-distinct, unported, some-shown, refused-reading, turned-early, row-ranged, row_made, turned-late, kept_next}
use Rattle.reading.proofs.read.read_text.Statement.{statement}
use Rattle.reading.proofs.read.read_text.Tie as tie

abbrev invariant-loop : tie.invariant-loop-k
invariant-loop kind pattern text atoms₀ contexts₀ ports₀ links₀ labels₀ marks₀ on₀ hints₀ a₀ c₀ n₀ m₀ k₀ atoms contexts ports links labels marks on hints a c n m k =
    Kept kind pattern text k (record {
      atoms = atoms;
      atom_count = a;
      contexts = contexts;
      context_count = c;
      ports = ports;
      links = links;
      classes = labels;
      link_count = n;
      marks = marks;
      marked = on;
      mark_count = m;
    }) × Hinted hints links n

abbrev decreases-loop : tie.decreases-loop-k
decreases-loop kind pattern text atoms₀ contexts₀ ports₀ links₀ labels₀ marks₀ on₀ hints₀ a₀ c₀ n₀ m₀ k₀ atoms contexts ports links labels marks on hints a c n m k = length text - k * row_width

-- what the arrays hold where a turn begins, and their room
abbrev state : tie.At-loop-k invariant-loop decreases-loop → TextArrays
state l =
    record {
      atoms = l.loop-k.atoms;
      atom_count = l.loop-k.a;
      contexts = l.loop-k.contexts;
      context_count = l.loop-k.c;
      ports = l.loop-k.ports;
      links = l.loop-k.links;
      classes = l.loop-k.labels;
      link_count = l.loop-k.n;
      marks = l.loop-k.marks;
      marked = l.loop-k.on;
      mark_count = l.loop-k.m;
    }

room : (l : tie.At-loop-k invariant-loop decreases-loop) → Room (state l)
room l = let a = l.args in kept-room a.kind a.pattern a.text.now l.loop-k.k (state l) l.loop-k.invariant.0

widths : (l : tie.At-loop-k invariant-loop decreases-loop) → Widths (state l)
widths l = let a = l.args in kept-widths a.kind a.pattern a.text.now l.loop-k.k (state l) l.loop-k.invariant.0

-- the places of a turn before the one given: its beginning, the tests that ask nothing of what is held, and the calls
abbrev top : tie.Else-not-is_passed invariant-loop decreases-loop → tie.At-loop-k invariant-loop decreases-loop
top c = c.before.before.before.before.before

abbrev tested : tie.After-counted-a invariant-loop decreases-loop → tie.Else-not-is_passed invariant-loop decreases-loop
tested c = c.before.before.before.before.before

abbrev counted-too : tie.After-hints-1 invariant-loop decreases-loop → tie.After-counted-a invariant-loop decreases-loop
counted-too c = c.before.before.before.before.before.before.before

abbrev linked : tie.After-on-1 invariant-loop decreases-loop → tie.After-add_row_links-n invariant-loop decreases-loop
linked c = c.before.before.before.before.before.before

one : (b : Bool) → pick b 1 0 ≤ 1
one true = omega arith
one false = omega arith

none-requires : tie.Need-none-atoms-requires invariant-loop decreases-loop
none-requires c κs = search rules

none-requires-2 : tie.Need-none-contexts-requires invariant-loop decreases-loop
none-requires-2 c κs = search rules

loop-holds : tie.Need-loop-k-init invariant-loop decreases-loop
unfolding padded ports_of
loop-holds c = (kept-start _ _ _ _ (rw c.none-atoms.ensures (rw c.none-contexts.ensures)), hinted-none _ _ refl)

mul-loop : tie.Need-overflow_mul-k invariant-loop decreases-loop
mul-loop c = omega (arith, c.loop-k.invariant.0.few)

next-row-requires : tie.Need-next_row-next-requires invariant-loop decreases-loop
next-row-requires c κs = (c.loop-k.invariant.0.few, c.loop-k.invariant.0.before)

is-passed-requires : tie.Need-is_passed-requires invariant-loop decreases-loop
is-passed-requires c κs = search rules

turned-down-requires : tie.Need-turned_down-requires invariant-loop decreases-loop
turned-down-requires c κs = search rules

returns : tie.Need-returns-then-not-is_passed invariant-loop decreases-loop
returns c =
    let l = c in
    let a = l.args in
    let x = c.next_row-next in
    c.turned_down.ensures ∙ refused-reading a.kind _ _ (turned-early a.kind a.pattern a.text.now l.loop-k.k (state l.before.before.before.before.before.before) l.loop-k.invariant.0 c.loop-k-test.true x.result x.ensures (sym c.is_passed.ensures ∙ not-true _ c.if-not-is_passed.true-raw))

-- the row passes the tests before it is taken in, so it is in range
passes : (c : tie.Else-not-is_passed invariant-loop decreases-loop) → is_passed c.next_row-next.result.answer ≡ true
passes c = sym c.is_passed.ensures ∙ not-false _ c.if-not-is_passed.false-raw

ranged : (c : tie.Else-not-is_passed invariant-loop decreases-loop) → Ranged c.next_row-next.result.row
ranged c =
    let l = top c in
    let a = l.args in
    let x = c.next_row-next in
    row-ranged a.kind a.pattern a.text.now l.loop-k.k (state l) l.loop-k.invariant.0 c.loop-k-test.true x.result x.ensures (passes c)

before-requires : tie.Need-before-requires invariant-loop decreases-loop
before-requires c κs = search rules

mul-row-clash : tie.Need-offset_bounds-contexts-before invariant-loop decreases-loop
mul-row-clash c = omega (arith, c.before-in-loop-k.ensures, (room (top c.before)).contexts)

element-copy-out-row-clash : tie.Need-bounds-contexts-before invariant-loop decreases-loop
element-copy-out-row-clash c = omega (arith, c.before-in-loop-k.ensures, (room (top c.before)).contexts)

row-clash-requires : tie.Need-row_clash-clash-requires invariant-loop decreases-loop
row-clash-requires c κs = ranged c.before

atom-of-requires : tie.Need-atom_of-requires invariant-loop decreases-loop
atom-of-requires c κs = search rules

mul-atoms : tie.Need-offset_bounds-atoms-a invariant-loop decreases-loop
mul-atoms c = omega (arith, (room (top c.before.before.before)).atoms)

array-set-from-atoms : tie.Need-bounds-atoms-a invariant-loop decreases-loop
array-set-from-atoms c = omega (arith, (room (top c.before.before.before)).atoms)

counted-requires : tie.Need-counted-a-requires invariant-loop decreases-loop
counted-requires c κs = search rules

add_a : tie.Need-overflow_add-a invariant-loop decreases-loop
add_a c = omega (arith, (room (top (tested c))).atoms, c.counted-a.ensures, one (eqb (tested c).next_row-next.result.row.letter 0))

add-context-of : tie.Need-overflow_add-k invariant-loop decreases-loop
add-context-of c = omega (arith, (top (tested c)).loop-k.invariant.0.few)

cast-context-of : tie.Need-overflow_cast-k invariant-loop decreases-loop
cast-context-of c = omega (arith, (top (tested c)).loop-k.invariant.0.few)

context-of-requires : tie.Need-context_of-requires invariant-loop decreases-loop
context-of-requires c κs = search rules

mul-contexts : tie.Need-offset_bounds-contexts-c invariant-loop decreases-loop
mul-contexts c = omega (arith, (room (top (tested c.before))).contexts)

array-set-from-contexts : tie.Need-bounds-contexts-c invariant-loop decreases-loop
array-set-from-contexts c = omega (arith, (room (top (tested c.before))).contexts)

is-context-requires : tie.Need-is_context-requires invariant-loop decreases-loop
is-context-requires c κs = search rules

counted-requires-2 : tie.Need-counted-c-requires invariant-loop decreases-loop
counted-requires-2 c κs = search rules

add-c : tie.Need-overflow_add-c invariant-loop decreases-loop
add-c c = omega (arith, (room (top (tested c.before.before.before))).contexts, c.counted-c.ensures, one c.is_context.result)

row-ports-requires : tie.Need-row_ports-table-requires invariant-loop decreases-loop
row-ports-requires c κs = ranged (tested c.before.before.before)

slice-aggregate-add-row-links : tie.Need-slice_bounds-add_row_links-end invariant-loop decreases-loop
slice-aggregate-add-row-links c = sym (widths (top (tested c.before.before.before.before.before))).0

slice-aggregate-add-row-links-2 : tie.Need-slice_bounds-add_row_links-end-in-loop-k invariant-loop decreases-loop
slice-aggregate-add-row-links-2 c = sym (widths (top (tested c.before.before.before.before.before.before))).1

add-row-links-requires : tie.Need-add_row_links-n-requires invariant-loop decreases-loop
add-row-links-requires c κs =
    let e = tested (counted-too c) in
    let w = widths (top e) in
    ((room (top e)).links, ranged e, w.0, w.1, (top e).loop-k.invariant.1)

slice-aggregate-add-row-mark : tie.Need-slice_bounds-add_row_mark-end invariant-loop decreases-loop
slice-aggregate-add-row-mark c =
    let x = c in
    sym (x.add_row_links-n.auto.links ∙ (widths (top (tested (counted-too x.before.before.before.before)))).0)

slice-aggregate-add-row-mark-2 : tie.Need-slice_bounds-add_row_mark-end-in-loop-k invariant-loop decreases-loop
slice-aggregate-add-row-mark-2 c =
    let x = c in
    sym (x.add_row_links-n.auto.classes ∙ (widths (top (tested (counted-too x.before.before.before.before.before)))).1)

slice-aggregate-add-row-mark-3 : tie.Need-slice_bounds-add_row_mark-end-in-loop-k-2 invariant-loop decreases-loop
slice-aggregate-add-row-mark-3 c = sym (widths (top (tested (counted-too c.before.before.before.before.before.before)))).2

slice-aggregate-add-row-mark-4 : tie.Need-slice_bounds-add_row_mark-end-in-loop-k-3 invariant-loop decreases-loop
slice-aggregate-add-row-mark-4 c = sym (widths (top (tested (counted-too (linked c).before)))).3

add-row-mark-requires : tie.Need-add_row_mark-m-requires invariant-loop decreases-loop
add-row-mark-requires c κs =
    let x = (linked c).add_row_links-n in
    let l = top (tested (counted-too (linked c).before)) in
    let r = room l in
    let w = widths l in
    (λ e. omega (arith, x.ensures.0 e, r.links), r.marks, r.places, x.auto.links ∙ w.0, x.auto.classes ∙ w.1, w.2, w.3)

-- the calls of a turn that is over, its tests and its beginning
abbrev marks-in : tie.After-on-in-loop-k-1 invariant-loop decreases-loop → tie.After-add_row_mark-m invariant-loop decreases-loop
marks-in c = c.before.before.before

abbrev counts-in : tie.After-on-in-loop-k-1 invariant-loop decreases-loop → tie.After-counted-a invariant-loop decreases-loop
counts-in c = counted-too (linked (marks-in c).before).before

abbrev row_in : tie.After-on-in-loop-k-1 invariant-loop decreases-loop → tie.Else-not-is_passed invariant-loop decreases-loop
row_in c = tested (counts-in c)

add-k : tie.Need-overflow_add-k-in-loop-k invariant-loop decreases-loop
add-k c = omega (arith, (top (row_in c)).loop-k.invariant.0.few)

late-answer-requires : tie.Need-late_answer-answer-requires invariant-loop decreases-loop
late-answer-requires c κs = search rules

-- the arrays with the row
abbrev after : tie.After-on-in-loop-k-1 invariant-loop decreases-loop → TextArrays
after c =
    let s = state (top (row_in c)) in
    let x = linked (marks-in c).before in
    let y = (marks-in c).add_row_mark-m in
    record {
      atoms = set s.atoms s.atom_count (counts-in c).atom_of.result;
      atom_count = s.atom_count + (counts-in c).counted-a.result;
      contexts = set s.contexts s.context_count x.context_of.result;
      context_count = s.context_count + x.counted-c.result;
      ports = x.row_ports-table.result;
      links = x.add_row_links-n.new.links;
      classes = y.new.classes;
      link_count = x.add_row_links-n.result;
      marks = y.new.marks;
      marked = y.new.marked;
      mark_count = y.result;
    }

made : (c : tie.After-on-in-loop-k-1 invariant-loop decreases-loop) → let l = top (row_in c) in after c ≡ packed (with_row l.loop-k.invariant.0.held (row_at (drop (l.loop-k.k * row_width) l.args.text.now)))
made c =
    let e = row_in c in
    let l = top e in
    let a = l.args in
    let z = e.next_row-next in
    let d = counts-in c in
    let w = linked (marks-in c).before in
    let x = w.add_row_links-n in
    let y = (marks-in c).add_row_mark-m in
    row_made a.kind a.pattern a.text.now l.loop-k.k (state l) l.loop-k.invariant.0 e.loop-k-test.true z.result z.ensures (passes e)
    d.atom_of.result d.counted-a.result w.context_of.result w.is_context.result w.counted-c.result w.row_ports-table.result x.new.links x.new.classes x.result y.new.classes y.new.marks y.new.marked y.result
    d.atom_of.ensures d.counted-a.ensures w.context_of.ensures w.is_context.ensures w.counted-c.ensures w.row_ports-table.ensures x.ensures.1 y.ensures

is-passed-requires-2 : tie.Need-is_passed-requires-in-loop-k invariant-loop decreases-loop
is-passed-requires-2 c κs = search rules

turned-down-requires-2 : tie.Need-turned_down-requires-then-not-is_passed-2 invariant-loop decreases-loop
turned-down-requires-2 c κs = search rules

returns-2 : tie.Need-returns-then-not-is_passed-2 invariant-loop decreases-loop
returns-2 c =
    let f = c in
    let e = row_in f.before.before.before.before in
    let l = top e in
    let a = l.args in
    let z = e.next_row-next in
    let d = counts-in f.before.before.before.before in
    c.turned_down-then-not-is_passed-2.ensures ∙ refused-reading a.kind _ _ (turned-late a.kind a.pattern a.text.now l.loop-k.k (state l) l.loop-k.invariant.0 e.loop-k-test.true z.result z.ensures (passes e)
    (after f.before.before.before.before) (made f.before.before.before.before) d.row_clash-clash.result f.late_answer-answer.result
    (λ r q p. d.row_clash-clash.ensures r (ap (λ (j : ℕ). (get_or l.loop-k.contexts j (record { number = 0; count = 0; links = []; row = 0 })).number) d.before.before.before.before.before-in-loop-k.ensures ∙ q) p)
    f.late_answer-answer.ensures (sym c.is_passed-in-loop-k.ensures ∙ not-true _ c.if-not-is_passed-2.true-raw))

loop-less : tie.Need-loop-k-smaller invariant-loop decreases-loop
loop-less c = omega (arith, (row_in c.before.before.before).loop-k-test.true)

loop-again : tie.Need-loop-k-preserved invariant-loop decreases-loop
loop-again c =
    let f = c in
    let e = row_in f.before.before.before in
    let l = top e in
    let a = l.args in
    let z = e.next_row-next in
    let d = counts-in f.before.before.before in (
      kept_next a.kind a.pattern a.text.now l.loop-k.k (state l) l.loop-k.invariant.0 e.loop-k-test.true z.result z.ensures (passes e)
          (after f.before.before.before) (made f.before.before.before) d.row_clash-clash.result f.late_answer-answer.result
          (λ r q p. d.row_clash-clash.ensures r (ap (λ (j : ℕ). (get_or l.loop-k.contexts j (record { number = 0; count = 0; links = []; row = 0 })).number) d.before.before.before.before.before-in-loop-k.ensures ∙ q) p)
          f.late_answer-answer.ensures (sym c.is_passed-in-loop-k.ensures ∙ not-false _ c.if-not-is_passed-2.false-raw),
      (linked (marks-in f.before.before.before).before).add_row_links-n.ensures.2,
    )

shown-atoms-requires : tie.Need-shown_atoms-requires invariant-loop decreases-loop
shown-atoms-requires c κs = search rules

shown-contexts-requires : tie.Need-shown_contexts-requires invariant-loop decreases-loop
shown-contexts-requires c κs = search rules

slice-aggregate-normal-from : tie.Need-slice_bounds-normal_from-end invariant-loop decreases-loop
slice-aggregate-normal-from c = sym (widths c.before.before.before.before).0

slice-aggregate-normal-from-2 : tie.Need-slice_bounds-normal_from-end-2 invariant-loop decreases-loop
slice-aggregate-normal-from-2 c = sym (widths c.before.before.before.before.before).1

slice-aggregate-normal-from-3 : tie.Need-slice_bounds-normal_from-end-3 invariant-loop decreases-loop
slice-aggregate-normal-from-3 c = sym (widths c.before.before.before.before.before.before).2

slice-aggregate-normal-from-4 : tie.Need-slice_bounds-normal_from-end-4 invariant-loop decreases-loop
slice-aggregate-normal-from-4 c = sym (widths c.before.before.before.before.before.before.before).3

normal-from-requires : tie.Need-normal_from-normal-requires invariant-loop decreases-loop
normal-from-requires c κs =
    let x = c in
    let y = x in
    let l = y in
    let a = l.args in (
      unported (state l.before.before.before.before.before.before.before.before) (kept-numberable a.kind a.pattern a.text.now l.loop-k.k (state l.before.before.before.before.before.before.before.before) l.loop-k.invariant.0 y.loop-k-test.false),
      widths l.before.before.before.before.before.before.before.before,
      rw y.shown_atoms.ensures (some-shown (is_many a.kind l.loop-k.c) l.loop-k.a),
      rw x.shown_contexts.ensures (some-shown (is_list a.kind) l.loop-k.c),
      l.loop-k.invariant.1,
      kept-distinct a.kind a.pattern a.text.now l.loop-k.k (state l.before.before.before.before.before.before.before.before) l.loop-k.invariant.0,
    )

returns-3 : tie.Need-returns invariant-loop decreases-loop
returns-3 c =
    let x = c in
    let y = x in
    let l = y in
    let a = l.args in
    kept-end a.kind a.pattern a.text.now l.loop-k.k (state l.before.before.before.before.before.before.before.before.before) l.loop-k.invariant.0 y.loop-k-test.false y.shown_atoms.result y.shown_atoms.ensures x.shown_contexts.result x.shown_contexts.ensures c.normal_from-normal.result c.normal_from-normal.ensures

pub read_text_spec : {M : Type 1} → statement M
read_text_spec =
    tie.close
    (tie.spec
    invariant-loop
    decreases-loop
    none-requires
    none-requires-2
    loop-holds
    mul-loop
    next-row-requires
    is-passed-requires
    turned-down-requires
    returns
    before-requires
    mul-row-clash
    element-copy-out-row-clash
    row-clash-requires
    atom-of-requires
    mul-atoms
    array-set-from-atoms
    counted-requires
    add_a
    add-context-of
    cast-context-of
    context-of-requires
    mul-contexts
    array-set-from-contexts
    is-context-requires
    counted-requires-2
    add-c
    row-ports-requires
    slice-aggregate-add-row-links
    slice-aggregate-add-row-links-2
    add-row-links-requires
    slice-aggregate-add-row-mark
    slice-aggregate-add-row-mark-2
    slice-aggregate-add-row-mark-3
    slice-aggregate-add-row-mark-4
    add-row-mark-requires
    add-k
    late-answer-requires
    is-passed-requires-2
    turned-down-requires-2
    returns-2
    loop-less
    loop-again
    shown-atoms-requires
    shown-contexts-requires
    slice-aggregate-normal-from
    slice-aggregate-normal-from-2
    slice-aggregate-normal-from-3
    slice-aggregate-normal-from-4
    normal-from-requires
    returns-3)
