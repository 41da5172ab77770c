-- One turn of the reader's loop, over what the arrays hold before it: the row is turned down, or taken in.
use Prim.Native.Nat.{ℕ, ◌+◌, ◌-◌, ◌*◌, ◌<◌, ◌≤◌}
use mathlib.Core.Path.{◌≡◌, refl, ap, ◌∙◌, sym, subst}
use mathlib.Core.List.{List, []}
use mathlib.Core.Bool.{Bool, true, false}
use native.Mathlib.Omega.{arith}
use lib.Dec.{eqb}
use lib.ListN.{length, take, drop, get_or, set}
use Rattle.rows.specs.Pick.{pick}
use Rattle.rows.specs.Format.{field_count, row_width, head_letter}
use Rattle.rows.specs.Limits.{row_limit, link_room, mark_room}
use Rattle.rows.specs.Held.{Wiring, Held, nothing, with_row}
use Rattle.rows.specs.Packed.{port_table}
use Rattle.rows.specs.TextArrays.{packed, TextArrays}
use Rattle.linking.specs.Steps.{Wired, Linked, Relinks, Marked, Tied, Room, linked_by, marked_by, Distinct}
use Rattle.rows.specs.Entry.{Ranged, is_context, atom_by, context_by, ports_by}
use Rattle.rows.specs.declared.Atom.{Atom}
use Rattle.rows.specs.declared.Context.{Context}
use Rattle.rows.proofs.Padding.{length-padded, take-padded}
use Rattle.rows.proofs.RowRange.{row-length}
use Rattle.linking.proofs.TakeRow.{row-taken}
use Rattle.sheet.specs.Filling.{is_passed}
use Rattle.sheet.specs.Reading.{ragged, strange_by, last_number, clashes, taken, first_of, early_tests, late_tests, tests, read_from, Outcome, outcome_of}
use Rattle.sheet.specs.Kinds.{is_list}
use Rattle.numbering.specs.Numbering.{Numberable}
use Rattle.reading.specs.Made.{arrays, Widths, is_many, normal_made, reading_of}
use Rattle.reading.proofs.normal.NormalReady.{numberable-read}
use Rattle.sheet.specs.Steps.{answer_of, whole_row, next_of}
use Rattle.sheet.specs.declared.answer.Refusal.{Refusal}
use Rattle.sheet.specs.declared.answer.Answer.{Answer}
use Rattle.sheet.specs.declared.answer.Answer.TheVariants.{Passed}
use Rattle.sheet.specs.declared.kind.Kind.{Kind}
use Rattle.sheet.specs.declared.judge.Next.{Next}
use Rattle.rows.specs.declared.Sheet.{Sheet as Normal}
use Rattle.reading.specs.declared.read.Reading.{Reading}
use Rattle.sheet.proofs.read.Taken.{row_at}
use Rattle.sheet.proofs.read.Room.{limits-most, within-room, good-ranged}
use Rattle.sheet.proofs.read.Clashes.{last-at}
use Rattle.sheet.proofs.read.Judged.{answer-taken, answer-refused, early-refused, early-whole, early-good, late-verdict}
use Rattle.sheet.proofs.read.Walk.{Read, read-start, read-end, opened, row_fits, read_next}

-- what is read of a text after k rows, and the arrays that hold it
pub record Kept (kind : Kind) (pattern text : List ℕ) (k : ℕ) (s : TextArrays) : Type 0 where
  pub held : Held
  pub arrays : s ≡ packed held
  pub before : k * row_width ≤ length text
  pub few : k ≤ row_limit
  pub read : Read kind pattern text (k * row_width) k held

pub kept-room : (kind : Kind) (pattern text : List ℕ) (k : ℕ) (s : TextArrays) → Kept kind pattern text k s → Room s
kept-room kind pattern text k s i = subst Room (sym i.arrays) (within-room kind i.held i.read.within)

pub kept-widths : (kind : Kind) (pattern text : List ℕ) (k : ℕ) (s : TextArrays) → Kept kind pattern text k s → Widths s
kept-widths kind pattern text k s i =
    let w = i.read.within in
    let v = i.held.wiring in
    let most = limits-most kind in
    subst Widths (sym i.arrays) (
      length-padded link_room 0 v.links (omega (arith, w.links, most)),
      length-padded link_room 0 v.classes (omega (arith, w.links, w.wired.classed, most)),
      length-padded mark_room 0 v.marks (omega (arith, w.marks)),
      length-padded mark_room 0 v.marked (omega (arith, w.marks, w.wired.placed)),
    )

pub kept-start : (kind : Kind) (pattern text : List ℕ) (s : TextArrays) → s ≡ packed nothing → Kept kind pattern text 0 s
kept-start kind pattern text s e = record { held = nothing; arrays = e; before = omega arith; few = omega arith; read = read-start kind pattern text }

-- the text is over, and this is its normal form
pub kept-end : (kind : Kind) (pattern text : List ℕ) (k : ℕ) (s : TextArrays) → Kept kind pattern text k s → length text ≤ k * row_width
    → (some : ℕ) → some ≡ pick (is_many kind s.context_count) 0 s.atom_count → (shown : ℕ) → shown ≡ pick (is_list kind) 0 s.context_count → (r : Normal) → r ≡ normal_made some shown s
    → ◌≡◌ {A = Reading} (record { answer = Passed; normal = r; ports = s.ports }) (reading_of kind (outcome_of kind pattern text))
kept-end kind pattern text k s i e some d shown f r q =
    rw (q, d, f, i.arrays) (ap (reading_of kind) (sym (read-end kind pattern text (k * row_width) k i.held i.read e)))

-- what the arrays then hold can be numbered, whatever the table of ports
pub kept-numberable : (kind : Kind) (pattern text : List ℕ) (k : ℕ) (s : TextArrays) → Kept kind pattern text k s → length text ≤ k * row_width → Numberable s
kept-numberable kind pattern text k s i e =
    rw i.arrays (subst (λ (o : Outcome). Numberable (packed o.held)) (read-end kind pattern text (k * row_width) k i.held i.read e) (numberable-read kind pattern text))

pub unported : (s : TextArrays) → Numberable s → Numberable (arrays s.atoms s.atom_count s.contexts s.context_count s.links s.classes s.link_count s.marks s.marked s.mark_count)
unported s n =
    record {
      room = record { atoms = n.room.atoms; contexts = n.room.contexts; links = n.room.links; marks = n.room.marks; places = n.room.places };
      atom_links = n.atom_links;
      context_links = n.context_links;
      labels = n.labels;
    }

-- no link stands twice
pub kept-distinct : (kind : Kind) (pattern text : List ℕ) (k : ℕ) (s : TextArrays) → Kept kind pattern text k s → Distinct (take s.link_count s.links)
kept-distinct kind pattern text k s i =
    rw (i.arrays, take-padded link_room 0 i.held.wiring.links) i.read.within.wired.distinct

pub some-shown : (b : Bool) (c : ℕ) → pick b 0 c ≤ c
some-shown true c = omega arith
some-shown false c = omega arith

-- what is handed back of a text that is turned down
pub refused-reading : (kind : Kind) (o : Outcome) (x : Answer) → o ≡ record { answer = x; held = nothing }
    → ◌≡◌ {A = Reading} (record { answer = x; normal = normal_made 0 0 (packed nothing); ports = port_table [] }) (reading_of kind o)
refused-reading kind o x e = rw e (go (is_many kind 0) (is_list kind))
  where
    go : (a b : Bool) → ◌≡◌ {A = Reading} (record { answer = x; normal = normal_made 0 0 (packed nothing); ports = port_table [] }) (record { answer = x; normal = normal_made (pick a 0 0) (pick b 0 0) (packed nothing); ports = port_table [] })
    go true true = refl
    go true false = refl
    go false true = refl
    go false false = refl

module _ (kind : Kind) (pattern text : List ℕ) (k : ℕ) (s : TextArrays) (i : Kept kind pattern text k s) (more : k * row_width < length text)
    (next : Next) (look : next ≡ next_of kind s.context_count k (drop (k * row_width) text)) where
  abbrev h : Held
  h = i.held

  abbrev t : List ℕ
  t = drop (k * row_width) text

  abbrev Answered : Answer → Type 0
  Answered x = outcome_of kind pattern text ≡ record { answer = x; held = nothing }

  heads : s.context_count ≡ length h.contexts
  heads = ap (λ (s : TextArrays). s.context_count) i.arrays

  abbrev odd : Bool
  odd = strange_by kind (row_at t).letter s.context_count

  abbrev early : List (Bool × Refusal)
  early = early_tests kind k (ragged t) odd (row_at t)

  looked : next.answer ≡ answer_of (first_of early) (k + 1)
  looked = ap (λ (n : Next). n.answer) look

  -- the tests before the row is taken in turn it down
  pub turned-early : is_passed next.answer ≡ false → Answered next.answer
  turned-early p =
      let v = first_of (tests kind pattern h t) in
      opened kind pattern text (k * row_width) k h i.read more i.few v refl
      ∙ answer-refused v (first_of early) h (read_from (row_limit - k) kind pattern (with_row h (row_at t)) (drop row_width t))
      next.answer (k + 1) looked p (ap (λ (n : ℕ). n + 1) (sym i.read.rows)) (early-refused kind pattern h t s.context_count k i.read.rows heads)

  -- they pass
  module _ (p : is_passed next.answer ≡ true) where
    passes : first_of early ≡ taken
    passes = answer-taken _ (k + 1) (ap is_passed (sym looked) ∙ p)

    row_here : next.row ≡ row_at t
    row_here = ap (λ (n : Next). n.row) look ∙ ap (λ (b : Bool). whole_row b t) (early-whole kind k (ragged t) odd (row_at t) passes)

    pub row-ranged : Ranged next.row
    row-ranged = rw row_here (good-ranged (take row_width t) (early-good kind k (ragged t) odd (row_at t) passes))

    -- the arrays with the row
    pub row_made : (a : Atom) (da : ℕ) (c : Context) (b : Bool) (dc : ℕ) (ports links classes : List ℕ) (n : ℕ) (labels marks marked : List ℕ) (m : ℕ)
        → a ≡ atom_by next.row → da ≡ pick (eqb next.row.letter 0) 1 0 → c ≡ context_by next.row (k + 1) → b ≡ is_context next.row.letter → dc ≡ pick b 1 0 → ports ≡ ports_by next.row s.ports
        → Relinks s.links s.classes s.link_count links classes n (linked_by next.row)
        → ((w v : Wiring) → Wired w → Wired v → Linked w links classes n → Marked (pick (eqb next.row.letter head_letter) v w) s.marks s.marked s.mark_count → Tied (marked_by next.row w) links labels n marks marked m)
        → record {
          atoms = set s.atoms s.atom_count a;
          atom_count = s.atom_count + da;
          contexts = set s.contexts s.context_count c;
          context_count = s.context_count + dc;
          ports = ports;
          links = links;
          classes = labels;
          link_count = n;
          marks = marks;
          marked = marked;
          mark_count = m;
        } ≡ packed (with_row h (row_at t))
    row_made a da c b dc ports links classes n labels marks marked m ea eda ec eb edc ep f g =
        let wide : length next.row.nums ≡ field_count = rw row_here (row-length (take row_width t)) in
        rw ea (rw eda (rw ec (rw edc (rw eb (rw ep (rw (← row_here)
        (row-taken h i.read.within.wired next.row s i.arrays (kept-room kind pattern text k s i) row-ranged wide links classes n f labels marks marked m g (k + 1) (ap (λ (n : ℕ). n + 1) (sym i.read.rows)))))))))

    -- the tests after it
    module _ (u : TextArrays) (made : u ≡ packed (with_row h (row_at t))) (clash : Bool) (x : Answer)
        (judged : (l : List Context) → (get_or s.contexts (s.context_count - 1) (record { number = 0; count = 0; links = []; row = 0 })).number ≡ last_number l → s.ports ≡ port_table l → clash ≡ clashes kind pattern l next.row)
        (answered : x ≡ answer_of (first_of (late_tests kind u.atom_count u.context_count u.link_count u.mark_count clash)) (k + 1)) where
      verdict : first_of (tests kind pattern h t) ≡ first_of (late_tests kind u.atom_count u.context_count u.link_count u.mark_count clash)
      verdict =
          let last = ap (λ (s : TextArrays). (get_or s.contexts (s.context_count - 1) (record { number = 0; count = 0; links = []; row = 0 })).number) i.arrays ∙ last-at h.contexts in
          late-verdict kind pattern h t s.context_count k i.read.rows heads passes u clash made (rw row_here at (judged h.contexts last (ap (λ (s : TextArrays). s.ports) i.arrays)))

      pub turned-late : is_passed x ≡ false → Answered x
      turned-late q =
          let v = first_of (tests kind pattern h t) in
          opened kind pattern text (k * row_width) k h i.read more i.few v refl
          ∙ answer-refused v (first_of (late_tests kind u.atom_count u.context_count u.link_count u.mark_count clash)) h (read_from (row_limit - k) kind pattern (with_row h (row_at t)) (drop row_width t))
          x (k + 1) answered q (ap (λ (n : ℕ). n + 1) (sym i.read.rows)) (λ why e. verdict ∙ e)

      pub kept_next : is_passed x ≡ true → Kept kind pattern text (k + 1) u
      kept_next q =
          let none = verdict ∙ answer-taken _ (k + 1) (ap is_passed (sym answered) ∙ q) in
          let fits = row_fits kind pattern text (k * row_width) k h i.read more i.few none in
          let e : k * row_width + row_width ≡ (k + 1) * row_width = omega arith in
          record {
            held = with_row h (row_at t);
            arrays = made;
            before = omega (arith, fits.0);
            few = fits.1;
            read = rw e at (read_next kind pattern text (k * row_width) k h i.read more i.few none);
          }
