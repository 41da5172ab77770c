-- Document 01, 'Numbers': when a text is taken, and the number and row under which it is turned down.
use Rattle.std.specs.Prelude.{ℕ, zero, suc, ◌+◌, ◌-◌, List, [], ◌∷◌, ◌++◌, Bool, false, eqb, ltb, leb, length, take, drop, get_or, replicate}
use Rattle.rows.specs.Pick.{pick, and, or, not}
use Rattle.rows.specs.Format.{row_width, newline, context_bound, context_letter, head_letter}
use Rattle.rows.specs.Row.{row_of}
use Rattle.rows.specs.Held.{Held, nothing, with_row}
use Rattle.rows.specs.Packed.{ports_of}
use Rattle.rows.specs.declared.Context.{Context}
use Rattle.rows.specs.declared.row.Row.{Row}
use Rattle.sheet.specs.Kinds.{limits_of, atom_limit, link_limit, allowed, is_list}
use Rattle.sheet.specs.declared.kind.Kind.{Kind}
use Rattle.sheet.specs.declared.kind.Kind.TheVariants.{Plain, Pattern, Figure, Replacement, Fillings}
use Rattle.sheet.specs.declared.answer.Refusal.{Refusal}
use Rattle.sheet.specs.declared.answer.Refusal.TheVariants.{Ragged, StrangeRow, BadColumn, Long, Crowded, Joints, Marks, BlankClash}
use Rattle.sheet.specs.declared.answer.Answer.{Answer}
use Rattle.sheet.specs.declared.answer.Answer.TheVariants.{Passed, Refused}

-- 4, long: row 257
abbrev pub long : Kind → ℕ → Bool
long kind k = leb (limits_of kind).rows k

-- 1, ragged: row incomplete, or its last byte is no newline
abbrev pub ragged : List ℕ → Bool
ragged text = or (ltb (length text) row_width) (not (eqb (get_or text (row_width - 1) 0) newline))

-- 2, strange row: letter not allowed there; row before the first H
abbrev pub strange_by : Kind → ℕ → ℕ → Bool
strange_by kind letter heads = or (not (allowed kind letter)) (and (is_list kind) (and (not (eqb letter head_letter)) (eqb heads 0)))

unfoldable pub strange : Kind → List Context → ℕ → Bool
strange kind contexts letter = strange_by kind letter (length contexts)

-- 5, crowded: one symbol or B row over the limit
abbrev pub crowded : Kind → ℕ → ℕ → Bool
crowded kind atoms contexts = or (ltb (atom_limit kind) atoms) (ltb (limits_of kind).contexts contexts)

-- 6, joints: one joint number over
abbrev pub over_links : Kind → ℕ → Bool
over_links kind links = ltb (link_limit kind) links

-- 7, marks: one mark over
abbrev pub over_marks : Kind → ℕ → Bool
over_marks kind marks = ltb (limits_of kind).marks marks

-- the number of the last context, 0 where there is none
unfoldable pub last_number : List Context → ℕ
last_number [] = 0
last_number (c ∷ []) = c.number
last_number (c ∷ d ∷ l) = last_number (d ∷ l)

-- 8 at a B row with this port count and 1, where `before` is that of an earlier B row of its number
-- and `given` that of the pattern's, 0 for none: a pattern's second row of one number; in other
-- figures another port count than an earlier one; in a replacement also what the pattern lacks
unfoldable pub clash_of : Kind → ℕ → ℕ → ℕ → Bool
clash_of Plain before given ports = false
clash_of Fillings before given ports = false
clash_of Pattern before given ports = not (eqb before 0)
clash_of Figure before given ports = and (not (eqb before 0)) (not (eqb before ports))
clash_of Replacement before given ports = or (and (not (eqb before 0)) (not (eqb before ports))) (not (eqb given ports))

-- 8, blank clash, in a row; in a list, an H number not above the last
unfoldable pub clashes : Kind → List ℕ → List Context → Row → Bool
clashes kind pattern contexts r =
    pick (eqb r.letter head_letter) (leb (get_or r.nums 0 0) (last_number contexts))
    (pick (eqb r.letter context_letter) (clash_of kind (ports_of contexts (get_or r.nums 0 0)) (get_or pattern (get_or r.nums 0 0) 0) (suc (get_or r.nums 1 0))) false)

-- the first refusal whose test holds
pub data Verdict : Type 0 where
  taken : Verdict
  refused : Refusal → Verdict

unfoldable pub first_of : List (Bool × Refusal) → Verdict
first_of [] = taken
first_of (t ∷ l) = pick t.0 (refused t.1) (first_of l)

-- the tests 4, 1, 2, 3 of a row r after k rows, which ask nothing of what these hold but whether r is strange
abbrev pub early_tests : Kind → ℕ → Bool → Bool → Row → List (Bool × Refusal)
early_tests kind k cut odd r = (long kind k, Long) ∷ (cut, Ragged) ∷ (odd, StrangeRow) ∷ (not r.good, BadColumn) ∷ []

-- the tests 5, 6, 7, 8, by the counts with the row
abbrev pub late_tests : Kind → ℕ → ℕ → ℕ → ℕ → Bool → List (Bool × Refusal)
late_tests kind atoms contexts links marks clash =
    (crowded kind atoms contexts, Crowded) ∷ (over_links kind links, Joints) ∷ (over_marks kind marks, Marks) ∷ (clash, BlankClash) ∷ []

-- the tests of a row r after what h holds
abbrev pub row_tests : Kind → List ℕ → Held → Bool → Row → List (Bool × Refusal)
row_tests kind pattern h cut r =
    early_tests kind h.rows cut (strange kind h.contexts r.letter) r
    ++ late_tests kind (length (with_row h r).atoms) (length (with_row h r).contexts) (length (with_row h r).wiring.links) (length (with_row h r).wiring.marks)
    (clashes kind pattern h.contexts r)

-- per row 4, 1, 2, 3, 5, 6, 7, 8
abbrev pub tests : Kind → List ℕ → Held → List ℕ → List (Bool × Refusal)
tests kind pattern h text = row_tests kind pattern h (ragged text) (row_of (take row_width text))

-- a reader's answer, and what the text holds; a text that is turned down holds nothing
pub record Outcome : Type 0 where
  pub answer : Answer
  pub held : Held

abbrev pub passed : Held → Outcome
passed h = record { answer = Passed; held = h }

-- a text turned down at the row after those of h
abbrev pub refused_after : Held → Refusal → Outcome
refused_after h why = record { answer = Refused why (h.rows + 1); held = nothing }

abbrev pub settled : Verdict → Held → Outcome → Outcome
settled taken h next = next
settled (refused why) h next = refused_after h why

-- the text that is left after the rows of h, row by row, at most as many rows as the first number
unfoldable pub read_from : ℕ → Kind → List ℕ → Held → List ℕ → Outcome
read_from zero kind pattern h text = passed h
read_from (suc n) kind pattern h text =
    pick (eqb (length text) 0) (passed h)
    (settled (first_of (tests kind pattern h text)) h (read_from n kind pattern (with_row h (row_of (take row_width text))) (drop row_width text)))

-- a whole text; the row after the last that is allowed is looked at too
unfoldable pub outcome_of : Kind → List ℕ → List ℕ → Outcome
outcome_of kind pattern text = read_from ((limits_of kind).rows + 1) kind pattern nothing text

-- no pattern is given
abbrev pub no_ports : List ℕ
no_ports = replicate context_bound 0
