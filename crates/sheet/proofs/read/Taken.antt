-- A row that no test turns down: what is known of it, and what the reading of a text makes of it.
use Prim.Native.Nat.{ℕ, zero, suc, ◌+◌, ◌-◌, ◌*◌, ◌<◌, ◌≤◌}
use mathlib.Core.Path.{◌≡◌, refl, ◌∙◌, sym, ap}
use mathlib.Core.List.{List, [], ◌∷◌, ◌++◌}
use mathlib.Core.Bool.{Bool, true, false}
use native.Mathlib.Nat.{zero-add, suc-add}
use native.Mathlib.Omega.{arith}
use borrow.Author.Tests.{ltb-false, le-ltb, leb-false, lt-leb, ne_eqb}
use lib.Dec.{eqb, ltb}
use lib.ListN.{length, take, drop, length-append, length-drop, get_or-append}
use lib.Seq.{take-append-le, drop-append-le}
use Rattle.rows.specs.Pick.{pick}
use Rattle.rows.specs.Format.{row_width}
use Rattle.rows.specs.Limits.{row_limit, figure_contexts, sheet_marks}
use Rattle.rows.specs.Row.{row_of}
use Rattle.rows.specs.Held.{Held, nothing, with_row}
use Rattle.rows.specs.declared.row.Row.{Row}
use Rattle.rows.proofs.Bools.{or-false, not-false}
use Rattle.sheet.specs.Kinds.{limits_of, atom_limit, link_limit}
use Rattle.sheet.specs.Reading.{ragged, strange, clashes, Verdict, taken, refused, first_of, tests, Outcome, passed, settled, read_from, outcome_of}
use Rattle.sheet.specs.declared.kind.Kind.{Kind}
use Rattle.sheet.specs.declared.answer.Refusal.{Refusal}
use Rattle.sheet.specs.declared.answer.Answer.TheVariants.{Passed, Refused}
use Rattle.sheet.proofs.kind.KindLaws.{rows-limit, contexts-limit, marks-limit}

-- The row with which a text begins.
abbrev pub row_at : List ℕ → Row
row_at text = row_of (take row_width text)

-- The first row of a text is taken in after what h holds.
pub record Taken (kind : Kind) (pattern : List ℕ) (h : Held) (text : List ℕ) : Type 0 where
  pub rows : h.rows < row_limit
  pub whole : ragged text ≡ false
  pub allowed : strange kind h.contexts (row_at text).letter ≡ false
  pub good : (row_at text).good ≡ true
  pub atoms : length (with_row h (row_at text)).atoms ≤ atom_limit kind
  pub contexts : length (with_row h (row_at text)).contexts ≤ figure_contexts
  pub links : length (with_row h (row_at text)).wiring.links ≤ link_limit kind
  pub marks : length (with_row h (row_at text)).wiring.marks ≤ sheet_marks
  pub agrees : clashes kind pattern h.contexts (row_at text) ≡ false

-- A list of tests of which none holds.
pub none_first : (t : Bool × Refusal) (l : List (Bool × Refusal)) → first_of (t ∷ l) ≡ taken → (t.0 ≡ false) × (first_of l ≡ taken)
unfolding first_of
none_first t l e = go t.0 e
  where
    go : (b : Bool) → pick b (refused t.1) (first_of l) ≡ taken → (b ≡ false) × (first_of l ≡ taken)
    go true q = absurd (let z : ◌≡◌ {A = ℕ} 0 1 = cc in omega arith)
    go false q = (refl, q)

module _ (kind : Kind) (pattern : List ℕ) (h : Held) (text : List ℕ) where
  pub tests-none : first_of (tests kind pattern h text) ≡ taken → Taken kind pattern h text
  tests-none e =
      let a = none_first _ _ e in
      let b = none_first _ _ a.1 in
      let c = none_first _ _ b.1 in
      let d = none_first _ _ c.1 in
      let f = none_first _ _ d.1 in
      let g = none_first _ _ f.1 in
      let i = none_first _ _ g.1 in
      let j = none_first _ _ i.1 in
      let few = or-false (ltb (atom_limit kind) (length (with_row h (row_at text)).atoms)) (ltb (limits_of kind).contexts (length (with_row h (row_at text)).contexts)) f.0 in
      record {
        rows = rw (rows-limit kind) at (leb-false (limits_of kind).rows h.rows a.0);
        whole = b.0;
        allowed = c.0;
        good = not-false _ d.0;
        atoms = ltb-false _ _ few.0;
        contexts = rw (contexts-limit kind) at (ltb-false (limits_of kind).contexts (length (with_row h (row_at text)).contexts) few.1);
        links = ltb-false _ _ g.0;
        marks = rw (marks-limit kind) at (ltb-false (limits_of kind).marks (length (with_row h (row_at text)).wiring.marks) i.0);
        agrees = j.0;
      }

  pub none-tests : Taken kind pattern h text → first_of (tests kind pattern h text) ≡ taken
  unfolding first_of
  none-tests t =
      rw (
        lt-leb (limits_of kind).rows h.rows (rw (rows-limit kind) t.rows),
        t.whole,
        t.allowed,
        le-ltb (atom_limit kind) (length (with_row h (row_at text)).atoms) t.atoms,
        le-ltb (limits_of kind).contexts (length (with_row h (row_at text)).contexts) (rw (contexts-limit kind) t.contexts),
        le-ltb (link_limit kind) (length (with_row h (row_at text)).wiring.links) t.links,
        le-ltb (limits_of kind).marks (length (with_row h (row_at text)).wiring.marks) (rw (marks-limit kind) t.marks),
        t.agrees,
        t.good,
      )

  -- The reading goes on with the rest of the text.
  pub read_taken : (n : ℕ) → Taken kind pattern h text
      → read_from (suc n) kind pattern h text ≡ read_from n kind pattern (with_row h (row_at text)) (drop row_width text)
  unfolding read_from
  read_taken n t =
      let w : row_width ≤ length text = ltb-false _ _ (or-false _ _ t.whole).0 in
      rw (ne_eqb (length text) 0 (omega arith), none-tests t)

-- What holds of nothing, and after each row that is taken in, holds of what an outcome holds.
module _ (kind : Kind) (pattern : List ℕ) (P : Held → Type 0)
    (more : (h : Held) (text : List ℕ) → Taken kind pattern h text → P h → P (with_row h (row_at text))) where
  pub read_keeps : P nothing → (n : ℕ) (h : Held) (text : List ℕ) → P h → P (read_from n kind pattern h text).held
  unfolding read_from
  read_keeps none zero h text p = p
  read_keeps none (suc n) h text p = go (eqb (length text) 0) (first_of (tests kind pattern h text)) refl (λ q. read_keeps none n (with_row h (row_at text)) (drop row_width text) q)
    where
      go : (b : Bool) (v : Verdict) → first_of (tests kind pattern h text) ≡ v
          → (P (with_row h (row_at text)) → P (read_from n kind pattern (with_row h (row_at text)) (drop row_width text)).held)
          → P (pick b (passed h) (settled v h (read_from n kind pattern (with_row h (row_at text)) (drop row_width text)))).held
      go true v e ih = p
      go false taken e ih = ih (more h text (tests-none kind pattern h text e) p)
      go false (refused why) e ih = none

  pub outcome-keeps : (text : List ℕ) → P nothing → P (outcome_of kind pattern text).held
  unfolding outcome_of
  outcome-keeps text p = read_keeps p ((limits_of kind).rows + 1) nothing text p

-- Rows that were all taken in, and a text after them: the reading goes on from what they hold.
module _ (kind : Kind) (pattern : List ℕ) where
  pub tests-append : (h : Held) (text more : List ℕ) → row_width ≤ length text → tests kind pattern h (text ++ more) ≡ tests kind pattern h text
  tests-append h text more w =
      rw (
        take-append-le row_width text more w,
        get_or-append text more 0 (row_width - 1) (omega arith),
        le-ltb (length (text ++ more)) row_width (simp length-append (omega arith)),
        le-ltb (length text) row_width w,
      )

  pub taken-append : (h : Held) (text more : List ℕ) → row_width ≤ length text → Taken kind pattern h text → Taken kind pattern h (text ++ more)
  taken-append h text more w t = tests-none kind pattern h (text ++ more) (rw (tests-append h text more w) (none-tests kind pattern h text t))

  pub passed-taken : (n : ℕ) (h g : Held) (text : List ℕ) → row_width ≤ length text → read_from (suc n) kind pattern h text ≡ passed g → Taken kind pattern h text
  unfolding read_from
  passed-taken n h g text w e =
      go (first_of (tests kind pattern h text)) refl (rw (ne_eqb (length text) 0 (omega arith)) at e)
    where
      go : (v : Verdict) → first_of (tests kind pattern h text) ≡ v
          → settled v h (read_from n kind pattern (with_row h (row_at text)) (drop row_width text)) ≡ passed g → Taken kind pattern h text
      go taken q f = tests-none kind pattern h text q
      go (refused why) q f = absurd (never (ap (λ (o : Outcome). o.answer) f))
        where
          never : Refused why (h.rows + 1) ≡ Passed → ⊥
          never z = let y : ◌≡◌ {A = ℕ} 0 1 = cc in omega arith

  pub read-on : (n m : ℕ) (h g : Held) (text more : List ℕ) → length text ≡ n * row_width → read_from n kind pattern h text ≡ passed g
      → read_from (n + m) kind pattern h (text ++ more) ≡ read_from m kind pattern g more
  unfolding read_from
  read-on zero m h g [] more l e = rw (zero-add, ← ap (λ (o : Outcome). o.held) e)
  read-on zero m h g (x ∷ text) more l e = absurd (omega arith)
  read-on (suc n) m h g text more l e =
      let w : row_width ≤ length text = omega arith in
      let t = passed-taken n h g text w e in
      let rest : length (drop row_width text) ≡ n * row_width = simp length-drop (omega arith) in
      let more-taken = read_taken kind pattern h (text ++ more) (n + m) (taken-append h text more w t) in
      rw (suc-add n m, more-taken, take-append-le row_width text more w, drop-append-le row_width text more w)
      (read-on n m (with_row h (row_at text)) g (drop row_width text) more rest (sym (read_taken kind pattern h text n t) ∙ e))
