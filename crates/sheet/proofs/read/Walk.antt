-- The walk over rows: what one turn of the reader's loop makes of the definition.
use Prim.Native.Nat.{ℕ, suc, ◌+◌, ◌-◌, ◌<◌, ◌≤◌}
use mathlib.Core.Path.{◌≡◌, refl, ap, ◌∙◌, sym}
use mathlib.Core.List.{List}
use mathlib.Core.Bool as bool
use mathlib.Core.Bool.{true, false}
use native.Mathlib.Omega.{arith}
use lib.Dec.{eqb}
use lib.ListN.{length, get_or, drop, length-drop, drop_of_length-le}
use lib.Seq.{drop-drop, get_or-drop}
use borrow.Author.Tests.{ne_eqb, lt-ltb, le-ltb, ltb-false}
use Rattle.rows.specs.Format.{row_width}
use Rattle.rows.specs.Limits.{row_limit}
use Rattle.rows.specs.Held.{Held, nothing, with_row}
use Rattle.rows.proofs.Bools.{not-not, or-false}
use Rattle.sheet.specs.Reading.{ragged, Verdict, taken, first_of, tests, passed, settled, read_from, outcome_of}
use Rattle.sheet.specs.declared.kind.Kind.{Kind}
use Rattle.sheet.specs.HeldLimits.{WithinLimits}
use Rattle.sheet.proofs.kind.KindLaws.{rows-limit}
use Rattle.sheet.proofs.read.HeldLimits.{nothing-within, row_within}
use Rattle.sheet.proofs.read.Taken.{row_at, Taken, tests-none}
use Rattle.sheet.proofs.read.ReadingLaws.{row-counted, read_none}

-- what is read of a text: the rows before `at`, k of them, hold h, and what is left decides the outcome
pub record Read (kind : Kind) (pattern text : List ℕ) (at k : ℕ) (h : Held) : Type 0 where
  pub within : WithinLimits kind h
  pub rows : h.rows ≡ k
  pub rest : outcome_of kind pattern text ≡ read_from (row_limit + 1 - k) kind pattern h (drop at text)

pub read-start : (kind : Kind) (pattern text : List ℕ) → Read kind pattern text 0 0 nothing
unfolding outcome_of
read-start kind pattern text = record { within = nothing-within kind; rows = refl; rest = rw (rows-limit kind) }

module _ (kind : Kind) (pattern text : List ℕ) (at k : ℕ) (h : Held) (r : Read kind pattern text at k h) where
  pub read-end : length text ≤ at → outcome_of kind pattern text ≡ passed h
  read-end e = r.rest ∙ rw (drop_of_length-le text e) (read_none (row_limit + 1 - k) kind pattern h)

  module _ (more : at < length text) (few : k ≤ row_limit) where
    -- one row is looked at, by the first test that holds
    pub opened : (v : Verdict) → first_of (tests kind pattern h (drop at text)) ≡ v
        → outcome_of kind pattern text ≡ settled v h (read_from (row_limit - k) kind pattern (with_row h (row_at (drop at text))) (drop row_width (drop at text)))
    unfolding read_from
    opened v q =
        let n : row_limit + 1 - k ≡ suc (row_limit - k) = omega arith in
        let some : eqb (length (drop at text)) 0 ≡ false = ne_eqb (length (drop at text)) 0 (λ z. omega (arith, length-drop at text)) in
        r.rest ∙ rw n (rw some (rw q))

    -- the row is taken in
    module _ (q : first_of (tests kind pattern h (drop at text)) ≡ taken) where
      none : Taken kind pattern h (drop at text)
      none = tests-none kind pattern h (drop at text) q

      pub row_fits : (at + row_width ≤ length text) × (k + 1 ≤ row_limit)
      row_fits =
          let w : row_width ≤ length (drop at text) = ltb-false _ _ (or-false _ _ none.whole).0 in
          (omega (arith, length-drop at text), omega (arith, none.rows, r.rows))

      pub read_next : Read kind pattern text (at + row_width) (k + 1) (with_row h (row_at (drop at text)))
      read_next =
          let n : row_limit + 1 - (k + 1) ≡ row_limit - k = omega arith in
          record {
            within = row_within kind pattern h (drop at text) none r.within;
            rows = row-counted h (row_at (drop at text)) ∙ ap (λ (n : ℕ). n + 1) r.rows;
            rest = opened taken q ∙ rw n (rw (drop-drop row_width at text));
          }

-- refusal 1, from the bytes of the text
module _ (text : List ℕ) (at : ℕ) (le : at ≤ length text) where
  pub ragged-short : length text - at < row_width → true ≡ ragged (drop at text)
  ragged-short e = rw (lt-ltb (length (drop at text)) row_width (omega (arith, length-drop at text)))

  pub ragged-last : row_width ≤ length text - at → bool.not (eqb (get_or text (at + row_width - 1) 0) 10) ≡ ragged (drop at text)
  ragged-last e =
      let last : get_or (drop at text) (row_width - 1) 0 ≡ get_or text (at + row_width - 1) 0 = get_or-drop at text (row_width - 1) 0 ∙ ap (λ (n : ℕ). get_or text n 0) (omega arith) in
      rw (le-ltb (length (drop at text)) row_width (omega (arith, length-drop at text))) (rw last (not-not (eqb (get_or text (at + row_width - 1) 0) 10)))

  pub whole-fits : ragged (drop at text) ≡ false → at + row_width ≤ length text
  whole-fits e = let w : row_width ≤ length (drop at text) = ltb-false _ _ (or-false _ _ e).0 in omega (arith, length-drop at text)
