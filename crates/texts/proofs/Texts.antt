-- Closed texts: what their rows hold, and how the answers to them are read off.
use Prim.Native.Nat.{ℕ, zero, suc, ◌-◌, ◌*◌}
use mathlib.Core.Path.{◌≡◌, ◌∙◌, ap}
use mathlib.Core.List.{List, [], ◌∷◌, ◌++◌}
use lib.ListN.{length}
use Rattle.rows.specs.Format.{row_width, letter_of, rule_of}
use Rattle.rows.specs.Limits.{row_limit}
use Rattle.rows.specs.Row.{misplaced_in, field_of, suits, judged, fields_of, row_of}
use Rattle.writing.specs.RowText.{field_bytes, fields_bytes, row_bytes}
use Rattle.rows.specs.Held.{Held, nothing, index_of, with_link, with_links, merged, with_fusion, with_mark, with_atom, with_context, with_fusion_row, with_edge_row, with_head, with_row}
use Rattle.rows.specs.Packed.{ports_of}
use Rattle.sheet.specs.Reading.{strange, last_number, clash_of, clashes, first_of, Outcome, passed, read_from, outcome_of}
use Rattle.sheet.specs.declared.kind.Kind.{Kind}
use Rattle.sheet.specs.declared.answer.Answer.{Answer}
use Rattle.sheet.specs.HeldLimits.{Every}
use Rattle.sheet.proofs.kind.KindLaws.{rows-limit}
use Rattle.sheet.proofs.read.Taken.{read-on}
use Rattle.texts.specs.Texts.{rows_from, Answers}

-- f at n, n - 1, .., 1.
unfoldable pub down_from {ℓ} : {A : Type ℓ} → (ℕ → A) → ℕ → List A
down_from f zero = []
down_from f (suc n) = f (suc n) ∷ down_from f n

-- An `unfolding` line with this name opens all that computes in the reading of a closed text.
unfoldable pub answer_to : Kind → List ℕ → List ℕ → Answer
unfolding field_bytes fields_bytes row_bytes down_from rows_from letter_of rule_of misplaced_in field_of suits judged fields_of row_of index_of with_link with_links merged with_fusion with_mark with_atom with_context with_fusion_row with_edge_row with_head with_row ports_of strange last_number clash_of clashes first_of read_from outcome_of
answer_to kind pattern text = (outcome_of kind pattern text).answer

-- Answers, from what the rows hold, where one row more is allowed.
abbrev pub LastAnswers : Kind → List ℕ → Held → List (List ℕ × Answer) → Type 0
LastAnswers kind pattern h cases = Every (λ c. (read_from 2 kind pattern h c.0).answer ≡ c.1) cases

-- All rows that are allowed but one, and what they hold.
pub record AlmostAll (kind : Kind) (pattern rows : List ℕ) (h : Held) : Type 0 where
  pub whole : length rows ≡ (row_limit - 1) * row_width
  pub read : read_from (row_limit - 1) kind pattern nothing rows ≡ passed h

module _ (kind : Kind) (pattern rows : List ℕ) (h : Held) (a : AlmostAll kind pattern rows h) where
  pub last-read : (last : List ℕ) → outcome_of kind pattern (rows ++ last) ≡ read_from 2 kind pattern h last
  unfolding outcome_of
  last-read last = rw (rows-limit kind) (read-on kind pattern (row_limit - 1) 2 nothing h rows last a.whole a.read)

  pub last-answers : (cases : List (List ℕ × Answer)) → LastAnswers kind pattern h cases → Answers kind pattern rows cases
  last-answers [] p = tt
  last-answers (c ∷ cases) p = (ap (λ (o : Outcome). o.answer) (last-read c.0) ∙ p.0, last-answers cases p.1)
