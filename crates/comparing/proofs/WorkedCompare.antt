-- What comparing answers where a text is refused: the input and its row, from the bytes of the texts.
use Prim.Native.Nat.{ℕ}
use mathlib.Core.Path.{◌≡◌, refl}
use mathlib.Core.List.{List, [], ◌∷◌, ◌++◌, map}
use Rattle.writing.specs.RowText.{field_bytes, fields_bytes, row_bytes}
use Rattle.rows.specs.Format.{letter_of, rule_of}
use Rattle.rows.specs.Row.{misplaced_in, field_of, suits, judged, fields_of, row_of}
use Rattle.rows.specs.Held.{index_of, with_link, with_links, merged, with_fusion, with_mark, with_atom, with_context, with_fusion_row, with_edge_row, with_head, with_row}
use Rattle.rows.specs.Packed.{ports_of}
use Rattle.sheet.specs.Reading.{strange, last_number, clash_of, clashes, first_of, read_from, outcome_of}
use Rattle.sheet.specs.declared.answer.Refusal.TheVariants.{Ragged, StrangeRow}
use Rattle.comparing.specs.Compare.{compare_answer}
use Rattle.answers.specs.declared.outcome.Compared.{Compared}
use Rattle.answers.specs.declared.outcome.Compared.TheVariants.{Refused}

record Case : Type 0 where
  first : List ℕ
  second : List ℕ
  answer : Compared

abbrev cases : List Case
cases =
    -- `F 1 1`; `E 1 5` and a space
    record { first = row_bytes 70 (1 ∷ 1 ∷ []); second = row_bytes 69 (1 ∷ 5 ∷ []) ++ (32 ∷ []); answer = Refused 2 Ragged 2 }
    -- `B 1 0`; a space
    ∷ record { first = row_bytes 66 (1 ∷ 0 ∷ []); second = 32 ∷ []; answer = Refused 1 StrangeRow 1 }
    ∷ []

worked-compare : map (λ c. compare_answer c.first c.second) cases ≡ map (λ c. c.answer) cases
unfolding compare_answer field_bytes fields_bytes row_bytes letter_of rule_of misplaced_in field_of suits judged fields_of row_of index_of with_link with_links merged with_fusion with_mark with_atom with_context with_fusion_row with_edge_row with_head with_row ports_of strange last_number clash_of clashes first_of read_from outcome_of
worked-compare = refl
