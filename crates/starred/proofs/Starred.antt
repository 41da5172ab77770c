-- The starred cases of document 01, computed from the bytes of their texts.
use mathlib.Core.Path.{refl}
use native.Mathlib.Decide.{ℕ_discrete}
use Rattle.hyperlmntal.specs.Link.{◌≟◌}
use Rattle.hyperlmntal.specs.GraphSubstitution.{same_functor}
use Rattle.hyperlmntal.specs.DenotedSubstitution.{connect}
use Rattle.rows.specs.Format.{letter_of, rule_of}
use Rattle.rows.specs.Row.{misplaced_in, field_of, suits, judged, fields_of, row_of}
use Rattle.writing.specs.RowText.{field_bytes, fields_bytes, row_bytes}
use Rattle.rows.specs.Held.{index_of, with_link, with_links, merged, with_fusion, with_mark, with_atom, with_context, with_fusion_row, with_edge_row, with_head, with_row}
use Rattle.rows.specs.Packed.{ports_of}
use Rattle.sheet.specs.Reading.{strange, last_number, clash_of, clashes, first_of, read_from, outcome_of}
use Rattle.sheet.specs.Filling.{from_head, before_head, filling_of}
use Rattle.reading.specs.Normal.{class_of, inserted, marks_among, others, distinct, classes_by, number_by, normal_form_by, normal_form}
use Rattle.normalising.specs.NormalText.{joined}
use Rattle.placing.specs.Fillings as fillings
use Rattle.placing.specs.ListText.{rows_text, list_text}
use Rattle.placing.specs.First.{first_from, first_list}
use Rattle.placing.specs.Smallest.{labels_by, smallest}
use Rattle.placing.specs.Narrowed.{first_may, narrowed}
use Rattle.comparing.specs.Compare.{same_test, compare_answer}
use Rattle.filling.specs.Fill.{first_lacking, first_differing, filled_answer}
use Rattle.starred.specs.Case.{Every, all, ◌&◌, Holds}
use Rattle.starred.specs.Table.{table}
use Rattle.starred.proofs.Computed.{all_hold}

pub starred : Every Holds table
unfolding ℕ_discrete ◌≟◌ same_functor connect letter_of rule_of misplaced_in field_of suits judged fields_of row_of field_bytes fields_bytes row_bytes index_of with_link with_links merged with_fusion with_mark with_atom with_context with_fusion_row with_edge_row with_head with_row ports_of strange last_number clash_of clashes first_of read_from outcome_of from_head before_head filling_of class_of inserted marks_among others distinct classes_by number_by normal_form_by normal_form joined fillings.places_of fillings.with_context fillings.by_number rows_text list_text first_from first_list labels_by smallest first_may narrowed same_test compare_answer first_lacking first_differing filled_answer
starred =
    all_hold table
    (refl  -- `F 1 1`, the empty sheet
    & refl  -- `E 1 5`, the empty sheet
    & refl  -- `E 1 5`, `E 1 6`; `E 1 5`, `E 2 6`
    & refl  -- `S 30 2 1 2`, `E 1 5`, `E 2 5`
    & refl  -- figure `B 1 1 1`
    & refl  -- figure `B 1 0`, `B 2 0`
    & refl  -- figure `S 40 1 1`, `S 41 1 2`, `B 1 2 1 2`
    & refl  -- figure `S 40 1 1`, `S 41 1 2`
    & refl  -- stage and hut
    & refl  -- stage and hut, the whole output
    & refl  -- two stages and the hut
    & all)
