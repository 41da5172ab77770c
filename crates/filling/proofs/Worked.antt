-- Fillings that do not suit their figure, computed from their texts: 8 and 9.
use Prim.Native.Nat.{ℕ}
use mathlib.Core.Path.{◌≡◌, refl}
use mathlib.Core.List.{List, [], ◌∷◌, ◌++◌}
use native.Mathlib.Decide.{ℕ_discrete}
use Rattle.hyperlmntal.specs.Link.{◌≟◌}
use Rattle.hyperlmntal.specs.GraphSubstitution.{same_functor}
use Rattle.hyperlmntal.specs.DenotedSubstitution.{connect}
use Rattle.rows.specs.Format.{letter_of, rule_of}
use Rattle.rows.specs.Row.{misplaced_in, field_of, suits, judged, fields_of, row_of}
use Rattle.writing.specs.RowText.{field_bytes, fields_bytes, row_bytes}
use Rattle.rows.specs.Held.{index_of, with_link, with_links, merged, with_fusion, with_mark, with_atom, with_context, with_fusion_row, with_edge_row, with_head, with_row}
use Rattle.rows.specs.Packed.{ports_of}
use Rattle.sheet.specs.Reading.{strange, last_number, clash_of, clashes, first_of, read_from, outcome_of}
use Rattle.sheet.specs.Filling.{from_head, before_head, filling_of}
use Rattle.reading.specs.Normal.{class_of, inserted, marks_among, others, distinct, classes_by, number_by, normal_form_by, normal_form}
use Rattle.normalising.specs.NormalText.{joined}
use Rattle.filling.specs.Fill.{first_lacking, first_differing, filled_answer, fill_answer}
use Rattle.answers.specs.declared.outcome.Done.TheVariants.{BlankClash, EdgeDiffers}

abbrev S : ℕ → List ℕ → List ℕ
S n l = row_bytes 83 (n ∷ l)

abbrev B : ℕ → List ℕ → List ℕ
B n l = row_bytes 66 (n ∷ l)

abbrev E : ℕ → ℕ → List ℕ
E a m = row_bytes 69 (a ∷ m ∷ [])

abbrev H : ℕ → ℕ → List ℕ
H n p = row_bytes 72 (n ∷ p ∷ [])

pub record Worked : Type 0 where
  -- a blank without a filling of its count
  pub clash : fill_answer (S 40 (0 ∷ []) ++ B 1 (1 ∷ 1 ∷ [])) (H 1 0) 4096 ≡ BlankClash 1 2
  -- a filling with another mark than its ports
  pub differs : fill_answer (B 1 (0 ∷ [])) (H 1 0 ++ H 2 1 ++ E 1 2) 4096 ≡ EdgeDiffers 2 2

pub worked : Worked
unfolding ℕ_discrete ◌≟◌ same_functor connect letter_of rule_of misplaced_in field_of suits judged fields_of row_of field_bytes fields_bytes row_bytes index_of with_link with_links merged with_fusion with_mark with_atom with_context with_fusion_row with_edge_row with_head with_row ports_of strange last_number clash_of clashes first_of read_from outcome_of from_head before_head filling_of class_of inserted marks_among others distinct classes_by number_by normal_form_by normal_form joined first_lacking first_differing filled_answer fill_answer
worked = record { clash = refl; differs = refl }
