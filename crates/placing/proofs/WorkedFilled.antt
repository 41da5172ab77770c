-- What filling gives where a filling is used twice, is missing, or is not asked for.
use mathlib.Core.Path.{◌≡◌, refl}
use mathlib.Core.List.{[], ◌∷◌}
use native.Mathlib.Decide.{ℕ_discrete}
use Rattle.hyperlmntal.specs.Link.{◌≟◌}
use Rattle.hyperlmntal.specs.GraphSubstitution.{same_functor}
use Rattle.hyperlmntal.specs.DenotedSubstitution.{connect}
use Rattle.rows.specs.Held.{index_of}
use Rattle.reading.specs.Normal.{normal_form, normal_form_by, class_of, classes_by, number_by, marks_among, inserted, distinct, others}
use Rattle.placing.specs.Net.{with_link_count, net_graph}
use Rattle.placing.specs.Fillings.{symbol_row, point_row, edge_row}
use Rattle.placing.specs.Filled.{filled_normal}

-- A filling put for two blanks has links of its own for each; a blank without a filling of its number and count stays; a filling
-- that no blank asks for changes nothing. Figure `B 1 1 1`, `B 1 1 2`, `B 2 1 2`, `E 2 5`; fillings `H 1 1`, `S 30 2 1 2`, `F 2 3`, `E 1 1`, `H 2 0`, `S 50 0`.
pub twice-filled : filled_normal
    (net_graph (with_link_count [] ((1, 1 ∷ []) ∷ (1, 2 ∷ []) ∷ (2, 2 ∷ []) ∷ []) ((2, 5) ∷ [])))
    (record { number = 1; ports = 1; rows = symbol_row 30 (1 ∷ 2 ∷ []) ∷ point_row 2 3 ∷ edge_row 1 1 ∷ [] } ∷ record { number = 2; ports = 0; rows = symbol_row 50 [] ∷ [] } ∷ [])
    ≡ net_graph (with_link_count ((30, 1 ∷ 2 ∷ []) ∷ (30, 3 ∷ 4 ∷ []) ∷ []) ((2, 3 ∷ []) ∷ []) ((3, 5) ∷ []))
unfolding ℕ_discrete same_functor connect ◌≟◌ normal_form normal_form_by class_of classes_by number_by marks_among inserted distinct others index_of
twice-filled = refl
