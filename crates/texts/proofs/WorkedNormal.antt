-- A worked sheet whose links and marks come in another order than in its normal form, computed.
use mathlib.Core.Path.{◌≡◌, refl}
use mathlib.Core.List.{[], ◌∷◌}
use Rattle.rows.specs.Held.{index_of, nothing, with_atom, with_fusion_row, with_edge_row, with_links, with_link, with_fusion, with_mark, merged}
use Rattle.reading.specs.Graph.{graph_of}
use Rattle.reading.specs.Normal.{class_of, inserted, marks_among, others, distinct, classes_by, number_by, normal_form_by, normal_form}

-- `E 7 6`, `E 8 5`, `S 30 2 4 3`, `F 9 3` has the normal text `S 30 2 1 2`, `E 3 5`, `E 4 6`
pub ordered : normal_form (graph_of (with_fusion_row (with_atom (with_edge_row (with_edge_row nothing 7 6) 8 5) (30 ∷ 2 ∷ 4 ∷ 3 ∷ [])) 9 3))
    ≡ graph_of (with_edge_row (with_edge_row (with_atom nothing (30 ∷ 2 ∷ 1 ∷ 2 ∷ [])) 3 5) 4 6)
unfolding with_atom with_fusion_row with_edge_row with_links with_link with_fusion with_mark merged index_of class_of inserted marks_among others distinct classes_by number_by normal_form_by normal_form
ordered = refl
