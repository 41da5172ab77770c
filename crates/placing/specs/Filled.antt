-- Document 01, 'Tasks': a filled figure as a hypergraph, and its normal text.
use Rattle.std.specs.Prelude.{ℕ, zero, suc, ◌+◌, ◌*◌, List, map}
use Rattle.hyperlmntal.specs.GraphSubstitution.{Entry}
use Rattle.hyperlmntal.specs.Hypergraph.{Node, inner, name, Flat, map_flat}
use Rattle.hyperlmntal.specs.DenotedSubstitution.{Spot, outer, within, fill_flat}
use Rattle.reading.specs.Normal.{normal_form}
use Rattle.placing.specs.Fillings.{Filling, rows_graph}
use Rattle.placing.specs.Holding.{marks_from}

-- a filling as a hypergraph, its ports being the marks 1..n
abbrev pub flat_entry : Filling → Entry (Flat ℕ)
flat_entry f = record { number = f.number; ports = marks_from 1 f.ports; body = rows_graph f.rows }

-- a number for link n of part i, and no two links with one number: n in binary, then a 0 and i times a 1
abbrev pub of_part : ℕ → ℕ → ℕ
of_part zero n = 2 * n
of_part (suc i) n = 2 * of_part i n + 1

-- Part 0 is the figure, part i + 1 the filling put for its vertex at position i: 'with joints of its own for each B row'.
abbrev pub spot_number : Spot ℕ ℕ → ℕ
spot_number (outer n) = of_part zero n
spot_number (within i n) = of_part (suc i) n

abbrev pub spot_node : Node (Spot ℕ ℕ) → Node ℕ
spot_node (inner s) = inner (spot_number s)
spot_node (name X) = name X

-- The filled figure with numbered links: in the order of the vertices, each context gives way to the atoms of the filling of
-- its number and port count, mark i of the filling being port i of the context; a context without such a filling stays.
-- The fusions are those of the figure and of the fillings put in. In a text's hypergraph the S rows stand before the B rows,
-- so the atoms are 'the figure's S rows, then for each B row in order its filling's S rows'.
abbrev pub filled_graph : Flat ℕ → List Filling → Flat ℕ
filled_graph F θ = map_flat spot_node (fill_flat (map flat_entry θ) F)

-- 'Filled results are normal text'
abbrev pub filled_normal : Flat ℕ → List Filling → Flat ℕ
filled_normal F θ = normal_form (filled_graph F θ)
