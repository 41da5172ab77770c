-- The sizes of the arrays of the search for ways.
use Rattle.std.specs.Prelude.{ℕ, ◌+◌, ◌*◌}
use Rattle.rows.specs.Format.{most_links}
use Rattle.rows.specs.Limits.{sheet_atom_limit, sheet_link_limit}

-- places of atoms
abbrev pub place_count : ℕ
place_count = sheet_atom_limit * most_links

-- a vertex is a link or an atom
abbrev pub vertex_count : ℕ
vertex_count = sheet_link_limit + sheet_atom_limit

-- a number for each place, each vertex and each link
abbrev pub flow_room : ℕ
flow_room = place_count + vertex_count + sheet_link_limit

-- two states for each vertex
abbrev pub state_count : ℕ
state_count = 2 * vertex_count
