-- Document 01, 'Rows': the fillings that a list's text holds.
use Rattle.std.specs.Prelude.{ℕ, List, ◌++◌, map, take}
use Rattle.rows.specs.Held.{Held}
use Rattle.rows.specs.declared.Atom.{Atom}
use Rattle.rows.specs.declared.Context.{Context}
use Rattle.sheet.specs.Filling.{filling_of}
use Rattle.sheet.specs.Reading.{outcome_of, no_ports}
use Rattle.sheet.specs.declared.kind.Kind.TheVariants.{Fillings}
use Rattle.placing.specs.Fillings.{Row, symbol_row, point_row, Filling, mark_of}

-- an S row: the name, and as many links as its count says
abbrev pub symbol_read : Atom → Row
symbol_read a = symbol_row a.name (take a.count a.links)

-- an F row
abbrev pub point_read : ℕ × ℕ → Row
point_read e = point_row e.0 e.1

-- the rows of one filling, by what they hold: S rows, F rows, E rows
abbrev pub rows_read : Held → List Row
rows_read h = map symbol_read h.atoms ++ (map point_read h.fusions ++ map mark_of h.edges)

-- what a list holds; its contexts are the H rows
abbrev pub list_held : List ℕ → Held
list_held list = (outcome_of Fillings no_ports list).held

-- what the filling of one blank holds, its part of the list being a list of its own
abbrev pub part_held : List ℕ → ℕ → Held
part_held list number = list_held (filling_of list number)

-- the filling of an H row
abbrev pub filling_read : List ℕ → Context → Filling
filling_read list c = record { number = c.number; ports = c.count; rows = rows_read (part_held list c.number) }

-- 'for ascending blank numbers, an H row and then that filling's S, F, E rows'
abbrev pub fillings_read : List ℕ → List Filling
fillings_read list = map (filling_read list) (list_held list).contexts
