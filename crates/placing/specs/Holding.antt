-- Document 01, 'Words of demand 3': a figure holding fillings.
use Rattle.std.specs.Prelude.{ℕ, zero, suc, List, [], ◌∷◌, map}
use Rattle.hyperlmntal.specs.Link.{Link, free}
use Rattle.hyperlmntal.specs.Template.{Template}
use Rattle.hyperlmntal.specs.GraphSubstitution.{Entry, Substitution, substitute}
use Rattle.placing.specs.Net.{Net, net_term}
use Rattle.placing.specs.Fillings.{Filling, rows_term}

-- the marks from i on, n of them
abbrev pub marks_from : ℕ → ℕ → List Link
marks_from i zero = []
marks_from i (suc n) = free i ∷ marks_from (suc i) n

-- a filling as an entry of a graph substitution: its ports are the marks 1..n
abbrev pub entry_of : Filling → Entry Template
entry_of f = record { number = f.number; ports = marks_from 1 f.ports; body = rows_term f.rows }

-- a list of fillings as a graph substitution
abbrev pub substitution_of : List Filling → Substitution
substitution_of θ = map entry_of θ

-- 'the term in which every B row has given way to the filling of its number, with joints of its own for each B row, and mark i
-- of the filling is joint i of that row': graph substitution, which avoids capture
abbrev pub holding_term : Template → List Filling → Template
holding_term T θ = substitute (substitution_of θ) T

-- the figure holding fillings
abbrev pub holding : Net → List Filling → Template
holding F θ = holding_term (net_term F) θ
