-- Document 01, 'Rows': a text as a hypergraph. Every joint is a local link, every mark a free link;
-- S rows are atoms, B rows graph contexts, F and E rows fusions.
use Rattle.std.specs.Prelude.{ℕ, ◌++◌, map, take}
use Rattle.hyperlmntal.specs.Link.{free}
use Rattle.hyperlmntal.specs.Template.{Template}
use Rattle.hyperlmntal.specs.Hypergraph.{inner, name, symbol, hole, Cell, Fusion, Flat}
use Rattle.hyperlmntal.specs.TermOf.{term_of}
use Rattle.rows.specs.Held.{Held}
use Rattle.rows.specs.declared.Atom.{Atom}
use Rattle.rows.specs.declared.Context.{Context}

abbrev pub atom_cell : Atom → Cell ℕ
atom_cell a = record { label = symbol a.name; ports = map inner (take a.count a.links) }

abbrev pub context_cell : Context → Cell ℕ
context_cell c = record { label = hole c.number; ports = map inner (take c.count c.links) }

abbrev pub fusion_of : ℕ × ℕ → Fusion ℕ
fusion_of e = (inner e.0, inner e.1)

abbrev pub edge_of : ℕ × ℕ → Fusion ℕ
edge_of e = (inner e.0, name (free e.1))

-- the hypergraph of a sheet or a figure, by what its rows hold
abbrev pub graph_of : Held → Flat ℕ
graph_of h = record { atoms = map atom_cell h.atoms ++ map context_cell h.contexts; fusions = map fusion_of h.fusions ++ map edge_of h.edges }

-- the term of a sheet or a figure
abbrev pub term_of_text : Held → Template
term_of_text h = term_of (graph_of h)
