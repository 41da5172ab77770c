-- The normal form of what a text holds, in the arrays of a `Normal`.
use Rattle.std.specs.Prelude.{ℕ, ◌+◌, List, map, length, take}
use Rattle.hyperlmntal.specs.Hypergraph.{Node, inner}
use Rattle.rows.specs.Format.{most_links}
use Rattle.rows.specs.Limits.{atom_room, context_room, mark_room}
use Rattle.rows.specs.Held.{Held}
use Rattle.rows.specs.Packed.{padded, no_atom, no_context}
use Rattle.rows.specs.declared.Atom.{Atom}
use Rattle.rows.specs.declared.Context.{Context}
use Rattle.reading.specs.Graph.{graph_of}
use Rattle.reading.specs.Normal.{class_of, classes_by, number_by, marks_of, mark_node}
use Rattle.rows.specs.declared.Sheet.{Sheet as Normal}

-- the number of a node's class
abbrev pub number_in : Held → Node ℕ → ℕ
number_in h x = number_by (class_of (graph_of h).fusions) (graph_of h) x

abbrev pub numbered_links : Held → ℕ → List ℕ → List ℕ
numbered_links h count links = padded most_links 0 (map (λ x. number_in h (inner x)) (take count links))

abbrev pub normal_atom : Held → Atom → Atom
normal_atom h a = record { name = a.name; count = a.count; links = numbered_links h a.count a.links }

abbrev pub normal_context : Held → Context → Context
normal_context h c = record { number = c.number; count = c.count; links = numbered_links h c.count c.links; row = c.row }

abbrev pub normal_marks : Held → List ℕ
normal_marks h = marks_of (graph_of h)

abbrev pub packed_normal : Held → Normal
packed_normal h =
    record {
      atoms = padded atom_room no_atom (map (normal_atom h) h.atoms);
      atom_count = length h.atoms;
      contexts = padded context_room no_context (map (normal_context h) h.contexts);
      context_count = length h.contexts;
      marks = padded mark_room 0 (normal_marks h);
      marked = padded mark_room 0 (map (λ m. number_in h (mark_node m)) (normal_marks h));
      mark_count = length (normal_marks h);
      class_count = length (classes_by (class_of (graph_of h).fusions) (graph_of h));
    }
