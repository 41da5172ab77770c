-- What a text holds, in the arrays of the walk that reads it; no contract of a task rests on these.
use Rattle.std.specs.Prelude.{ℕ, ◌+◌, List, length}
use Rattle.rows.specs.Limits.{atom_room, context_room, link_room, mark_room}
use Rattle.rows.specs.Held.{Held}
use Rattle.rows.specs.Packed.{padded, no_atom, no_context, port_table}
use Rattle.rows.specs.declared.Atom.{Atom}
use Rattle.rows.specs.declared.Context.{Context}

-- The arrays: atoms; contexts, and for each number its port count and 1; the links in the order in which they first
-- appear, and their classes; the marks in that order, and the places of their links. In a list of fillings, links and
-- marks are those of the last filling.
pub record TextArrays : Type 0 where
  pub atoms : List Atom
  pub atom_count : ℕ
  pub contexts : List Context
  pub context_count : ℕ
  pub ports : List ℕ
  pub links : List ℕ
  pub classes : List ℕ
  pub link_count : ℕ
  pub marks : List ℕ
  pub marked : List ℕ
  pub mark_count : ℕ

-- each array has room for one row more than its limit
abbrev pub packed : Held → TextArrays
packed h =
    record {
      atoms = padded atom_room no_atom h.atoms;
      atom_count = length h.atoms;
      contexts = padded context_room no_context h.contexts;
      context_count = length h.contexts;
      ports = port_table h.contexts;
      links = padded link_room 0 h.wiring.links;
      classes = padded link_room 0 h.wiring.classes;
      link_count = length h.wiring.links;
      marks = padded mark_room 0 h.wiring.marks;
      marked = padded mark_room 0 h.wiring.marked;
      mark_count = length h.wiring.marks;
    }
