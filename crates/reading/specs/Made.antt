-- What a reader hands back of what a text holds, by the steps of making a normal form.
use Rattle.std.specs.Prelude.{ℕ, ◌+◌, ◌≡◌, Bool, List, [], ◌++◌, map, ltb, length, take, drop}
use Rattle.rows.specs.Pick.{pick, and}
use Rattle.rows.specs.Limits.{link_room, mark_room}
use Rattle.rows.specs.Packed.{padded, port_table}
use Rattle.rows.specs.TextArrays.{packed, TextArrays}
use Rattle.rows.specs.declared.Atom.{Atom}
use Rattle.rows.specs.declared.Context.{Context}
use Rattle.numbering.specs.Numbering.{Numbering, label_at, mark_label_at, no_numbers, with_classes, atom_labels, context_labels, atom_numbered, context_numbered, marks_by, sorted_into}
use Rattle.sheet.specs.Kinds.{is_list}
use Rattle.sheet.specs.Reading.{Outcome}
use Rattle.sheet.specs.declared.kind.Kind.{Kind}
use Rattle.rows.specs.declared.Sheet.{Sheet as Normal}
use Rattle.reading.specs.declared.read.Reading.{Reading}

-- the arrays of a text, without its table of ports
abbrev pub arrays : List Atom → ℕ → List Context → ℕ → List ℕ → List ℕ → ℕ → List ℕ → List ℕ → ℕ → TextArrays
arrays atoms a contexts c links classes n marks marked m =
    record { atoms = atoms; atom_count = a; contexts = contexts; context_count = c; ports = []; links = links; classes = classes; link_count = n; marks = marks; marked = marked; mark_count = m }

-- how long the arrays of links and marks are
abbrev pub Widths : TextArrays → Type 0
Widths s = (length s.links ≡ link_room) × (length s.classes ≡ link_room) × (length s.marks ≡ mark_room) × (length s.marked ≡ mark_room)

abbrev pub sorted_marks : TextArrays → List ℕ
sorted_marks s = padded mark_room 0 (sorted_into [] (take s.mark_count s.marks))

-- the classes of the first i atoms, of the first k contexts and of the marks, numbered in this order
abbrev pub numbering_of : ℕ → ℕ → TextArrays → Numbering
numbering_of i k s =
    with_classes
    (with_classes (with_classes no_numbers (atom_labels (label_at s) (take i s.atoms))) (context_labels (label_at s) (take k s.contexts)))
    (map (mark_label_at s) (take s.mark_count (sorted_marks s)))

-- the first i atoms, the first k contexts and the marks by these numbers; other atoms and contexts as they stand
abbrev pub normal_made : ℕ → ℕ → TextArrays → Normal
normal_made i k s =
    record {
      atoms = map (atom_numbered (numbering_of i k s).numbers (label_at s)) (take i s.atoms) ++ drop i s.atoms;
      atom_count = s.atom_count;
      contexts = map (context_numbered (numbering_of i k s).numbers (label_at s)) (take k s.contexts) ++ drop k s.contexts;
      context_count = s.context_count;
      marks = sorted_marks s;
      marked = marks_by (numbering_of i k s).numbers (mark_label_at s) (take s.mark_count (sorted_marks s));
      mark_count = s.mark_count;
      class_count = (numbering_of i k s).count;
    }

-- a list with several fillings
abbrev pub is_many : Kind → ℕ → Bool
is_many kind contexts = and (is_list kind) (ltb 1 contexts)

-- what a reader hands back: the answer, the normal form of what is held, and the table of ports; the heads of a list have no links, and
-- where it has several fillings their atoms stand as they are
abbrev pub reading_of : Kind → Outcome → Reading
reading_of kind o =
    record {
      answer = o.answer;
      normal = normal_made (pick (is_many kind (length o.held.contexts)) 0 (length o.held.atoms)) (pick (is_list kind) 0 (length o.held.contexts)) (packed o.held);
      ports = port_table o.held.contexts;
    }
