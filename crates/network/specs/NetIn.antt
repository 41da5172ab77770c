-- The arrays of a `Normal` as a net.
use Rattle.std.specs.Prelude.{ℕ, ◌≤◌, ◌<◌, ◌≡◌, List, [], ◌∷◌, map, length, take, get_or}
use Rattle.rows.specs.Format.{most_links}
use Rattle.rows.specs.Limits.{sheet_atom_limit, sheet_link_limit, sheet_marks, figure_contexts, atom_room, context_room, mark_room}
use Rattle.rows.specs.declared.Atom.{Atom}
use Rattle.rows.specs.declared.Context.{Context}
use Rattle.rows.specs.declared.Sheet as form
use Rattle.placing.specs.Net.{NetCell, Net, Range}

abbrev pub atom_in : Atom → NetCell
atom_in a = (a.name, take a.count a.links)

abbrev pub context_in : Context → NetCell
context_in c = (c.number, take c.count c.links)

-- two lists side by side, as far as both go
abbrev pub paired : List ℕ → List ℕ → List (ℕ × ℕ)
paired [] m = []
paired (x ∷ l) [] = []
paired (x ∷ l) (y ∷ m) = (x, y) ∷ paired l m

-- the parts of each array that are used; a mark stands behind its link
abbrev pub net_in : form.Sheet → Net
net_in n =
    record {
      atoms = map atom_in (take n.atom_count n.atoms);
      contexts = map context_in (take n.context_count n.contexts);
      marks = paired (take n.mark_count n.marked) (take n.mark_count n.marks);
      links = n.class_count;
    }

-- what code reads at an index from 0; past an array's end the logic reads zeros and an empty list
abbrev pub atom_at : form.Sheet → ℕ → Atom
atom_at n i = get_or n.atoms i (record { name = 0; count = 0; links = [] })

abbrev pub row_at : List Context → ℕ → Context
row_at contexts i = get_or contexts i (record { number = 0; count = 0; links = []; row = 0 })

abbrev pub context_at : form.Sheet → ℕ → Context
context_at n i = row_at n.contexts i

-- The first `count` of these links are numbers of links, of which there are n.
pub record Used (n count : ℕ) (links : List ℕ) : Type 0 where
  pub few : count ≤ most_links
  pub width : length links ≡ most_links
  pub numbered : (k : ℕ) → k < count → Range n (get_or links k 0)

-- The same of a row of any width.
pub record Numbered (n count : ℕ) (links : List ℕ) : Type 0 where
  pub there : count ≤ length links
  pub numbered : (k : ℕ) → k < count → Range n (get_or links k 0)

-- The counts are within the limits of a sheet and the room of the arrays, and the links that are used are numbers of links.
pub record Fit (n : form.Sheet) : Type 0 where
  pub atom-count : n.atom_count ≤ sheet_atom_limit
  pub context-count : n.context_count ≤ figure_contexts
  pub mark-count : n.mark_count ≤ sheet_marks
  pub class-count : n.class_count ≤ sheet_link_limit
  pub atom-room : length n.atoms ≡ atom_room
  pub context-room : length n.contexts ≡ context_room
  pub mark-room : length n.marks ≡ mark_room
  pub marked-room : length n.marked ≡ mark_room
  pub atoms : (i : ℕ) → i < n.atom_count → Used n.class_count (atom_at n i).count (atom_at n i).links
  pub contexts : (i : ℕ) → i < n.context_count → Numbered n.class_count (context_at n i).count (context_at n i).links
  pub marked : (i : ℕ) → i < n.mark_count → Range n.class_count (get_or n.marked i 0)
