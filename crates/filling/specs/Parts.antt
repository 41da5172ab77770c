-- One filling as a normal form of its own, and the bounds of a normal form's numbers.
use Rattle.std.specs.Prelude.{ℕ, suc, ◌+◌, ◌*◌, ◌<◌, ◌≤◌, ◌≡◌, Bool, true, List, [], ◌∷◌, eqb, take, get_or}
use Rattle.rows.specs.Pick.{pick}
use Rattle.rows.specs.Format.{most_links, context_bound}
use Rattle.rows.specs.Limits.{sheet_atom_limit, figure_contexts, sheet_marks, context_room, link_room}
use Rattle.rows.specs.Held.{Held}
use Rattle.rows.specs.TextArrays.{packed}
use Rattle.rows.specs.declared.Context.{Context}
use Rattle.sheet.specs.Filling.{HeadsRead}
use Rattle.reading.specs.NormalSheet.{packed_normal}
use Rattle.normalising.specs.NormalRows.{past_atoms, past_contexts}
use Rattle.rows.specs.declared.Sheet.{Sheet as Normal}
use Rattle.placing.specs.Smallest.{same_list, numbers_to}
use Rattle.filling.specs.Read.{list_held, part_held}

-- what is held, without H rows
abbrev pub without_heads : Held → Held
without_heads h = record { rows = h.rows; atoms = h.atoms; contexts = []; fusions = h.fusions; edges = h.edges; wiring = h.wiring }

-- the filling of this number
abbrev pub part_normal : List ℕ → ℕ → Normal
part_normal list number = packed_normal (without_heads (part_held list number))

-- a normal form with the H rows of what is held
abbrev pub with_heads : Held → Normal → Normal
with_heads h n =
    record { atoms = n.atoms; atom_count = n.atom_count; contexts = (packed h).contexts; context_count = (packed h).context_count; marks = n.marks; marked = n.marked; mark_count = n.mark_count; class_count = n.class_count }

-- the same as it is read, with its H row
abbrev pub part_read : List ℕ → ℕ → Normal
part_read list number = with_heads (part_held list number) (part_normal list number)

-- a list that passes, with its H rows, and the table of their port counts and 1
pub record Headed (heads : List Context) (n : ℕ) (table list : List ℕ) : Type 0 where
  pub read : HeadsRead list heads n
  pub ports : table ≡ (packed (list_held list)).ports

-- the marks of a filling
abbrev pub part_marks : List ℕ → ℕ → List ℕ
part_marks list number = take (part_normal list number).mark_count (part_normal list number).marks

-- the marks of the filling of this number are 1 to n
abbrev pub exact_to : List ℕ → ℕ → ℕ → Bool
exact_to list number n = same_list (part_marks list number) (numbers_to n)

-- a table that has, of some numbers, the n to which their fillings' marks go, and 1
abbrev pub Exacts : List ℕ → List ℕ → Type 0
Exacts list table = (number n : ℕ) → get_or table number 0 ≡ n + 1 → exact_to list number n ≡ true

-- the first context whose number has no such count in a table of port counts and 1
unfoldable pub first_unported : List ℕ → List Context → ℕ
first_unported ports [] = 0
first_unported ports (c ∷ l) = pick (eqb (get_or ports c.number 0) (suc c.count)) (first_unported ports l) c.row

-- the numbers and counts of a text's n contexts are in their ranges
pub record Counted (contexts : List Context) (n : ℕ) : Type 0 where
  pub few : n ≤ figure_contexts
  pub number : (i : ℕ) → (get_or contexts i past_contexts).number < context_bound
  pub count : (i : ℕ) → (get_or contexts i past_contexts).count ≤ most_links

-- the classes of one part, which are counted from 1
abbrev pub part_room : ℕ
part_room = link_room

-- the figure, and a filling for each context
abbrev pub places : ℕ
places = context_room * part_room

-- a normal form whose numbers are in their ranges; past an array's end the logic reads zeros and an empty list
pub record Low (n : Normal) : Type 0 where
  pub atoms : n.atom_count ≤ sheet_atom_limit
  pub contexts : n.context_count ≤ figure_contexts
  pub marks : n.mark_count ≤ sheet_marks
  pub atom_counts : (i : ℕ) → (get_or n.atoms i past_atoms).count ≤ most_links
  pub atom_links : (i k : ℕ) → get_or (get_or n.atoms i past_atoms).links k 0 < part_room
  pub context_counts : (i : ℕ) → (get_or n.contexts i past_contexts).count ≤ most_links
  pub context_numbers : (i : ℕ) → (get_or n.contexts i past_contexts).number < context_bound
  pub context_links : (i k : ℕ) → get_or (get_or n.contexts i past_contexts).links k 0 < part_room
  pub marked : (k : ℕ) → get_or n.marked k 0 < part_room
