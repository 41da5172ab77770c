-- Labels in the order in which they first appear, and atoms and marks with the numbers of their labels.
use Rattle.std.specs.Prelude.{ℕ, suc, ◌+◌, ◌≤◌, ◌≡◌, List, [], ◌∷◌, ◌++◌, map, length, take}
use Rattle.rows.specs.Pick.{pick}
use Rattle.rows.specs.Format.{most_links}
use Rattle.rows.specs.Limits.{sheet_link_limit, mark_room}
use Rattle.rows.specs.Held.{index_of, is_in}
use Rattle.rows.specs.Packed.{padded}
use Rattle.rows.specs.declared.Atom.{Atom}
use Rattle.rows.specs.declared.Sheet.{Sheet as Normal}
use Rattle.filling.specs.Whole.{labels_at, labelled_atom, all_atoms, room_for}

-- a table with room for one label more than a sheet has links, and how many labels are in it
abbrev pub LabelTable : List ℕ → ℕ → Type 0
LabelTable known n = (n ≤ sheet_link_limit + 1) × (length known ≡ sheet_link_limit + 1)

-- a label that is new comes last, where there is room
unfoldable pub with_label : List ℕ → ℕ → List ℕ
with_label l x = pick (is_in x l) l (take (sheet_link_limit + 1) (l ++ (x ∷ [])))

unfoldable pub with_labels : List ℕ → List ℕ → List ℕ
with_labels l [] = l
with_labels l (x ∷ more) = with_labels (with_label l x) more

-- the m labels of after are the n labels of before, and these
pub record Sees (before : List ℕ) (n : ℕ) (after : List ℕ) (m : ℕ) (more : List ℕ) : Type 0 where
  pub labels : take m after ≡ with_labels (take n before) more
  pub room : LabelTable after m

-- the links of atoms, in order
unfoldable pub links_in : List Atom → List ℕ
links_in [] = []
links_in (a ∷ l) = take a.count a.links ++ links_in l

-- the number of a label
abbrev pub number_in : List ℕ → ℕ → ℕ
number_in labels x = suc (index_of x labels)

abbrev pub numbered_links : List ℕ → ℕ → List ℕ → List ℕ
numbered_links labels count links = padded most_links 0 (map (number_in labels) (take count links))

abbrev pub numbered_atom : List ℕ → Atom → Atom
numbered_atom labels a = record { name = a.name; count = a.count; links = numbered_links labels a.count a.links }

-- an atom with places as its links, with the numbers of their labels
abbrev pub numbered_at : List ℕ → List ℕ → Atom → Atom
numbered_at known labels a = numbered_atom known (labelled_atom labels a)

-- the labels of the figure's marks
abbrev pub mark_labels : List ℕ → Normal → List ℕ
mark_labels labels figure = labels_at labels figure.mark_count figure.marked

-- atoms and labels of the filled figure
abbrev pub shown_atoms : List ℕ → List ℕ → Normal → List Atom
shown_atoms list labels figure = room_for (all_atoms list labels figure)

-- the labels of these atoms, then of these marks
abbrev pub labels_of : List Atom → List ℕ → List ℕ
labels_of atoms marks = with_labels (with_labels [] (links_in atoms)) marks

abbrev pub shown_labels : List ℕ → List ℕ → Normal → List ℕ
shown_labels list labels figure = labels_of (shown_atoms list labels figure) (mark_labels labels figure)

-- r is the figure filled from the list, where these are the labels of its classes
pub record Made (list labels : List ℕ) (figure r : Normal) : Type 0 where
  pub atoms : take r.atom_count r.atoms ≡ map (numbered_atom (shown_labels list labels figure)) (shown_atoms list labels figure)
  pub atom_total : r.atom_count ≡ length (shown_atoms list labels figure)
  pub context_total : r.context_count ≡ 0
  pub marks : r.marks ≡ figure.marks
  pub marked : r.marked ≡ padded mark_room 0 (map (number_in (shown_labels list labels figure)) (mark_labels labels figure))
  pub mark_total : r.mark_count ≡ figure.mark_count
  pub class_total : r.class_count ≡ length (shown_labels list labels figure)
