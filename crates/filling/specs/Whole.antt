-- The atoms of a filled figure, with the places of their links and with their labels.
use Rattle.std.specs.Prelude.{ℕ, ◌+◌, ◌<◌, ◌≤◌, ◌≡◌, List, [], ◌∷◌, ◌++◌, map, take, get_or}
use Rattle.rows.specs.Format.{most_links}
use Rattle.rows.specs.Limits.{atom_room}
use Rattle.rows.specs.Packed.{padded}
use Rattle.rows.specs.declared.Atom.{Atom}
use Rattle.rows.specs.declared.Context.{Context}
use Rattle.normalising.specs.NormalRows.{past_contexts}
use Rattle.rows.specs.declared.Sheet.{Sheet as Normal}
use Rattle.filling.specs.Parts.{part_normal, part_room, places, Counted}
use Rattle.filling.specs.Glued.{place_of, joined_all, all_pairs}
use Rattle.filling.specs.declared.whole.Whole.{Whole}

-- an atom of part p, with the places of its links
abbrev pub placed_atom : ℕ → Atom → Atom
placed_atom p a = record { name = a.name; count = a.count; links = map (place_of p) a.links }

-- an atom whose links are places
abbrev pub Linked : Atom → Type 0
Linked a = (a.count ≤ most_links) × ((k : ℕ) → get_or a.links k 0 < places)

-- the atoms of part p
abbrev pub part_atoms : ℕ → Normal → List Atom
part_atoms p n = map (placed_atom p) (take n.atom_count n.atoms)

-- of the fillings for contexts of which the first is part p
unfoldable pub context_atoms : List ℕ → ℕ → List Context → List Atom
context_atoms list p [] = []
context_atoms list p (c ∷ l) = part_atoms p (part_normal list c.number) ++ context_atoms list (p + 1) l

-- 'the figure's S rows, then for each B row in order its filling's S rows'
abbrev pub placed_atoms : List ℕ → Normal → List Atom
placed_atoms list figure = part_atoms 0 figure ++ context_atoms list 1 (take figure.context_count figure.contexts)

-- the labels of the first so many of these places
abbrev pub labels_at : List ℕ → ℕ → List ℕ → List ℕ
labels_at labels count l = map (λ x. get_or labels x 0) (take count l)

abbrev pub labelled_links : List ℕ → ℕ → List ℕ → List ℕ
labelled_links labels count links = padded most_links 0 (labels_at labels count links)

abbrev pub labelled_atom : List ℕ → Atom → Atom
labelled_atom labels a = record { name = a.name; count = a.count; links = labelled_links labels a.count a.links }

-- all atoms with their labels
abbrev pub all_atoms : List ℕ → List ℕ → Normal → List Atom
all_atoms list labels figure = map (labelled_atom labels) (placed_atoms list figure)

-- as many as there is room for
abbrev pub room_for : List Atom → List Atom
room_for l = take atom_room l

abbrev pub whole_atoms : Whole → List Atom
whole_atoms w = take w.count w.atoms

-- the atoms of a figure
abbrev pub own_whole : Normal → Whole
own_whole n = record { atoms = n.atoms; count = n.atom_count }

-- w with more atoms behind its own
pub record Grown (w r : Whole) (more : List Atom) : Type 0 where
  pub atoms : whole_atoms r ≡ room_for (whole_atoms w ++ more)
  pub few : r.count ≤ atom_room

-- n contexts whose numbers, counts and links are in their ranges
pub record ContextsRanged (contexts : List Context) (n : ℕ) : Type 0 where
  pub counted : Counted contexts n
  pub links : (i k : ℕ) → get_or (get_or contexts i past_contexts).links k 0 < part_room

-- w has the atoms of own and of the fillings for these contexts, and the ports of the contexts made labels one
pub record Puts (list : List ℕ) (own : Whole) (contexts : List Context) (before after : List ℕ) (w : Whole) : Type 0 where
  pub atoms : whole_atoms w ≡ room_for (whole_atoms own ++ context_atoms list 1 contexts)
  pub few : w.count ≤ atom_room
  pub labels : after ≡ joined_all before (all_pairs list 1 contexts)
