-- What a placing gives to a blank of the pattern, as the arrays of one filling.
use Rattle.std.specs.Prelude.{ℕ, ◌<◌, ◌≡◌, List, map, length, take}
use Rattle.rows.specs.Format.{most_links}
use Rattle.rows.specs.Packed.{padded}
use Rattle.rows.specs.declared.Atom.{Atom}
use Rattle.rows.specs.declared.Context.{Context}
use Rattle.rows.specs.declared.Sheet as form
use Rattle.placing.specs.Net.{NetCell}
use Rattle.network.specs.NetIn.{row_at, context_at}
use Rattle.listing.specs.Writing.{given_cells, port_links, appearing, number_among}
use Rattle.filling.specs.Parts.{part_normal}
use Rattle.filling.specs.Whole.{placed_atom}

-- an atom of a filling, its links numbered by f
abbrev pub numbered_cell : (ℕ → ℕ) → NetCell → Atom
numbered_cell f c = record { name = c.0; count = length c.1; links = padded most_links 0 (map f c.1) }

-- the same as an atom of part p
abbrev pub placed_cell : ℕ → (ℕ → ℕ) → NetCell → Atom
placed_cell p f c = placed_atom p (numbered_cell f c)

-- the numbers of the links in the filling of blank c
abbrev pub number_for : form.Sheet → List ℕ → List ℕ → NetCell → ℕ → ℕ
number_for sheet links_to given c = number_among (appearing (given_cells sheet given c.0) (port_links sheet links_to c.1))

-- the filling of blank c in a list is what is given to it: its atoms, and where its ports stand
pub record GivenPart (sheet : form.Sheet) (links_to given list : List ℕ) (c : NetCell) : Type 0 where
  pub atoms : take (part_normal list c.0).atom_count (part_normal list c.0).atoms ≡ map (numbered_cell (number_for sheet links_to given c)) (given_cells sheet given c.0)
  pub marked : take (length c.1) (part_normal list c.0).marked ≡ map (number_for sheet links_to given c) (port_links sheet links_to c.1)

-- each of the first n contexts has a blank of its number, and every blank of its number has its port count
pub record Covered (pattern : form.Sheet) (contexts : List Context) (n : ℕ) : Type 0 where
  pub blank : (i : ℕ) → i < n → (j : ℕ) × (j < pattern.context_count) × ((context_at pattern j).number ≡ (row_at contexts i).number)
  pub ports : (i j : ℕ) → i < n → j < pattern.context_count → (context_at pattern j).number ≡ (row_at contexts i).number → (context_at pattern j).count ≡ (row_at contexts i).count
