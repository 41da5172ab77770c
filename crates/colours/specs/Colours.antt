-- Colours: a number for each atom and each link of a net, made finer round by round. A good placing of a figure without contexts
-- keeps every one of them. Nothing is asked of the functions that mix numbers: where two unlike things get one number, less is told
-- apart.
use Rattle.std.specs.Prelude.{◌≡◌, ℕ, suc, ◌+◌, List, [], ◌∷◌, map, length}
use Rattle.std.proofs.Math.Decide.{ℕ_discrete}
use Rattle.hyperlmntal.specs.Link.{select}
use Rattle.reading.specs.Normal.{inserted}
use Rattle.placing.specs.Net.{Net, Range}
use Rattle.placing.specs.Placing.{Placing, cell_at, atom_target, link_target}
use Rattle.network.specs.Sums.{sum_to}

pub record Mixing : Type 0 where
  -- an atom's first colour: its name, the size of its piece, the pattern of its links
  pub atom_first : ℕ → ℕ → List ℕ → ℕ
  -- a link's first colour: its marks
  pub link_first : List ℕ → ℕ
  -- an atom's next colour: its colour, and those of its links place by place
  pub atom_next : ℕ → List ℕ → ℕ
  -- what an atom of this colour adds to the link at this place, counted from 0
  pub at_place : ℕ → ℕ → ℕ
  -- a link's next colour: its colour, and the sum of what is added
  pub link_next : ℕ → ℕ → ℕ

-- by the numbers of atoms and of links, from 1
pub record Colours : Type 0 where
  pub of_atom : ℕ → ℕ
  pub of_link : ℕ → ℕ

-- the place where x stands first
unfoldable pub first_at : ℕ → List ℕ → ℕ
first_at x [] = 0
first_at x (y ∷ l) = select (ℕ_discrete x y) 0 (suc (first_at x l))

-- for each place the first that has the same link
abbrev pub pattern : List ℕ → List ℕ
pattern l = map (λ x. first_at x l) l

-- the marks of link x, ascending
unfoldable pub marks_at : ℕ → List (ℕ × ℕ) → List ℕ
marks_at x [] = []
marks_at x (e ∷ l) = select (ℕ_discrete x e.0) (inserted e.1 (marks_at x l)) (marks_at x l)

-- the sum of f over the places, counted from k, at which x stands
unfoldable pub places_at : (ℕ → ℕ) → ℕ → ℕ → List ℕ → ℕ
places_at f x k [] = 0
places_at f x k (y ∷ l) = select (ℕ_discrete x y) (f k) 0 + places_at f x (suc k) l

module _ (M : Mixing) (N : Net) where
  abbrev pub first : (size : ℕ → ℕ) → Colours
  first size = record { of_atom = λ j. M.atom_first (cell_at N.atoms j).0 (size j) (pattern (cell_at N.atoms j).1); of_link = λ x. M.link_first (marks_at x N.marks) }

  -- over all places of atoms at link x
  abbrev pub around : Colours → ℕ → ℕ
  around c x = sum_to (λ j. places_at (M.at_place (c.of_atom j)) x 0 (cell_at N.atoms j).1) (length N.atoms)

  abbrev pub next : Colours → Colours
  next c = record { of_atom = λ j. M.atom_next (c.of_atom j) (map c.of_link (cell_at N.atoms j).1); of_link = λ x. M.link_next (c.of_link x) (around c x) }

-- the sum over the whole net
abbrev pub total : Net → Colours → ℕ
total N c = sum_to c.of_atom (length N.atoms) + sum_to c.of_link N.links

-- the placing keeps colours, c of the figure and d of the sheet
pub record KeepsColours (F : Net) (p : Placing) (c d : Colours) : Type 0 where
  pub atoms : (i : ℕ) → Range (length F.atoms) i → c.of_atom i ≡ d.of_atom (atom_target p i)
  pub links : (x : ℕ) → Range F.links x → c.of_link x ≡ d.of_link (link_target p x)

-- two colourings are one where the net has atoms and links
pub record Agree (N : Net) (c d : Colours) : Type 0 where
  pub atoms : (j : ℕ) → Range (length N.atoms) j → c.of_atom j ≡ d.of_atom j
  pub links : (x : ℕ) → Range N.links x → c.of_link x ≡ d.of_link x
