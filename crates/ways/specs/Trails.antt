-- Ways as they are laid out in arrays, and what a loop keeps that follows them back from their ends and counts them.
use Rattle.std.specs.Prelude.{Option, Some, None, ◌≡◌, ℕ, suc, ◌+◌, ◌*◌, ◌/◌, ◌<◌, ◌≤◌, ◌≢◌, List, map, length, slice_index, slice_index_or}
use Rattle.hyperlmntal.specs.Link.{◌∈◌}
use Rattle.rows.specs.Format.{most_links}
use Rattle.rows.specs.Limits.{sheet_atom_limit, sheet_link_limit}
use Rattle.candidates.specs.Laid.{laid_at}
use Rattle.completing.specs.Ways.{afterward, links_of, atoms_of, last_link, Walk, Ways}

-- the room for ways that are laid out
abbrev pub trail_room : ℕ
trail_room = 512

-- a number from 0, counted from 1; 0 for none
abbrev pub from_one : Option ℕ → ℕ
from_one None = 0
from_one (Some n) = suc n

-- a number; 0 for none
abbrev pub or_zero : Option ℕ → ℕ
or_zero None = 0
or_zero (Some n) = n

-- atom j, from 1, may be passed
abbrev pub Passable : List ℕ → ℕ → ℕ → Type 0
Passable taken atoms j = (row : ℕ) × (j ≡ suc row) × (row < atoms) × (slice_index taken row ≢ 1)

-- row j, which may be passed, has a place on link y and one on link z; atoms and links are counted from 1
pub record LaidStep (laid taken : List ℕ) (atoms y j z : ℕ) : Type 0 where
  pub row : ℕ
  pub atom : j ≡ suc row
  pub atom-in : row < atoms
  pub may-pass : slice_index_or taken row 0 ≢ 1
  pub from : ℕ
  pub into : ℕ
  pub from_in : from < laid_at laid row 1
  pub into-in : into < laid_at laid row 1
  pub from-link : laid_at laid row (2 + from) ≡ y
  pub into-link : laid_at laid row (2 + into) ≡ z

-- link y, one of the first n and counted from 1, has a flag of half h
pub record Flagged (table : List ℕ) (h n y : ℕ) : Type 0 where
  pub place : ℕ
  pub link : y ≡ suc place
  pub place_in : place < n
  pub flag : slice_index_or table (h * sheet_link_limit + place) 0 ≡ 1

-- it has none
pub record Unflagged (table : List ℕ) (h n y : ℕ) : Type 0 where
  pub place : ℕ
  pub link : y ≡ suc place
  pub place_in : place < n
  pub no_flag : slice_index_or table (h * sheet_link_limit + place) 0 ≢ 1

-- v stands for number y, counted from 1
abbrev pub Has : ℕ → List ℕ → ℕ → Type 0
Has v l y = (z : ℕ) × (y ≡ suc z) × (slice_index l z ≡ v)

-- ways in arrays: from flags of half 1 to flags of half 2, over links without a flag of both, of which those with a 1 are
-- guarded, through rows of which those with a 2 are
abbrev pub WaysIn : List ℕ → List ℕ → ℕ → List ℕ → ℕ → List ℕ → ℕ → Type 0
WaysIn laid taken atoms guards links table = Ways (LaidStep laid taken atoms) (Flagged table 1 links) (Flagged table 2 links) (Unflagged table 3 links) (Has 1 guards) (Has 2 taken)

-- the numbers of the list for which P holds were not seen before, and are now; what was seen stays so
pub record Fresh (P was now : ℕ → Type 0) (l : List ℕ) : Type 0 where
  pub new : (y : ℕ) → P y → y ∈ l → ¬ was y
  pub seen : (y : ℕ) → P y → y ∈ l → now y
  pub kept : (y : ℕ) → was y → now y

-- all numbers of the lists for which P holds were seen
abbrev pub AllSeen : (P now : ℕ → Type 0) → List (List ℕ) → Type 0
AllSeen P now ls = (l : List ℕ) → l ∈ ls → (y : ℕ) → P y → y ∈ l → now y

-- Links and atoms are seen by themselves.
module _ (Step : ℕ → ℕ → ℕ → Type 0) (Starts Ends Free GuardedLink GuardedAtom : ℕ → Type 0) where
  -- from y by these steps to an end; the guarded links after y and the guarded atoms were not seen before, and are now
  pub record Trail (was was-atom now now-atom : ℕ → Type 0) (y : ℕ) (steps : List (ℕ × ℕ)) : Type 0 where
    pub walk : Walk Step y steps
    pub end : Ends (last_link y steps)
    pub free : (z : ℕ) → z ∈ afterward steps → Free z
    pub links : Fresh GuardedLink was now (afterward steps)
    pub atoms : Fresh GuardedAtom was-atom now-atom (atoms_of (y, steps))

  -- n ways, whose guarded links and atoms were seen
  pub record Found (now now-atom : ℕ → Type 0) (n : ℕ) : Type 0 where
    pub ways : Ways Step Starts Ends Free GuardedLink GuardedAtom n
    pub links : AllSeen GuardedLink now (map links_of ways.routes)
    pub atoms : AllSeen GuardedAtom now-atom (map atoms_of ways.routes)

-- `seen` has 1 for the guarded links that were seen, `passed` 2 for the guarded atoms.
module _ (laid taken : List ℕ) (atoms : ℕ) (guards : List ℕ) (links : ℕ) (table : List ℕ) where
  abbrev pub FoundIn : List ℕ → List ℕ → ℕ → Type 0
  FoundIn seen passed = Found (LaidStep laid taken atoms) (Flagged table 1 links) (Flagged table 2 links) (Unflagged table 3 links) (Has 1 guards) (Has 2 taken) (Has 1 seen) (Has 2 passed)

  abbrev pub TrailIn : List ℕ → List ℕ → List ℕ → List ℕ → ℕ → Type 0
  TrailIn was passed₀ now passed y = (steps : List (ℕ × ℕ))
      × Trail (LaidStep laid taken atoms) (Flagged table 1 links) (Flagged table 2 links) (Unflagged table 3 links) (Has 1 guards) (Has 2 taken) (Has 1 was) (Has 2 passed₀) (Has 1 now) (Has 2 passed) y steps

  -- where r is not 0 there is one way more
  pub record Follows (was passed₀ now passed : List ℕ) (r : ℕ) : Type 0 where
    pub room : length now ≡ sheet_link_limit
    pub atom-room : length passed ≡ sheet_atom_limit
    pub few : r ≤ trail_room
    pub more : r ≢ 0 → (n : ℕ) → FoundIn was passed₀ n → FoundIn now passed (suc n)

-- The row, from 0, of the atom of a step with this mark.
abbrev pub row_of : ℕ → ℕ
row_of mark = mark / most_links / most_links

-- A step leads from r to z, where r is not 0; if its atom is guarded, it was not passed before, and is now.
pub record PassesBack (laid taken : List ℕ) (atoms : ℕ) (was now : List ℕ) (z r : ℕ) : Type 0 where
  pub room : length now ≡ sheet_atom_limit
  pub few : r ≤ sheet_link_limit
  pub kept : (y : ℕ) → Has 2 was y → Has 2 now y
  pub step : r ≢ 0 → (j : ℕ) × LaidStep laid taken atoms r j (suc z) × (Has 2 taken j → ¬ Has 2 was j) × (Has 2 taken j → Has 2 now j)
