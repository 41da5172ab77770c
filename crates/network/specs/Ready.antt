-- The arrays that a search works on.
use Rattle.std.specs.Prelude.{ℕ, suc, ◌<◌, ◌≡◌, ◌↔◌, List, [], length, take, get_or}
use Rattle.rows.specs.Limits.{sheet_atom_limit, sheet_link_limit}
use Rattle.rows.specs.declared.Sheet as form
use Rattle.placing.specs.Net.{Range, Normal}
use Rattle.placing.specs.Placing.{Placing, number_at, Taken}
use Rattle.network.specs.NetIn.{net_in, Fit}

-- a sheet and a figure in normal form, within the limits of a sheet
pub record Ready (sheet figure : form.Sheet) : Type 0 where
  pub sheet-fit : Fit sheet
  pub figure-fit : Fit figure
  pub sheet-normal : Normal (net_in sheet)
  pub figure-normal : Normal (net_in figure)

-- where the first n figure atoms go: numbers of sheet atoms
pub record AtomsIn (sheet : form.Sheet) (n : ℕ) (l : List ℕ) : Type 0 where
  pub room : length l ≡ sheet_atom_limit
  pub within : (i : ℕ) → i < n → Range sheet.atom_count (get_or l i 0)

-- where the figure links go: numbers of sheet links, or one more for none
pub record LinksIn (sheet figure : form.Sheet) (l : List ℕ) : Type 0 where
  pub room : length l ≡ sheet_link_limit
  pub within : (x : ℕ) → x < figure.class_count → Range (suc sheet.class_count) (get_or l x 0)

-- atoms and links placed, no sheet atom given to a context
abbrev pub state_in : form.Sheet → List ℕ → List ℕ → Placing
state_in figure atoms links = record { atoms_to = take figure.atom_count atoms; links_to = take figure.class_count links; given = [] }

-- a 1 stands for number i
abbrev pub Flag : List ℕ → ℕ → Type 0
Flag l i = number_at l i ≡ 1

-- 1 for the sheet atoms that figure atoms go to
pub record TakenIn (sheet figure : form.Sheet) (q : Placing) (l : List ℕ) : Type 0 where
  pub room : length l ≡ sheet_atom_limit
  pub flags : (j : ℕ) → Range sheet.atom_count j → Flag l j ↔ Taken (net_in sheet) (net_in figure) q j
