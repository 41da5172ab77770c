-- Where placed atoms and marks put the figure links; 0 where nothing says it.
use Rattle.std.specs.Prelude.{ℕ, suc, ◌≤◌, ◌<◌, ◌≡◌, ◌≢◌, ◌⊎◌, List, Bool, true, false, length, take, get_or, set}
use Rattle.rows.specs.Format.{most_links}
use Rattle.rows.specs.Limits.{sheet_link_limit}
use Rattle.rows.specs.declared.Sheet as form
use Rattle.placing.specs.Net.{Net, Range}
use Rattle.placing.specs.Placing.{Placing, number_at, link_target, Good}
use Rattle.network.specs.NetIn.{net_in}
use Rattle.completing.specs.Completion.{Open}

-- link x, from 0, is put at y, where nothing else stood
pub record Enters (to : List ℕ) (x y : ℕ) (r : List ℕ) : Type 0 where
  pub at : (get_or to x 0 ≡ 0) ⊎ (get_or to x 0 ≡ y)
  pub is : r ≡ set to x y

pub record Entered (to : List ℕ) (x y : ℕ) (r : List ℕ) (ok : Bool) : Type 0 where
  pub done : ok ≡ true → Enters to x y r
  pub clash : ok ≡ false → (get_or to x 0 ≢ 0) × (get_or to x 0 ≢ y)

-- the first `count` are numbers of links
pub record Places (count : ℕ) (a : List ℕ) : Type 0 where
  pub few : count ≤ most_links
  pub numbered : (k : ℕ) → k < count → Range sheet_link_limit (get_or a k 0)

-- y stands across from x + 1
abbrev pub AcrossFrom : List ℕ → List ℕ → ℕ → ℕ → ℕ → Type 0
AcrossFrom a b count x y = (k : ℕ) × (k < count) × (get_or a k 0 ≡ suc x) × (get_or b k 0 ≡ y)

-- where `to` sends the first links of a are those of b
abbrev pub PlacesAgree : List ℕ → List ℕ → List ℕ → ℕ → Type 0
PlacesAgree to a b count = (k : ℕ) → k < count → number_at to (get_or a k 0) ≡ get_or b k 0

-- every entry is as it was, or from a place; the places agree
pub record PlacesIn (to a b : List ℕ) (count : ℕ) (r : List ℕ) : Type 0 where
  pub room : length r ≡ sheet_link_limit
  pub kept : (x : ℕ) → get_or to x 0 ≢ 0 → get_or r x 0 ≡ get_or to x 0
  pub each : (x : ℕ) → (get_or r x 0 ≡ get_or to x 0) ⊎ AcrossFrom a b count x (get_or r x 0)
  pub agree : PlacesAgree r a b count

-- a link that would go to two
pub record Clash (to a b : List ℕ) (count : ℕ) : Type 0 where
  pub link : ℕ
  pub first : ℕ
  pub second : ℕ
  pub different : first ≢ second
  pub some : first ≢ 0
  pub first-from : (first ≡ get_or to link 0) ⊎ AcrossFrom a b count link first
  pub second_from : AcrossFrom a b count link second

pub record PlacesPut (to a b : List ℕ) (count : ℕ) (r : List ℕ) (ok : Bool) : Type 0 where
  pub done : ok ≡ true → PlacesIn to a b count r
  pub clash : ok ≡ false → Clash to a b count

-- figure link x is not open, and goes to y in every good placing with the atoms l
pub record Tells (S F : Net) (l : List ℕ) (x y : ℕ) : Type 0 where
  pub closed : ¬ Open F x
  pub said : (p : Placing) → Good S F p → p.atoms_to ≡ l → link_target p x ≡ y

-- what stands in `to` is told by the atoms and the marks
pub record Told (sheet figure : form.Sheet) (atoms to : List ℕ) : Type 0 where
  pub room : length to ≡ sheet_link_limit
  pub told : (x : ℕ) → get_or to x 0 ≢ 0 → Tells (net_in sheet) (net_in figure) (take figure.atom_count atoms) (suc x) (get_or to x 0)
