-- The atoms and marks of the figure agree with those of the sheet where `to` sends the links.
use Rattle.std.specs.Prelude.{ℕ, ◌-◌, ◌≤◌, ◌<◌, ◌≡◌, ◌≢◌, List, Bool, true, false, take, get_or, Option, MatchOption}
use Rattle.rows.specs.declared.Sheet as form
use Rattle.placing.specs.Placing.{number_at}
use Rattle.network.specs.NetIn.{net_in, atom_at}
use Rattle.completing.specs.Leaf.{NoneWith}
use Rattle.deciding.specs.Flags.{Among}
use Rattle.deciding.specs.Links.{PlacesAgree, Told}

-- the place of m among the first n, or n where it is not there
pub record PlaceOf (l : List ℕ) (n m r : ℕ) : Type 0 where
  pub within : r ≤ n
  pub found : r < n → get_or l r 0 ≡ m
  pub missing : r ≡ n → (i : ℕ) → i < n → get_or l i 0 ≢ m

-- r says that each of the first n of a list is among the first m of another
pub record AllAmong (l : List ℕ) (n : ℕ) (k : List ℕ) (m : ℕ) (r : Bool) : Type 0 where
  pub passed : r ≡ true → (i : ℕ) → i < n → Among k m (get_or l i 0)
  pub refused : r ≡ false → (i : ℕ) × (i < n) × ((j : ℕ) → j < m → get_or k j 0 ≢ get_or l i 0)

-- figure atom i and sheet atom t, both from 0
pub record AtomAgrees (sheet figure : form.Sheet) (to : List ℕ) (i t : ℕ) : Type 0 where
  pub name : (atom_at figure i).name ≡ (atom_at sheet t).name
  pub count : (atom_at figure i).count ≡ (atom_at sheet t).count
  pub places : PlacesAgree to (atom_at figure i).links (atom_at sheet t).links (atom_at figure i).count

-- the first n figure atoms
abbrev pub AtomsAgreeTo : form.Sheet → form.Sheet → List ℕ → List ℕ → ℕ → Type 0
AtomsAgreeTo sheet figure atoms to n = (i : ℕ) → i < n → AtomAgrees sheet figure to i (get_or atoms i 0 - 1)

abbrev pub AtomsAgree : form.Sheet → form.Sheet → List ℕ → List ℕ → Type 0
AtomsAgree sheet figure atoms to = AtomsAgreeTo sheet figure atoms to figure.atom_count

-- figure mark i is on the sheet, where `to` sends its link
pub record MarkAgrees (sheet figure : form.Sheet) (to : List ℕ) (i : ℕ) : Type 0 where
  pub at : ℕ
  pub on-sheet : at < sheet.mark_count
  pub mark : get_or sheet.marks at 0 ≡ get_or figure.marks i 0
  pub link : number_at to (get_or figure.marked i 0) ≡ get_or sheet.marked at 0

-- the first n marks
abbrev pub MarksAgreeTo : form.Sheet → form.Sheet → List ℕ → ℕ → Type 0
MarksAgreeTo sheet figure to n = (i : ℕ) → i < n → MarkAgrees sheet figure to i

abbrev pub MarksAgree : form.Sheet → form.Sheet → List ℕ → Type 0
MarksAgree sheet figure to = MarksAgreeTo sheet figure to figure.mark_count

-- sheet mark i is in the figure
abbrev pub MarkBack : form.Sheet → form.Sheet → ℕ → Type 0
MarkBack sheet figure i = (j : ℕ) × (j < figure.mark_count) × (get_or figure.marks j 0 ≡ get_or sheet.marks i 0)

abbrev pub MarksBack : form.Sheet → form.Sheet → Type 0
MarksBack sheet figure = (i : ℕ) → i < sheet.mark_count → MarkBack sheet figure i

-- r says that a condition holds; where it does not, no good placing has these atoms
pub record Judges (sheet figure : form.Sheet) (atoms : List ℕ) (holds : Type 0) (r : Bool) : Type 0 where
  pub passed : r ≡ true → holds
  pub refused : r ≡ false → NoneWith (net_in sheet) (net_in figure) (take figure.atom_count atoms)

abbrev pub AtomsPut : form.Sheet → form.Sheet → List ℕ → List ℕ → Bool → Type 0
AtomsPut sheet figure atoms to ok = Judges sheet figure atoms (Told sheet figure atoms to × AtomsAgree sheet figure atoms to) ok

abbrev pub MarksPut : form.Sheet → form.Sheet → List ℕ → List ℕ → Bool → Type 0
MarksPut sheet figure atoms to ok = Judges sheet figure atoms (Told sheet figure atoms to × AtomsAgree sheet figure atoms to × MarksAgree sheet figure to) ok

-- all of them
pub record Agrees (sheet figure : form.Sheet) (atoms to : List ℕ) : Type 0 where
  pub told : Told sheet figure atoms to
  pub atoms-agree : AtomsAgree sheet figure atoms to
  pub marks-agree : MarksAgree sheet figure to
  pub marks-back : MarksBack sheet figure

-- r is where the links go; where there is none, no good placing has these atoms
abbrev pub AllPut : form.Sheet → form.Sheet → List ℕ → Option (List ℕ) → Type 0
AllPut sheet figure atoms r = MatchOption r (NoneWith (net_in sheet) (net_in figure) (take figure.atom_count atoms)) (λ to. Agrees sheet figure atoms to)
