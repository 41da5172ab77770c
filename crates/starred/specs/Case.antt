-- A worked line of document 01: its texts, row by row as they stand in a file, and what it says of the definitions that the contracts
-- of compare, normalise, place, fill and claim use.
use Rattle.std.specs.Prelude.{ℕ, ◌-◌, ◌≤◌, ◌≡◌, Bool, true, List, [], ◌∷◌, ◌++◌, length, take, drop, replicate}
use Prim.Native.Char.{code}
use Prim.Native.String.{String}
use Prim.Native.String as text
use Rattle.rows.specs.Format.{row_width, newline}
use Rattle.normalising.specs.NormalText.{slip_length, normal_text_of, normalised_answer, normalised_slip}
use Rattle.sheet.specs.declared.kind.Kind.TheVariants.{Plain, Pattern}
use Rattle.comparing.specs.Compare.{compare_answer}
use Rattle.answers.specs.AnswerRow.{answer_row}
use Rattle.answers.specs.Values.{normalised_values, done_values, compared_values, claimed_values}
use Rattle.answers.specs.declared.TaskAnswer.{TaskAnswer}
use Rattle.filling.specs.Fill.{fill_answer, fill_slip}
use Rattle.finding.specs.Place.{place_answer, place_slip}
use Rattle.claiming.specs.Claim.{claim_answer}

-- a filling: its H row, and its own rows
pub record Filling : Type 0 where
  pub head : String
  pub rows : List String

-- a sheet, a pattern, the fillings with which the pattern is the sheet, and the pattern filled with them
pub record Placed : Type 0 where
  pub sheet : List String
  pub pattern : List String
  pub fillings : List Filling
  pub filled : List String

pub data Case : Type 0 where
  -- two sheets, and whether they are the same
  compares : List String → List String → Bool → Case
  -- a sheet, and its normal text
  normalises : List String → List String → Case
  places : Placed → Case
  -- a sheet, and a pattern that has no placing in it
  nowhere : List String → List String → Case
  -- a sheet, a pattern, and the whole output of place
  prints : List String → List String → List String → Case

-- the bytes of a quoted text
abbrev pub codes : String → List ℕ
codes text.[] = []
codes (text.◌∷◌ c s) = code c ∷ codes s

-- 'each row padded to 33 columns', a row's width but for its newline
abbrev pub line : String → List ℕ
line s = codes s ++ replicate (row_width - 1 - length (codes s)) 32 ++ (newline ∷ [])

-- the bytes of a text
abbrev pub bytes_of : List String → List ℕ
bytes_of [] = []
bytes_of (r ∷ l) = line r ++ bytes_of l

-- the bytes of a list of fillings
abbrev pub list_bytes : List Filling → List ℕ
list_bytes [] = []
list_bytes (f ∷ l) = bytes_of (f.head ∷ f.rows) ++ list_bytes l

-- With every slip of the full length a task answers this number, no input and no row, and writes this text; the rest of the slip stays.
pub record Ends (answer : ℕ → TaskAnswer) (after : List ℕ → List ℕ) (number : ℕ) (text : List ℕ) : Type 0 where
  pub answered : (slip : List ℕ) → slip_length ≤ length slip → answer (length slip) ≡ record { number = number; input = 0; row = 0; bytes = length text }
  pub slip-after : (slip : List ℕ) → slip_length ≤ length slip → after slip ≡ text ++ drop (length text) slip

abbrev pub NormaliseEnds : List ℕ → ℕ → List ℕ → Type 0
NormaliseEnds sheet = Ends (λ n. normalised_values (normalised_answer Plain sheet n)) (normalised_slip Plain sheet)

abbrev pub PlaceEnds : List ℕ → List ℕ → ℕ → List ℕ → Type 0
PlaceEnds sheet pattern = Ends (λ n. done_values (place_answer sheet pattern n)) (place_slip sheet pattern)

abbrev pub FillEnds : List ℕ → List ℕ → ℕ → List ℕ → Type 0
FillEnds figure list = Ends (λ n. done_values (fill_answer figure list n)) (fill_slip figure list)

-- 'an `A` row (number, input, row)', then the bytes that were written
abbrev pub printed : TaskAnswer → List ℕ → List ℕ
printed a slip = answer_row a ++ take a.bytes slip

abbrev pub Prints : List ℕ → List ℕ → List ℕ → Type 0
Prints sheet pattern page = (slip : List ℕ) → slip_length ≤ length slip → printed (done_values (place_answer sheet pattern (length slip))) (place_slip sheet pattern slip) ≡ page

-- in either order
pub record Compares (first second : List ℕ) (same : Bool) : Type 0 where
  pub onward : compared_values (compare_answer first second) ≡ record { number = 0; input = 0; row = 0; bytes = 0; yes = same }
  pub back : compared_values (compare_answer second first) ≡ record { number = 0; input = 0; row = 0; bytes = 0; yes = same }

-- each element of a list is as P says
infixr 60 ◌&◌
pub data Every {A : Type 0} (P : A → Type 0) : List A → Type 0 where
  all : Every P []
  ◌&◌ : {x : A} {l : List A} → P x → Every P l → Every P (x ∷ l)

-- a filling, 'given as normal text of its own'
abbrev pub NormalFilling : Filling → Type 0
NormalFilling f = normal_text_of Plain (bytes_of f.rows) ≡ bytes_of f.rows

-- Sheet, pattern and fillings are normal texts. Place writes the list; fill of the pattern from that list writes the filled pattern;
-- and the claim of sheet, pattern and list gets yes.
pub record Places (sheet pattern : List ℕ) (fillings : List Filling) (filled : List ℕ) : Type 0 where
  pub normal-sheet : normal_text_of Plain sheet ≡ sheet
  pub normal-pattern : normal_text_of Pattern pattern ≡ pattern
  pub normal-fillings : Every NormalFilling fillings
  pub places : PlaceEnds sheet pattern 0 (list_bytes fillings)
  pub fills : FillEnds pattern (list_bytes fillings) 0 filled
  pub claims : claimed_values (claim_answer sheet pattern (list_bytes fillings)) ≡ record { number = 0; input = 0; row = 0; bytes = 0; yes = true }

-- What a line says.
abbrev pub Holds : Case → Type 0
Holds (compares first second same) = Compares (bytes_of first) (bytes_of second) same
Holds (normalises sheet normal) = NormaliseEnds (bytes_of sheet) 0 (bytes_of normal)
Holds (places p) = Places (bytes_of p.sheet) (bytes_of p.pattern) p.fillings (bytes_of p.filled)
Holds (nowhere sheet pattern) = PlaceEnds (bytes_of sheet) (bytes_of pattern) 11 []
Holds (prints sheet pattern page) = Prints (bytes_of sheet) (bytes_of pattern) (bytes_of page)
