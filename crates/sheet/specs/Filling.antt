-- Document 01, 'Rows': the filling of one blank as a part of a list of fillings.
use Rattle.std.specs.Prelude.{ℕ, zero, suc, ◌≡◌, List, [], ◌++◌, Bool, true, false, eqb, ltb, length, take, drop, get_or}
use Rattle.rows.specs.Pick.{pick, and}
use Rattle.rows.specs.Format.{row_width}
use Rattle.rows.specs.Limits.{context_room}
use Rattle.rows.specs.Row.{row_of}
use Rattle.rows.specs.Packed.{padded, no_context}
use Rattle.rows.specs.declared.Context.{Context}
use Rattle.sheet.specs.Reading.{outcome_of, no_ports}
use Rattle.sheet.specs.declared.answer.Answer.{Answer}
use Rattle.sheet.specs.declared.answer.Answer.TheVariants.{Passed, Refused}
use Rattle.sheet.specs.declared.kind.Kind.TheVariants.{Fillings}

-- the letter H
abbrev pub head_byte : ℕ
head_byte = 72

-- the text's first row is an H row
abbrev pub head_first : List ℕ → Bool
head_first text = eqb (get_or text 0 0) head_byte

-- the text from the H row with this blank number on, empty where there is none; at most as many rows as the first number
unfoldable pub from_head : ℕ → ℕ → List ℕ → List ℕ
from_head zero number text = []
from_head (suc n) number text =
    pick (ltb (length text) row_width) []
    (pick (and (head_first text) (eqb (get_or (row_of (take row_width text)).nums 0 0) number)) text (from_head n number (drop row_width text)))

-- the rows before the next H row
unfoldable pub before_head : ℕ → List ℕ → List ℕ
before_head zero text = []
before_head (suc n) text = pick (ltb (length text) row_width) [] (pick (head_first text) [] (take row_width text ++ before_head n (drop row_width text)))

abbrev pub is_passed : Answer → Bool
is_passed Passed = true
is_passed (Refused why row) = false

-- no row of the list is refused
abbrev pub Passes : List ℕ → Type 0
Passes list = is_passed (outcome_of Fillings no_ports list).answer ≡ true

-- a list that passes, and its n H rows in an array, as its reader hands them back
pub record HeadsRead (list : List ℕ) (heads : List Context) (n : ℕ) : Type 0 where
  pub passes : Passes list
  pub contexts : heads ≡ padded context_room no_context (outcome_of Fillings no_ports list).held.contexts
  pub count : n ≡ length (outcome_of Fillings no_ports list).held.contexts

-- an H row and the rows up to the next one
abbrev pub first_filling : ℕ → List ℕ → List ℕ
first_filling n text = take row_width text ++ before_head n (drop row_width text)

-- the filling of a blank, its H row first; empty where a row of the text is refused or the blank has no filling there
unfoldable pub filling_of : List ℕ → ℕ → List ℕ
filling_of list number =
    pick (is_passed (outcome_of Fillings no_ports list).answer) (first_filling (length list) (from_head (length list) number list)) []
