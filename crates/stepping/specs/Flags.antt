-- What a 1 in a flat table stands for.
use Rattle.std.specs.Prelude.{ℕ, ◌+◌, ◌*◌, ◌-◌, ◌<◌, ◌≡◌, ◌≢◌, List, get_or}
use Rattle.rows.specs.Limits.{sheet_link_limit}
use Rattle.placing.specs.Net.{Range}
use Rattle.candidates.specs.Words.{pair_digits, InPair}
use Rattle.candidates.specs.PortSets.{set_at}
use Rattle.candidates.specs.declared.ports.PortSet.{PortSet}

-- the first `count` of a list are numbers from 1 to n
abbrev pub Within : ℕ → ℕ → List ℕ → Type 0
Within n count l = (k : ℕ) → k < count → Range n (get_or l k 0)

-- the links of a set are numbers of links, and where each goes is at most none
abbrev pub Ported : List ℕ → ℕ → List ℕ → Type 0
Ported to none set = (x : ℕ) → x < pair_digits → InPair set x → (x < sheet_link_limit) × Range none (get_or to x 0)

-- figure link x goes to sheet link y, both from 0, and not to none
abbrev pub SentTo : List ℕ → ℕ → ℕ → ℕ → Type 0
SentTo to none x y = (get_or to x 0 ≡ y + 1) × (get_or to x 0 ≢ none)

-- the place of where link x goes, for context c
abbrev pub IsAtPort : List ℕ → ℕ → ℕ → ℕ → ℕ → Type 0
IsAtPort to none c x p = (get_or to x 0 ≢ none) × (p ≡ c * sheet_link_limit + (get_or to x 0 - 1))

-- one of the links of a set goes there
abbrev pub PortOfSet : List ℕ → ℕ → List ℕ → ℕ → ℕ → Type 0
PortOfSet to none set c p = (x : ℕ) × (x < pair_digits) × InPair set x × IsAtPort to none c x p

-- row d has the number of row c, and one of its links goes there
abbrev pub IsPortOf : List PortSet → List ℕ → ℕ → ℕ → ℕ → ℕ → Type 0
IsPortOf sets to none c d p = ((set_at sets d).number ≡ (set_at sets c).number) × PortOfSet to none (set_at sets d).links c p

abbrev pub PortOfNumber : List PortSet → ℕ → List ℕ → ℕ → ℕ → ℕ → Type 0
PortOfNumber sets rows to none c p = (d : ℕ) × (d < rows) × IsPortOf sets to none c d p

-- context c has the number of this row, and one of the row's links goes there
abbrev pub PortFrom : List ℕ → PortSet → List ℕ → ℕ → ℕ → ℕ → Type 0
PortFrom numbers row to none c p = (get_or numbers c 0 ≡ row.number) × PortOfSet to none row.links c p

abbrev pub PortOfRow : List ℕ → ℕ → PortSet → List ℕ → ℕ → ℕ → Type 0
PortOfRow numbers count row to none p = (c : ℕ) × (c < count) × PortFrom numbers row to none c p
