-- Flags for numbers from 1: which atoms are taken, which links are open.
use Rattle.std.specs.Prelude.{ℕ, suc, ◌<◌, ◌≡◌, ◌≢◌, List, length, take, get_or, Option, MatchOption}
use Rattle.rows.specs.Limits.{sheet_atom_limit, sheet_link_limit}
use Rattle.placing.specs.Fillings.{places_of}
use Rattle.network.specs.Ready.{Flag}
use Rattle.deciding.specs.declared.opening.Opened.{Opened}

-- the numbers up to n that have a flag, in ascending order
abbrev pub flagged : ℕ → List ℕ → List ℕ
flagged n l = places_of 1 1 (take n l)

-- j stands among the first n of a list
abbrev pub Among : List ℕ → ℕ → ℕ → Type 0
Among l n j = (i : ℕ) × (i < n) × (get_or l i 0 ≡ j)

-- two of the first n are the same
pub record Twice (l : List ℕ) (n : ℕ) : Type 0 where
  pub one : ℕ
  pub two : ℕ
  pub one_in : one < n
  pub two_in : two < n
  pub apart : one ≢ two
  pub same : get_or l one 0 ≡ get_or l two 0

-- the first n are different, and have the flags
pub record Different (l : List ℕ) (n : ℕ) (flags : List ℕ) : Type 0 where
  pub room : length flags ≡ sheet_atom_limit
  pub apart : (i j : ℕ) → i < n → j < n → get_or l i 0 ≡ get_or l j 0 → i ≡ j
  pub flag-of : (i : ℕ) → i < n → Flag flags (get_or l i 0)
  pub of-flag : (j : ℕ) → get_or flags j 0 ≡ 1 → Among l n (suc j)

-- r are the flags of the first n, or none where two are the same
abbrev pub TakenBy : List ℕ → ℕ → Option (List ℕ) → Type 0
TakenBy l n r = MatchOption r (Twice l n) (λ flags. Different l n flags)

-- Where the first n of a list are 0 there is a flag, and `none` instead.
pub record Opens (l : List ℕ) (none n : ℕ) (to flags : List ℕ) : Type 0 where
  pub to_room : length to ≡ sheet_link_limit
  pub flags-room : length flags ≡ sheet_link_limit
  pub kept : (x : ℕ) → x < n → get_or l x 0 ≢ 0 → (get_or to x 0 ≡ get_or l x 0) × (get_or flags x 0 ≡ 0)
  pub opened : (x : ℕ) → x < n → get_or l x 0 ≡ 0 → (get_or to x 0 ≡ none) × (get_or flags x 0 ≡ 1)

abbrev pub OpensIn : List ℕ → ℕ → ℕ → Opened → Type 0
OpensIn l none n r = Opens l none n r.to r.flags
