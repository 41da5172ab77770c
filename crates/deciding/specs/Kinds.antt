-- A number for each figure link, such that links with the same number are on the same contexts.
use Rattle.std.specs.Prelude.{ℕ, zero, suc, ◌+◌, ◌≤◌, ◌<◌, ◌≡◌, List, length, get_or}
use Rattle.rows.specs.Limits.{sheet_link_limit}
use Rattle.rows.specs.declared.Sheet as form
use Rattle.network.specs.NetIn.{net_in}
use Rattle.candidates.specs.Words.{pair_digits, InPair}
use Rattle.candidates.specs.PortSets.{PortIn}
use Rattle.candidates.specs.declared.ports.PortSet.{PortSet}
use Rattle.completing.specs.Completion.{SameContexts}

-- 1 for each link of a set, else 0
pub record FlagsOf (set r : List ℕ) : Type 0 where
  pub room : length r ≡ sheet_link_limit
  pub small : (x : ℕ) → get_or r x 0 ≤ 1
  pub flag-of : (x : ℕ) → x < pair_digits → InPair set x → get_or r x 0 ≡ 1
  pub of-flag : (x : ℕ) → get_or r x 0 ≡ 1 → InPair set x

abbrev pub doubled_by : List ℕ → List ℕ → ℕ → ℕ
doubled_by l flags x = get_or l x 0 + get_or l x 0 + get_or flags x 0

pub record Doubled (l flags r : List ℕ) : Type 0 where
  pub room : length r ≡ sheet_link_limit
  pub each : (x : ℕ) → x < sheet_link_limit → get_or r x 0 ≡ doubled_by l flags x

-- two to the power of c
abbrev pub two_to : ℕ → ℕ
two_to zero = 1
two_to (suc c) = two_to c + two_to c

-- the numbers by the first c contexts
pub record KindsTo (sets : List PortSet) (c : ℕ) (l : List ℕ) : Type 0 where
  pub room : length l ≡ sheet_link_limit
  pub small : (x : ℕ) → x < sheet_link_limit → get_or l x 0 < two_to c
  pub same : (x z i : ℕ) → x < sheet_link_limit → z < sheet_link_limit → get_or l x 0 ≡ get_or l z 0 → i < c
      → PortIn sets i x → PortIn sets i z

pub record KindsIn (figure : form.Sheet) (l : List ℕ) : Type 0 where
  pub room : length l ≡ sheet_link_limit
  pub same : (x z : ℕ) → x < sheet_link_limit → z < sheet_link_limit → get_or l x 0 ≡ get_or l z 0 → SameContexts (net_in figure) (suc x) (suc z)
