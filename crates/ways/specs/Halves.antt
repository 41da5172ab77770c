-- The figure links by the halves of the contexts on which they stand. A half is a word: the contexts with a digit there, and
-- the others.
use Rattle.std.specs.Prelude.{◌≡◌, ℕ, suc, ◌+◌, ◌-◌, ◌*◌, ◌<◌, Bool, true, false, ◌≢◌, ◌↔◌, List, length, ◌==◌, bit_and, slice_index}
use Rattle.hyperlmntal.specs.Link.{◌∈◌}
use Rattle.rows.specs.Limits.{sheet_link_limit}
use Rattle.candidates.specs.Words.{digit, fewer}
use Rattle.stepping.specs.Standing.{digit_of}

-- context k is on the first half
abbrev pub on_first : ℕ → ℕ → Bool
on_first side k = digit side (digit_of k) == 1

-- by whether there is nothing on the first half, and nothing on the second
abbrev pub half_by : Bool → Bool → ℕ
half_by true true = 0
half_by false true = 1
half_by true false = 2
half_by false false = 3

-- 1 and 2 for the halves, 3 for both, 0 for none
unfoldable pub half_of : ℕ → ℕ → ℕ
half_of word side = half_by (bit_and word side == 0) (fewer word side == 0)

-- figure link x goes to a sheet link, and p is the place of its half and of that link
abbrev pub SortedTo : List ℕ → List ℕ → ℕ → ℕ → ℕ → ℕ → Type 0
SortedTo words to none side x p = (slice_index to x ≢ none) × (p ≡ half_of (slice_index words x) side * sheet_link_limit + (slice_index to x - 1))

-- 1 where one of the first `count` figure links goes
abbrev pub Sorts : List ℕ → List ℕ → ℕ → ℕ → ℕ → List ℕ → Type 0
Sorts words to none side count table = (p : ℕ) → (slice_index table p ≡ 1) ↔ ((x : ℕ) × (x < count) × SortedTo words to none side x p)

-- n numbers, among which are those of the first `count` figure links that have a flag and stand on both halves
pub record Crossing (words flags : List ℕ) (side count n : ℕ) : Type 0 where
  pub across : List ℕ
  pub number : length across ≡ n
  pub all : (x : ℕ) → x < count → slice_index flags x ≡ 1 → half_of (slice_index words x) side ≡ 3 → suc x ∈ across
