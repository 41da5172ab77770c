-- Sets as words: t is in the set where digit t of the word, counted from 0, is 1.
use Rattle.std.specs.Prelude.{ℕ, ◌+◌, ◌^◌, ◌/◌, ◌%◌, ◌<◌, ◌≡◌, Bool, List, [], ◌∷◌, eqb, get_or, set}
use Rattle.std.specs.Int.Bits.{bit_and, bit_or, bit_xor}
use Rattle.std.specs.Int.Count.{count_trailing_zeros}

abbrev pub word_digits : ℕ
word_digits = 64

unfoldable pub digit : ℕ → ℕ → ℕ
digit s t = s / 2 ^ t % 2

abbrev pub In : ℕ → ℕ → Type 0
In s t = digit s t ≡ 1

-- the set of t alone
unfoldable pub alone : ℕ → ℕ
alone t = 2 ^ t

-- what is in a and not in b
unfoldable pub fewer : ℕ → ℕ → ℕ
fewer a b = bit_xor a (bit_and a b)

-- the least number of a set that has one
unfoldable pub first_in : ℕ → ℕ
first_in s = count_trailing_zeros word_digits s

-- numbers below twice as many digits, in two words, of which the first has those below word_digits
abbrev pub pair_digits : ℕ
pair_digits = word_digits + word_digits

abbrev pub InPair : List ℕ → ℕ → Type 0
InPair s y = In (get_or s (y / word_digits) 0) (y % word_digits)

-- what is in a is in b
abbrev pub PartOf : List ℕ → List ℕ → Type 0
PartOf a b = (y : ℕ) → y < pair_digits → InPair a y → InPair b y

unfoldable pub empty_pair : List ℕ → Bool
empty_pair a = eqb (bit_or (get_or a 0 0) (get_or a 1 0)) 0

unfoldable pub common_pair : List ℕ → List ℕ → List ℕ
common_pair a b = bit_and (get_or a 0 0) (get_or b 0 0) ∷ bit_and (get_or a 1 0) (get_or b 1 0) ∷ []

unfoldable pub fewer_pair : List ℕ → List ℕ → List ℕ
fewer_pair a b = fewer (get_or a 0 0) (get_or b 0 0) ∷ fewer (get_or a 1 0) (get_or b 1 0) ∷ []

-- a set with y
unfoldable pub with_link : List ℕ → ℕ → List ℕ
with_link a y = set (get_or a 0 0 ∷ get_or a 1 0 ∷ []) (y / word_digits) (bit_or (get_or a (y / word_digits) 0) (alone (y % word_digits)))

-- a set without y
unfoldable pub without_link : List ℕ → ℕ → List ℕ
without_link a y = set (get_or a 0 0 ∷ get_or a 1 0 ∷ []) (y / word_digits) (fewer (get_or a (y / word_digits) 0) (alone (y % word_digits)))

-- smaller for a set with less in it
abbrev pub pair_size : List ℕ → ℕ
pair_size a = get_or a 0 0 + get_or a 1 0
