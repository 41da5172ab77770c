-- Words of contexts that are unions of classes at a sheet link.
use Rattle.std.specs.Prelude.{ℕ, ◌<◌, ◌≡◌, ◌⊎◌, List, ltb, get_or}
use Rattle.rows.specs.Pick.{pick}
use Rattle.candidates.specs.Words.{In}
use Rattle.stepping.specs.Standing.{context_digits}

-- a word with all digits of contexts
abbrev pub all_contexts : ℕ
all_contexts = 65535

-- how many words there are of the digits 0 to 4
abbrev pub word_count : ℕ
word_count = 32

-- figure link x, from 0, may go to y: it has a flag, or goes there
abbrev pub MayAt : List ℕ → List ℕ → ℕ → ℕ → Type 0
MayAt flags to y x = (get_or flags x 0 ≡ 1) ⊎ (get_or to x 0 ≡ y)

-- A word with that of a figure link, if it has a digit of it and the link may go to y.
pub record Joined (flag at y word kind r : ℕ) : Type 0 where
  pub kept : (t : ℕ) → In word t → In r t
  pub joined : (flag ≡ 1) ⊎ (at ≡ y) → (t t' : ℕ) → In kind t → In kind t' → In word t → In r t'

-- The same with the first n figure links one after the other.
pub record Spread (standing flags to : List ℕ) (n y word r : ℕ) : Type 0 where
  pub kept : (t : ℕ) → In word t → In r t
  pub joined : (x : ℕ) → x < n → MayAt flags to y x → (t t' : ℕ) → In (get_or standing x 0) t → In (get_or standing x 0) t' → In word t → In r t'

-- A union of classes at y with all contexts of a word.
pub record Closure (standing flags to : List ℕ) (count y word r : ℕ) : Type 0 where
  pub kept : (t : ℕ) → t < context_digits → In word t → In r t
  pub closed : (x : ℕ) → x < count → MayAt flags to y x → (t t' : ℕ) → t' < context_digits → In (get_or standing x 0) t → In (get_or standing x 0) t' → In r t → In r t'

-- that of a word, by the table
abbrev pub closure_in : List ℕ → ℕ → ℕ
closure_in table word = pick (ltb word word_count) (get_or table word 0) all_contexts
