-- Words in which the context of each atom lies that no figure atom takes. The contexts are given as digits, one for each atom
-- from 0.
use Rattle.std.specs.Prelude.{ℕ, suc, ◌<◌, ◌≡◌, ◌≢◌, List, Bool, true, length, get_or}
use Rattle.std.specs.Int.Bits.{bit_and}
use Rattle.placing.specs.Net.{Net}
use Rattle.candidates.specs.Words.{In}
use Rattle.completing.specs.Known.{Touches}
use Rattle.stepping.specs.Standing.{context_digits}
use Rattle.remaining.specs.Joining.{Closure, closure_in}

module _ (S : Net) (taken : List ℕ) where
  -- atom j is on link y, both from 0, and not taken
  pub record StandsAt (j y : ℕ) : Type 0 where
    pub is-atom : j < length S.atoms
    pub on : Touches S (suc j) (suc y)
    pub free : get_or taken j 0 ≢ 1

  module _ (digits : ℕ → ℕ) where
    pub record Allows (words : List ℕ) : Type 0 where
      pub within : (j : ℕ) → j < length S.atoms → get_or taken j 0 ≢ 1 → In (get_or words j 0) (digits j)

    -- the digits of all atoms on y are in the word
    abbrev pub AllIn : ℕ → ℕ → Type 0
    AllIn y word = (j : ℕ) → StandsAt j y → In word (digits j)

    -- Where a figure link goes, the atoms there have their digits in each union of classes with its contexts.
    abbrev pub SettledIn : List ℕ → List ℕ → List ℕ → ℕ → ℕ → Type 0
    SettledIn standing flags to count none =
        (x y word : ℕ) → x < count → get_or to x 0 ≢ none → get_or to x 0 ≡ suc y → Closure standing flags to count (suc y) (get_or standing x 0) word → AllIn y word

    -- Where no figure link goes, a union of classes has the digits of all atoms there or of none.
    pub record Together (table used : List ℕ) : Type 0 where
      pub small : (j : ℕ) → digits j < context_digits
      pub kept : (word t : ℕ) → t < context_digits → In word t → In (closure_in table word) t
      pub all : (y : ℕ) → get_or used y 0 ≢ 1 → (i word : ℕ) → StandsAt i y → In (closure_in table word) (digits i) → AllIn y (closure_in table word)

  -- r has what is in the union of classes of each atom on y
  abbrev pub SharedAt : List ℕ → List ℕ → ℕ → ℕ → Type 0
  SharedAt words table y r = (t : ℕ) → t < context_digits → ((i : ℕ) → StandsAt i y → In (closure_in table (get_or words i 0)) t) → In r t

-- a word with what is in another, unless an atom is taken
pub record KeptBy (word taken closed r : ℕ) : Type 0 where
  pub kept : (t : ℕ) → In word t → (taken ≢ 1 → In closed t) → In r t

-- Two links go to one sheet link, and a union of classes there has all contexts of one and none of the other.
pub record TornAt (standing flags to : List ℕ) (count none : ℕ) : Type 0 where
  pub one : ℕ
  pub two : ℕ
  pub word : ℕ
  pub one_in : one < count
  pub two_in : two < count
  pub differ : two ≢ one
  pub some : get_or to one 0 ≢ none
  pub there : get_or to two 0 ≡ get_or to one 0
  pub closure : Closure standing flags to count (get_or to one 0) (get_or standing one 0) word
  pub apart : bit_and (get_or standing two 0) word ≡ 0

-- r says that another link than x goes to y which has no digit of the word
abbrev pub ApartFrom : List ℕ → List ℕ → ℕ → ℕ → ℕ → ℕ → Bool → Type 0
ApartFrom standing to count y word x r = r ≡ true → (z : ℕ) × (z < count) × (z ≢ x) × (get_or to z 0 ≡ y) × (bit_and (get_or standing z 0) word ≡ 0)

-- r says that an atom that is not taken has the word 0
abbrev pub SomeEmpty : List ℕ → List ℕ → ℕ → Bool → Type 0
SomeEmpty words taken atoms r = r ≡ true → (j : ℕ) × (j < atoms) × (get_or taken j 0 ≢ 1) × (get_or words j 0 ≡ 0)
