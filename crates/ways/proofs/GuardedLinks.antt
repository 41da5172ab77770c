-- The guarded links, gathered figure link by figure link.
use Rattle.std.proofs.Common.{◌≡◌, ℕ, ◌+◌, ◌-◌, ◌*◌, ◌%◌, ◌^◌, ◌<◌, List, [], ◌∷◌, get_or, sym, ◌∙◌, subst, arith}
use native.Mathlib.Decide.{ℕ_discrete}
use lib.Bits.{bit_or, and_mask}
use Rattle.rows.specs.Limits.{sheet_link_limit}
use Rattle.candidates.specs.Words.{word_digits, In, InPair}
use Rattle.candidates.proofs.Digits.{and_in, in-or-left, in-or-right, alone-in, shifted}
use Rattle.candidates.proofs.Halves.{by-half, in_pair}
use Rattle.ways.specs.Nodes.{GuardsLink, GuardsLinksTo}

-- The word of all numbers has each.
all_in : (t : ℕ) → t < word_digits → In (2 ^ word_digits - 1) t
all_in t h = (and_in (1 * 2 ^ t) (2 ^ word_digits - 1) t (alone-in t _ (and_mask (1 * 2 ^ t) word_digits ∙ shifted t h))).1

abbrev pub all_links : List ℕ
all_links = (2 ^ word_digits - 1) ∷ (2 ^ word_digits - 1) ∷ []

pub all-links : (y : ℕ) → y < sheet_link_limit → InPair all_links y
all-links y h = by-half (λ z. In (get_or all_links z 0) (y % word_digits)) y (in_pair h) (all_in (y % word_digits) (omega arith)) (all_in (y % word_digits) (omega arith))

-- What is in one of two pairs is in both together.
module _ (low high : ℕ) (pair : List ℕ) (y : ℕ) (h : y < sheet_link_limit) where
  abbrev either : List ℕ
  either = bit_or low (get_or pair 0 0) ∷ bit_or high (get_or pair 1 0) ∷ []

  in-first : InPair (low ∷ high ∷ []) y → InPair either y
  in-first = by-half (λ z. In (get_or (low ∷ high ∷ []) z 0) (y % word_digits) → In (get_or either z 0) (y % word_digits)) y (in_pair h)
      (in-or-left low (get_or pair 0 0) (y % word_digits)) (in-or-left high (get_or pair 1 0) (y % word_digits))

  in-second : InPair pair y → InPair either y
  in-second = by-half (λ z. In (get_or pair z 0) (y % word_digits) → In (get_or either z 0) (y % word_digits)) y (in_pair h)
      (in-or-right low (get_or pair 0 0) (y % word_digits)) (in-or-right high (get_or pair 1 0) (y % word_digits))

module _ (sets opens words flags : List ℕ) (side : ℕ) where
  -- One more figure link.
  pub links-more : (x low high : ℕ) (pair : List ℕ) → GuardsLinksTo sets opens words flags side x (low ∷ high ∷ []) → GuardsLink sets opens words flags side pair x
      → GuardsLinksTo sets opens words flags side (x + 1) (bit_or low (get_or pair 0 0) ∷ bit_or high (get_or pair 1 0) ∷ [])
  links-more x low high pair before here u h f b y l may = go (ℕ_discrete u x)
    where
      go : Dec (u ≡ x) → InPair (bit_or low (get_or pair 0 0) ∷ bit_or high (get_or pair 1 0) ∷ []) y
      go (yes e) = in-second low high pair y l (subst (GuardsLink sets opens words flags side pair) (sym e) here f b y l may)
      go (no d) = in-first low high pair y l (before u (omega arith) f b y l may)
