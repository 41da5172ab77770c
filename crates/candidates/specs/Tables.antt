-- The sets as arrays of words: for each figure atom one word, for each figure link two. All are counted from 0.
use Rattle.std.specs.Prelude.{ℕ, ◌+◌, ◌*◌, ◌/◌, ◌%◌, ◌-◌, ◌<◌, ◌≡◌, List, get_or}
use Rattle.rows.specs.Limits.{sheet_atom_limit, sheet_link_limit}
use Rattle.candidates.specs.Words.{word_digits, In}

-- figure atom i may go to sheet atom t
abbrev pub AtomIn : List ℕ → ℕ → ℕ → Type 0
AtomIn a i t = In (get_or a i 0) t

-- figure link x may go to sheet link y
abbrev pub LinkIn : List ℕ → ℕ → ℕ → Type 0
LinkIn l x y = In (get_or l (x * 2 + y / word_digits) 0) (y % word_digits)

-- the same for atoms and links that are counted from 1
abbrev pub MayAtom : List ℕ → ℕ → ℕ → Type 0
MayAtom a i t = AtomIn a (i - 1) (t - 1)

abbrev pub MayLink : List ℕ → ℕ → ℕ → Type 0
MayLink l x y = LinkIn l (x - 1) (y - 1)

-- what is in the sets of a is in those of b, where P holds
abbrev pub AtomsStay : List ℕ → List ℕ → (ℕ → ℕ → Type 0) → Type 0
AtomsStay a b P = (i t : ℕ) → t < sheet_atom_limit → AtomIn a i t → P i t → AtomIn b i t

abbrev pub LinksStay : List ℕ → List ℕ → (ℕ → ℕ → Type 0) → Type 0
LinksStay l k P = (x y : ℕ) → y < sheet_link_limit → LinkIn l x y → P x y → LinkIn k x y

-- the set of figure atom i, or of figure link x, is empty
abbrev pub NoAtom : List ℕ → ℕ → Type 0
NoAtom a i = (t : ℕ) → ¬ AtomIn a i t

abbrev pub NoLink : List ℕ → ℕ → Type 0
NoLink l x = (y : ℕ) → y < sheet_link_limit → ¬ LinkIn l x y

-- what is 0 in a is 0 in b
abbrev pub StaysCleared : List ℕ → List ℕ → Type 0
StaysCleared a b = (q : ℕ) → get_or a q 0 ≡ 0 → get_or b q 0 ≡ 0
