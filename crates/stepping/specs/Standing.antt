-- The contexts of each figure link as a word, and what a test over such words says of the completions.
use Rattle.std.specs.Prelude.{ℕ, suc, ◌%◌, ◌<◌, ◌≡◌, ◌⊎◌, List, Bool, true, length, get_or}
use Rattle.hyperlmntal.specs.Link.{◌∈◌}
use Rattle.rows.specs.Limits.{sheet_link_limit}
use Rattle.rows.specs.declared.Sheet as form
use Rattle.network.specs.NetIn.{net_in}
use Rattle.network.specs.Ready.{Ready, LinksIn, TakenIn, state_in}
use Rattle.candidates.specs.Words.{In, pair_digits, InPair}
use Rattle.candidates.specs.PortSets.{set_at, PortIn}
use Rattle.candidates.specs.declared.ports.PortSet.{PortSet}
use Rattle.completing.specs.Completion.{Partial, Completable}
use Rattle.completing.specs.Known.{Stands}
use Rattle.stepping.specs.Chains.{ChainsIn}

-- how many digits a word of contexts has
abbrev pub context_digits : ℕ
context_digits = 16

-- the digit of context k; contexts with one digit are not told apart
abbrev pub digit_of : ℕ → ℕ
digit_of k = k % context_digits

-- for each figure link, from 0, a word with its contexts and no others
pub record Standing (figure : form.Sheet) (words : List ℕ) : Type 0 where
  pub room : length words ≡ sheet_link_limit
  pub holds : (x : ℕ) → x < figure.class_count → (k : ℕ) → Stands (net_in figure) (suc x) k → In (get_or words x 0) (digit_of k)
  pub only : (x : ℕ) → x < figure.class_count → (t : ℕ) → In (get_or words x 0) t → (k : ℕ) × Stands (net_in figure) (suc x) k × (t ≡ digit_of k)

-- a word joined to those of the links of a set, and no other digits; none loses a digit
pub record Marked (was set : List ℕ) (word : ℕ) (r : List ℕ) : Type 0 where
  pub room : length r ≡ sheet_link_limit
  pub kept : (x t : ℕ) → In (get_or was x 0) t → In (get_or r x 0) t
  pub joined : (x : ℕ) → x < pair_digits → InPair set x → (t : ℕ) → In word t → In (get_or r x 0) t
  pub only : (x t : ℕ) → In (get_or r x 0) t → In (get_or was x 0) t ⊎ (InPair set x × In word t)

-- the words by the first c contexts
pub record StandingTo (sets : List PortSet) (c : ℕ) (words : List ℕ) : Type 0 where
  pub room : length words ≡ sheet_link_limit
  pub holds : (i x : ℕ) → i < c → x < pair_digits → PortIn sets i x → In (get_or words x 0) (digit_of (set_at sets i).number)
  pub only : (x t : ℕ) → In (get_or words x 0) t → (i : ℕ) × (i < c) × PortIn sets i x × (t ≡ digit_of (set_at sets i).number)

-- The counts are those of this sheet and this figure; the chains are the sheet's, the words the figure's; `to` says where the
-- figure links go.
pub record Described (sheet figure : form.Sheet) (atoms links count : ℕ) (chains words to : List ℕ) : Type 0 where
  pub ready : Ready sheet figure
  pub sheet-atoms : sheet.atom_count ≡ atoms
  pub sheet-links : sheet.class_count ≡ links
  pub figure-links : figure.class_count ≡ count
  pub chains-in : ChainsIn sheet chains
  pub standing : Standing figure words
  pub links-in : LinksIn sheet figure to

-- r says that no completion is left, where the unsettled links have a flag
abbrev pub Refuses : form.Sheet → form.Sheet → List ℕ → List ℕ → List ℕ → Bool → Type 0
Refuses sheet figure taken to flags r =
    r ≡ true → (atoms un : List ℕ) → TakenIn sheet figure (state_in figure atoms to) taken → Partial (net_in sheet) (net_in figure) (state_in figure atoms to) un
    → ((x : ℕ) → suc x ∈ un → get_or flags x 0 ≡ 1) → ¬ Completable (net_in sheet) (net_in figure) (state_in figure atoms to) un
