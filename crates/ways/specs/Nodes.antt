-- Tables made from the sets of a search node: where figure links surely go, and which sheet atoms the figure atoms take.
-- `parts` are the figure's atoms, laid out; rows and links are counted from 0.
use Rattle.std.specs.Prelude.{◌≡◌, ℕ, suc, ◌+◌, ◌-◌, ◌<◌, Bool, true, ◌≢◌, ◌⊎◌, List, length, slice_index}
use Rattle.hyperlmntal.specs.Link.{◌∈◌}
use Rattle.rows.specs.Limits.{sheet_atom_limit, sheet_link_limit}
use Rattle.rows.specs.declared.Sheet.{Sheet as NormalForm}
use Rattle.placing.specs.Net.{Range}
use Rattle.placing.specs.Placing.{Placing, Good}
use Rattle.network.specs.NetIn.{net_in}
use Rattle.network.specs.Ready.{Ready}
use Rattle.candidates.specs.Forced.{Only}
use Rattle.candidates.specs.Laid.{laid_at, LaidOut}
use Rattle.candidates.specs.Sets.{Obeys}
use Rattle.candidates.specs.Tables.{AtomIn, LinkIn, MayAtom, MayLink}
use Rattle.candidates.specs.Words.{In, InPair}
use Rattle.stepping.specs.Chains.{ChainsIn}
use Rattle.stepping.specs.Standing.{Standing}
use Rattle.ways.specs.Halves.{half_of}

-- the counts are those of this sheet and this figure; their atoms are laid out, the chains are the sheet's, the words and the
-- marked links the figure's
pub record NodeOf (sheet figure : NormalForm) (atoms links count : ℕ) (laid chains : List ℕ) (rows : ℕ) (parts words marked : List ℕ) (marks : ℕ) : Type 0 where
  pub ready : Ready sheet figure
  pub sheet-links : sheet.class_count ≡ links
  pub figure-links : figure.class_count ≡ count
  pub sheet-out : LaidOut sheet laid atoms
  pub chains-in : ChainsIn sheet chains
  pub figure-out : LaidOut figure parts rows
  pub standing : Standing figure words
  pub figure-marked : figure.marked ≡ marked
  pub figure-marks : figure.mark_count ≡ marks

-- r says that no good placing stays in the sets
abbrev pub NoneStays : NormalForm → NormalForm → List ℕ → List ℕ → Bool → Type 0
NoneStays sheet figure atoms links r = r ≡ true → (p : Placing) → Good (net_in sheet) (net_in figure) p → ¬ Obeys (net_in sheet) (net_in figure) (MayAtom atoms) (MayLink links) p

-- ---- links

-- one of the first n rows has link x
abbrev pub OnRow : List ℕ → ℕ → ℕ → Type 0
OnRow parts n x = (i : ℕ) × (k : ℕ) × (i < n) × (k < laid_at parts i 1) × (laid_at parts i (2 + k) ≡ suc x)

-- one of the first m marks is on link x
abbrev pub OnMark : List ℕ → ℕ → ℕ → Type 0
OnMark marked m x = (p : ℕ) × (p < m) × (slice_index marked p ≡ suc x)

-- the set of link x has no link but y, from 1
abbrev pub OnlyLink : List ℕ → ℕ → ℕ → Type 0
OnlyLink sets x y = (z : ℕ) → z < sheet_link_limit → LinkIn sets x z → suc z ≡ y

-- `to` has none for a link and it has a flag, or one of the rows has it, or a mark is on it, and it has only that place; where
-- `opens` does not have 1, one of the rows has it, or a mark is on it
pub record Tells (parts : List ℕ) (n : ℕ) (marked : List ℕ) (m : ℕ) (sets : List ℕ) (none : ℕ) (to flags opens : List ℕ) : Type 0 where
  pub room : length to ≡ sheet_link_limit
  pub flag-room : length flags ≡ sheet_link_limit
  pub open-room : length opens ≡ sheet_link_limit
  pub within : (x : ℕ) → x < sheet_link_limit → Range none (slice_index to x)
  pub told : (x : ℕ) → x < sheet_link_limit → ((slice_index to x ≡ none) × (slice_index flags x ≡ 1)) ⊎ ((OnRow parts n x ⊎ OnMark marked m x) × OnlyLink sets x (slice_index to x))
  pub decided : (x : ℕ) → x < sheet_link_limit → slice_index opens x ≢ 1 → OnRow parts n x ⊎ OnMark marked m x

-- the pair has where link x may go, if it has a flag and stands on both halves: all links, if it is open, else its set
abbrev pub GuardsLink : List ℕ → List ℕ → List ℕ → List ℕ → ℕ → List ℕ → ℕ → Type 0
GuardsLink sets opens words flags side pair x = slice_index flags x ≡ 1 → half_of (slice_index words x) side ≡ 3 → (y : ℕ) → y < sheet_link_limit → (slice_index opens x ≢ 1 → LinkIn sets x y) → InPair pair y

-- so for the first n links
abbrev pub GuardsLinksTo : List ℕ → List ℕ → List ℕ → List ℕ → ℕ → ℕ → List ℕ → Type 0
GuardsLinksTo sets opens words flags side n pair = (x : ℕ) → x < n → GuardsLink sets opens words flags side pair x

-- ---- atoms

-- the half of digit h, 0 the first and 1 the second, has all links of row i
abbrev pub RowOnHalf : List ℕ → List ℕ → ℕ → ℕ → ℕ → Type 0
RowOnHalf parts words side i h = (k : ℕ) → k < laid_at parts i 1 → In (half_of (slice_index words (laid_at parts i (2 + k) - 1)) side) h

abbrev pub RowOnOneHalf : List ℕ → List ℕ → ℕ → ℕ → Type 0
RowOnOneHalf parts words side i = RowOnHalf parts words side i 0 ⊎ RowOnHalf parts words side i 1

-- 1 for an atom that is taken, 2 for one that a breaking atom may take
abbrev pub Guarded : ℕ → Type 0
Guarded v = (v ≡ 1) ⊎ (v ≡ 2)

-- what is taken stays so, and what is guarded
abbrev pub StaysGuarded : List ℕ → List ℕ → Type 0
StaysGuarded was now = (t : ℕ) → (slice_index was t ≡ 1 → slice_index now t ≡ 1) × (Guarded (slice_index was t) → Guarded (slice_index now t))

-- where row i may go below t is guarded
abbrev pub GuardedTo : List ℕ → ℕ → List ℕ → ℕ → Type 0
GuardedTo atoms i taken t = (u : ℕ) → u < t → AtomIn atoms i u → Guarded (slice_index taken u)

-- row i goes to one of the n sheet atoms, which is taken; or all its links are on one half; or it is a breaking atom, and where
-- it may go is guarded
abbrev pub Guards : List ℕ → List ℕ → List ℕ → ℕ → ℕ → List ℕ → List ℕ → ℕ → Type 0
Guards parts words atoms n side taken breaking i =
    ((t : ℕ) × Only atoms i n t × (slice_index taken t ≡ 1)) ⊎ (RowOnOneHalf parts words side i ⊎ ((suc i ∈ breaking) × GuardedTo atoms i taken n))

-- so for the first c rows, of which r are breaking
pub record GuardsTo (parts words atoms : List ℕ) (n side c : ℕ) (taken : List ℕ) (r : ℕ) : Type 0 where
  pub room : length taken ≡ sheet_atom_limit
  pub breaking : List ℕ
  pub number : length breaking ≡ r
  pub each : (i : ℕ) → i < c → Guards parts words atoms n side taken breaking i

-- what is guarded in the first table is taken in the second
abbrev pub Shut : ℕ → List ℕ → List ℕ → Type 0
Shut n was now = (t : ℕ) → t < n → Guarded (slice_index was t) → slice_index now t ≡ 1
