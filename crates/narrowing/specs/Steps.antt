-- What the steps of narrowing look at, on the arrays of normal forms: atoms are counted from 0, links by their numbers.
use Rattle.std.specs.Prelude.{ℕ, ◌+◌, ◌-◌, ◌<◌, ◌≡◌, List, get_or}
use Rattle.rows.specs.Limits.{sheet_link_limit}
use Rattle.rows.specs.declared.Atom.{Atom}
use Rattle.rows.specs.declared.Sheet.{Sheet as NormalForm}
use Rattle.placing.specs.Placing.{Placing, Good}
use Rattle.network.specs.NetIn.{net_in}
use Rattle.candidates.specs.Sets.{Obeys}
use Rattle.candidates.specs.Kin.{RowLabels}
use Rattle.candidates.specs.Laid.{laid_atom, LaidOut, link_of}
use Rattle.candidates.specs.Words.{In, InPair}
use Rattle.narrowing.specs.Users.{UsersIn}
use Rattle.candidates.specs.Tables.{AtomIn, LinkIn, MayAtom, MayLink}

-- the links of a sheet atom may be where those of a figure atom go
pub record Fitting (here there : Atom) (l : List ℕ) : Type 0 where
  pub counts : here.count ≡ there.count
  pub links : (k : ℕ) → k < here.count → MayLink l (link_of here k) (link_of there k)

-- of n sheet atoms, t, which is in a set, has link y + 1 at place k
pub record GivenBy (sheet : ℕ → Atom) (n row k y t : ℕ) : Type 0 where
  pub sheet-atom : t < n
  pub may : In row t
  pub place : k < (sheet t).count
  pub there : link_of (sheet t) k ≡ y + 1

-- some sheet atom has
abbrev pub Given : (ℕ → Atom) → (n row k y : ℕ) → Type 0
Given sheet n row k y = (t : ℕ) × GivenBy sheet n row k y t

-- link z + 1 of a figure atom that goes to one of a set is given y + 1, at each of its places
abbrev pub GivenRow : (ℕ → Atom) → ℕ → Atom → (row z y : ℕ) → Type 0
GivenRow sheet n here row z y = (k : ℕ) → k < here.count → link_of here k ≡ z + 1 → Given sheet n row k y

-- what a set of sheet atoms gives at each of the first places is in a table, at each place two words
abbrev pub GivenTable : (ℕ → Atom) → (n row count : ℕ) (table : List ℕ) → Type 0
GivenTable sheet n row count table = (k y : ℕ) → k < count → y < sheet_link_limit → Given sheet n row k y → LinkIn table k y

-- link z + 1 of a figure atom finds y + 1 in the table, at each of its places
abbrev pub TableRow : (table : List ℕ) (here : Atom) (z y : ℕ) → Type 0
TableRow table here z y = (k : ℕ) → k < here.count → link_of here k ≡ z + 1 → LinkIn table k y

-- no atom that has one of these links at place k is in the set
abbrev pub Barred : (users : List ℕ) (k : ℕ) (left : List ℕ) (out : ℕ) → Type 0
Barred users k left out = (laid : List ℕ) (n : ℕ) → UsersIn laid n users → (t y : ℕ) → y < sheet_link_limit → t < n → k < (laid_atom laid t).count → link_of (laid_atom laid t) k ≡ y + 1 → InPair left y → ¬ In out t

-- where u is all that figure atom i may go to, no other figure atom may
abbrev pub Alone : List ℕ → ℕ → ℕ → ℕ → Type 0
Alone a i j u = ((v : ℕ) → AtomIn a i v → v ≡ u) → j ≡ i

-- where y is all that figure link x may go to, only links with its label may
abbrev pub AloneLink : (labels l : List ℕ) (x z y : ℕ) → Type 0
AloneLink labels l x z y = ((v : ℕ) → v < sheet_link_limit → LinkIn l x v → v ≡ y) → get_or labels z 0 ≡ get_or labels x 0

-- A good placing in the sets of the first two arrays is in those of the others.
abbrev pub Narrowed : NormalForm → NormalForm → (a l b k : List ℕ) → Type 0
Narrowed sheet figure a l b k = (p : Placing) → Good (net_in sheet) (net_in figure) p → Obeys (net_in sheet) (net_in figure) (MayAtom a) (MayLink l) p → Obeys (net_in sheet) (net_in figure) (MayAtom b) (MayLink k) p

-- So it is for the nets whose atoms are laid out, where the links of each context of the figure have one label in `kin`.
abbrev pub NarrowedBy : (kin sheet : List ℕ) (n : ℕ) (figure : List ℕ) (m : ℕ) (a l b k : List ℕ) → Type 0
NarrowedBy kin sheet n figure m a l b k = (S F : NormalForm) → LaidOut S sheet n → LaidOut F figure m → RowLabels (net_in F) (λ x. get_or kin (x - 1) 0) → Narrowed S F a l b k

-- So it is for the links alone, where `owners` has the figure's atoms by their links.
abbrev pub KinNarrowed : (owners kin l k : List ℕ) → Type 0
KinNarrowed owners kin l k = (sheet : List ℕ) (n : ℕ) (figure : List ℕ) (m : ℕ) (a : List ℕ) → UsersIn figure m owners → NarrowedBy kin sheet n figure m a l a k
