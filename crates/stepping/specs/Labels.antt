-- Labels of figure links, counted from 0: two links have one label exactly when steps lead from one to the other.
use Rattle.std.specs.Prelude.{ℕ, suc, ◌+◌, ◌≤◌, ◌<◌, ◌≡◌, ◌≢◌, List, Option, MatchOption, get_or}
use Rattle.rows.specs.Held.{relabelled}
use Rattle.rows.specs.Limits.{sheet_link_limit}
use Rattle.candidates.specs.Words.{pair_digits, InPair, PartOf}
use Rattle.candidates.specs.PortSets.{set_at, PortIn}
use Rattle.candidates.specs.declared.ports.PortSet.{PortSet}
use Rattle.network.specs.Reach.{Reach}

-- two links of one context, of which there are `rows`, that go to one sheet link
pub record Tie (sets : List PortSet) (rows : ℕ) (to : List ℕ) (x z : ℕ) : Type 0 where
  pub row : ℕ
  pub row_in : row < rows
  pub first-in : x < pair_digits
  pub second-in : z < pair_digits
  pub first : PortIn sets row x
  pub second : PortIn sets row z
  pub together : get_or to x 0 ≡ get_or to z 0

-- links with one label are tied
abbrev pub Sound : List PortSet → ℕ → List ℕ → List ℕ → Type 0
Sound sets rows to labels = (x z : ℕ) → x < sheet_link_limit → z < sheet_link_limit → get_or labels x 0 ≡ get_or labels z 0 → Reach (Tie sets rows to) x z

-- one label for another
abbrev pub Relabelled : List ℕ → List ℕ → ℕ → ℕ → Type 0
Relabelled labels next from to = (x : ℕ) → x < sheet_link_limit → get_or next x 0 ≡ relabelled from to (get_or labels x 0)

-- From place n on each link has its own label, and each before has one that is at most n.
pub record Bounded (n : ℕ) (labels : List ℕ) : Type 0 where
  pub own : (x : ℕ) → n ≤ x → x < sheet_link_limit → get_or labels x 0 ≡ x + 1
  pub low : (x : ℕ) → x < n → get_or labels x 0 ≤ n

-- From labels to next: what has one label keeps one label, and the new ones are tied if this set is that of a context.
pub record Grew (to set labels next : List ℕ) : Type 0 where
  pub kept : (x z : ℕ) → x < sheet_link_limit → z < sheet_link_limit → get_or labels x 0 ≡ get_or labels z 0 → get_or next x 0 ≡ get_or next z 0
  pub sound : (sets : List PortSet) (rows row : ℕ) → row < rows → (set_at sets row).links ≡ set → Sound sets rows to labels → Sound sets rows to next

-- the same if a context has this set and link a
abbrev pub GrewWith : List ℕ → List ℕ → ℕ → List ℕ → List ℕ → Type 0
GrewWith to set a labels next = (whole : List ℕ) → InPair whole a → PartOf set whole → Grew to whole labels next

-- two links have one label if they go to one sheet link
abbrev pub Tied : List ℕ → List ℕ → ℕ → ℕ → Type 0
Tied to labels x z = get_or to x 0 ≡ get_or to z 0 → get_or labels x 0 ≡ get_or labels z 0

-- so all links of a set
abbrev pub AllTied : List ℕ → List ℕ → List ℕ → Type 0
AllTied to set labels = (x z : ℕ) → x < pair_digits → z < pair_digits → InPair set x → InPair set z → Tied to labels x z

pub record Labelled (sets : List PortSet) (rows : ℕ) (to labels : List ℕ) : Type 0 where
  pub sound : Sound sets rows to labels
  pub complete : (c : ℕ) → c < rows → AllTied to (set_at sets c).links labels

-- x and z, from 0, are two of the first `links` that go to y, and y is not none
pub record Meet (links : ℕ) (to : List ℕ) (none x z y : ℕ) : Type 0 where
  pub first-in : x < links
  pub second-in : z < links
  pub first-at : get_or to x 0 ≡ y
  pub second_at : get_or to z 0 ≡ y
  pub not_none : y ≢ none

-- no two of the first `links` meet
abbrev pub AllAlone : ℕ → List ℕ → ℕ → Type 0
AllAlone links to none = (x z y : ℕ) → Meet links to none x z y → x ≡ z

-- steps lead between all links that meet
abbrev pub MeetTied : List PortSet → ℕ → ℕ → List ℕ → ℕ → Type 0
MeetTied sets rows links to none = (x z w : ℕ) → Meet links to none x z w → Reach (Tie sets rows to) x z

-- none lead between two that meet at sheet link y, from 0
abbrev pub MeetApart : List PortSet → ℕ → ℕ → List ℕ → ℕ → ℕ → Type 0
MeetApart sets rows links to none y = (x : ℕ) × (z : ℕ) × Meet links to none x z (suc y) × ¬ Reach (Tie sets rows to) x z

-- steps lead between all links that meet, or this is where two meet between which none lead
abbrev pub Apart : List PortSet → ℕ → ℕ → List ℕ → ℕ → Option ℕ → Type 0
Apart sets rows links to none at = MatchOption at (MeetTied sets rows links to none) (MeetApart sets rows links to none)
