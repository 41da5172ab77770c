-- For each place and link the atoms that have the link there: word k * sheet_link_limit + y of a table, for place k and link
-- y + 1.
use Rattle.std.specs.Prelude.{ℕ, ◌+◌, ◌*◌, ◌<◌, ◌≡◌, List, get_or}
use Rattle.rows.specs.Format.{most_links}
use Rattle.rows.specs.Limits.{sheet_link_limit}
use Rattle.candidates.specs.Laid.{laid_atom, link_of}
use Rattle.candidates.specs.Words.{In, InPair}

-- the users of n atoms that are laid out
pub record UsersIn (laid : List ℕ) (n : ℕ) (users : List ℕ) : Type 0 where
  pub has : (t k y : ℕ) → t < n → k < (laid_atom laid t).count → link_of (laid_atom laid t) k ≡ y + 1 → In (get_or users (k * sheet_link_limit + y) 0) t
  pub only : (t k y : ℕ) → k < most_links → y < sheet_link_limit → In (get_or users (k * sheet_link_limit + y) 0) t → (t < n) × (k < (laid_atom laid t).count) × (link_of (laid_atom laid t) k ≡ y + 1)

-- an atom has one of these links at place k
abbrev pub UsesAt : (users : List ℕ) (k : ℕ) (set : List ℕ) (t : ℕ) → Type 0
UsesAt users k set t = (y : ℕ) × (y < sheet_link_limit) × InPair set y × In (get_or users (k * sheet_link_limit + y) 0) t
