-- The atoms of a net in one array of numbers: for each, counted from 0, its name, its count and its links.
use Rattle.std.specs.Prelude.{ℕ, zero, suc, ◌+◌, ◌*◌, ◌≤◌, ◌<◌, ◌≡◌, List, [], ◌∷◌, get_or}
use Rattle.rows.specs.Format.{most_links, field_count}
use Rattle.rows.specs.Limits.{sheet_atom_limit, sheet_link_limit}
use Rattle.rows.specs.declared.Atom.{Atom}
use Rattle.rows.specs.declared.Sheet.{Sheet as NormalForm}
use Rattle.placing.specs.Net.{Normal}
use Rattle.network.specs.NetIn.{net_in, atom_at, Used, Fit}

-- the number at place k of row i
abbrev pub laid_at : List ℕ → ℕ → ℕ → ℕ
laid_at l i k = get_or l (i * field_count + k) 0

-- n numbers from a place on
unfoldable pub numbers_from : List ℕ → ℕ → ℕ → List ℕ
numbers_from l at zero = []
numbers_from l at (suc n) = get_or l at 0 ∷ numbers_from l (suc at) n

unfoldable pub laid_atom : List ℕ → ℕ → Atom
laid_atom l i = record { name = get_or l (i * field_count) 0; count = laid_at l i 1; links = numbers_from l (i * field_count + 2) most_links }

-- link k of an atom
abbrev pub link_of : Atom → ℕ → ℕ
link_of a k = get_or a.links k 0

-- n rows, whose links are numbers of links
pub record Rowed (laid : List ℕ) (n : ℕ) : Type 0 where
  pub few : n ≤ sheet_atom_limit
  pub atoms : (i : ℕ) → i < n → Used sheet_link_limit (laid_atom laid i).count (laid_atom laid i).links

-- the n atoms of a net in normal form
pub record LaidOut (net : NormalForm) (laid : List ℕ) (n : ℕ) : Type 0 where
  pub count : net.atom_count ≡ n
  pub fit : Fit net
  pub normal : Normal (net_in net)
  pub atoms : (i : ℕ) → i < n → laid_atom laid i ≡ atom_at net i
