-- The places of atoms on each link, as chains in one table.
use Rattle.std.specs.Prelude.{ℕ, suc, ◌+◌, ◌*◌, ◌<◌, ◌≤◌, ◌≡◌, ◌≢◌, List, length, get_or}
use Rattle.rows.specs.Format.{most_links}
use Rattle.rows.specs.Limits.{sheet_atom_limit, sheet_link_limit}
use Rattle.rows.specs.declared.Sheet as form
use Rattle.placing.specs.Net.{Net}
use Rattle.placing.specs.Placing.{cell_at}
use Rattle.network.specs.NetIn.{net_in}

-- the node of place k of atom j, both from 0
abbrev pub node_of : ℕ → ℕ → ℕ
node_of j k = sheet_link_limit + (j * most_links + k)

-- one node for each link and for each place of an atom
abbrev pub node_count : ℕ
node_count = node_of sheet_atom_limit 0

-- Node v is that of a place on link y, from 0.
pub record NodeOn (S : Net) (y v : ℕ) : Type 0 where
  pub atom : ℕ
  pub place : ℕ
  pub atom-in : atom < length S.atoms
  pub place_in : place < length (cell_at S.atoms (suc atom)).1
  pub place-few : place < most_links
  pub link : get_or (cell_at S.atoms (suc atom)).1 place 0 ≡ suc y
  pub node : v ≡ node_of atom place

-- Of the nodes below n, v is the last on link y; 0 where there is none.
pub record LastOn (S : Net) (n y v : ℕ) : Type 0 where
  pub is : v ≢ 0 → NodeOn S y v
  pub none : (w : ℕ) → v < w → w < n → NodeOn S y w → ⊥

-- What stands in the table is 0 or a node below n, and at a node stands less.
pub record Falls (n : ℕ) (table : List ℕ) : Type 0 where
  pub within : (v : ℕ) → get_or table v 0 < n
  pub above : (v : ℕ) → get_or table v 0 ≢ 0 → sheet_link_limit ≤ get_or table v 0
  pub falls : (v : ℕ) → sheet_link_limit ≤ v → get_or table v 0 < v

-- At each link stands its last node, at each node below n the one before it on the same link.
pub record Chained (S : Net) (n : ℕ) (table : List ℕ) : Type 0 where
  pub nodes : Falls n table
  pub last : (y : ℕ) → y < sheet_link_limit → LastOn S n y (get_or table y 0)
  pub next : (y v : ℕ) → v < n → NodeOn S y v → LastOn S v y (get_or table v 0)

-- all places of a sheet
abbrev pub ChainsIn : form.Sheet → List ℕ → Type 0
ChainsIn sheet table = Chained (net_in sheet) (node_of sheet.atom_count 0) table

-- the first `count` of these links are those of atom j
pub record RowIn (S : Net) (j : ℕ) (links : List ℕ) (count : ℕ) : Type 0 where
  pub atom-in : j < length S.atoms
  pub width : length (cell_at S.atoms (suc j)).1 ≡ count
  pub same : (k : ℕ) → k < count → get_or (cell_at S.atoms (suc j)).1 k 0 ≡ get_or links k 0
