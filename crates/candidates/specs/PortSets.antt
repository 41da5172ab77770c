-- Contexts as the search sees them: of each its number and the set of its links, which are counted from 0.
use Rattle.std.specs.Prelude.{ℕ, suc, ◌<◌, ◌≤◌, ◌≡◌, ◌↔◌, List, [], ◌∷◌, length, take, get_or}
use Rattle.hyperlmntal.specs.Link.{◌∈◌}
use Rattle.rows.specs.Limits.{sheet_link_limit, figure_contexts, context_room}
use Rattle.rows.specs.declared.Context.{Context}
use Rattle.rows.specs.declared.Sheet.{Sheet as NormalForm}
use Rattle.network.specs.NetIn.{context_at, Fit}
use Rattle.candidates.specs.Words.{pair_digits, InPair}
use Rattle.candidates.specs.declared.ports.PortSet.{PortSet}

-- what code reads at an index; past the end the logic reads zeros
abbrev pub set_at : List PortSet → ℕ → PortSet
set_at sets c = get_or sets c (record { number = 0; links = [] })

-- a place that no context has
abbrev pub no_ports : PortSet
no_ports = record { number = 0; links = 0 ∷ 0 ∷ [] }

-- context c has link x
abbrev pub PortIn : List PortSet → ℕ → ℕ → Type 0
PortIn sets c x = InPair (set_at sets c).links x

-- the links of a set are among the first n
abbrev pub Below : ℕ → List ℕ → Type 0
Below n set = (x : ℕ) → x < pair_digits → InPair set x → x < n

-- so many contexts, whose links are among the first `links`
pub record Ports (sets : List PortSet) (rows links : ℕ) : Type 0 where
  pub few : rows ≤ figure_contexts
  pub links-few : links ≤ sheet_link_limit
  pub room : length sets ≡ context_room
  pub within : (c : ℕ) → c < rows → Below links (set_at sets c).links

-- the set of the first `count` links, which are counted from 1 here
abbrev pub LinksOf : List ℕ → ℕ → List ℕ → Type 0
LinksOf links count pair = (x : ℕ) → x < pair_digits → InPair pair x ↔ (suc x ∈ take count links)

-- the number of a row and the set of its links
pub record SetOf (row : Context) (s : PortSet) : Type 0 where
  pub number : s.number ≡ row.number
  pub ports : LinksOf row.links row.count s.links

-- the contexts of a net, and its count of links
pub record ContextsIn (net : NormalForm) (sets : List PortSet) (rows links : ℕ) : Type 0 where
  pub fit : Fit net
  pub room : length sets ≡ context_room
  pub row_count : net.context_count ≡ rows
  pub link-count : net.class_count ≡ links
  pub each : (c : ℕ) → c < rows → SetOf (context_at net c) (set_at sets c)
