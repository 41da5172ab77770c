-- What the steps of the start look at, on the arrays of normal forms: atoms are counted from 0, links and marks by their numbers.
use Rattle.std.specs.Prelude.{ℕ, ◌+◌, ◌≤◌, ◌<◌, ◌≡◌, List, length, get_or}
use Rattle.hyperlmntal.specs.Link.{◌∈◌}
use Rattle.rows.specs.Limits.{sheet_link_limit}
use Rattle.rows.specs.declared.Atom.{Atom}
use Rattle.rows.specs.declared.Sheet.{Sheet as NormalForm}
use Rattle.placing.specs.Net.{cell_links}
use Rattle.network.specs.NetIn.{net_in}
use Rattle.candidates.specs.Laid.{link_of}
use Rattle.candidates.specs.Words.{pair_digits, InPair}
use Rattle.candidates.specs.PortSets.{set_at}
use Rattle.candidates.specs.declared.ports.PortSet.{PortSet}
use Rattle.starting.specs.Count.{count}

-- equal links among the first n + 1 are equal in both, where the second is link n
abbrev pub Echoes : Atom → Atom → ℕ → Type 0
Echoes here there n = (h : ℕ) → h < n → link_of here h ≡ link_of here n → link_of there h ≡ link_of there n

-- names, link counts, and equal links
pub record Alike (here there : Atom) : Type 0 where
  pub names : here.name ≡ there.name
  pub counts : here.count ≡ there.count
  pub echoes : (k : ℕ) → k < here.count → Echoes here there k

-- the places of atoms at link x + 1
abbrev pub places_of : NormalForm → ℕ → ℕ
places_of n x = count (x + 1) (cell_links (net_in n).atoms)

-- 0 at the links of a set
abbrev pub Cleared : List ℕ → List ℕ → Type 0
Cleared set a = (x : ℕ) → x < pair_digits → InPair set x → get_or a x 0 ≡ 0

-- 0 at the links of the first n contexts
abbrev pub PortsCleared : List PortSet → ℕ → List ℕ → Type 0
PortsCleared sets n a = (i : ℕ) → i < n → Cleared (set_at sets i).links a

-- no context has a link that is 1 in the array
abbrev pub ClosedIn : NormalForm → List ℕ → Type 0
ClosedIn n a = (x : ℕ) → (x + 1) ∈ cell_links (net_in n).contexts → get_or a x 0 ≡ 0

-- a count for each link, none over n
pub record Tally (l : List ℕ) (n : ℕ) : Type 0 where
  pub width : length l ≡ sheet_link_limit
  pub most : (q : ℕ) → get_or l q 0 ≤ n

-- enough places, and as many if no context has the figure link: closed is then 1
pub record Enough (closed wanted there : ℕ) : Type 0 where
  pub least : wanted ≤ there
  pub exact : closed ≡ 1 → wanted ≡ there

-- the marks of figure link x + 1 are marks of sheet link y + 1, and back
abbrev pub MarksOn : NormalForm → NormalForm → ℕ → ℕ → Type 0
MarksOn sheet figure x y = (m : ℕ) → (x + 1, m) ∈ (net_in figure).marks → (y + 1, m) ∈ (net_in sheet).marks

abbrev pub MarksBack : NormalForm → NormalForm → ℕ → ℕ → Type 0
MarksBack sheet figure x y = (m : ℕ) → (y + 1, m) ∈ (net_in sheet).marks → (x + 1, m) ∈ (net_in figure).marks
