-- Document 01, 'Normal text': a normal sheet or figure as a net of atoms, contexts and marks over links 1, 2, ...
use Rattle.std.specs.Prelude.{ℕ, ◌≤◌, max, ◌≡◌, ◌≢◌, List, [], ◌∷◌, ◌++◌, map, length}
use Rattle.hyperlmntal.specs.Link.{◌∈◌}
use Rattle.hyperlmntal.specs.Template.{Template}
use Rattle.hyperlmntal.specs.Hypergraph.{inner, Label, symbol, hole, Cell, Fusion, Flat}
use Rattle.hyperlmntal.specs.TermOf.{term_of}
use Rattle.rows.specs.Held.{Held}
use Rattle.reading.specs.Graph.{graph_of, edge_of}
use Rattle.reading.specs.Normal.{normal_form}
use Rattle.normalising.specs.NormalText.{node_number}

-- an atom (document 01's symbol) or a context (its blank): its name or number, and its links (its joints) place by place
abbrev pub NetCell : Type 0
NetCell = ℕ × List ℕ

-- the number and the port count of a blank
abbrev pub blank_of : NetCell → ℕ × ℕ
blank_of c = (c.0, length c.1)

pub record Net : Type 0 where
  -- the S rows
  pub atoms : List NetCell
  -- the B rows
  pub contexts : List NetCell
  -- the E rows: a link and its mark
  pub marks : List (ℕ × ℕ)
  -- how many links there are: 'classes are numbered from 1'
  pub links : ℕ

-- Range n i: i is a number from 1 to n.
abbrev pub Range : ℕ → ℕ → Type 0
Range n i = (1 ≤ i) × (i ≤ n)

-- the links that stand in rows
abbrev pub cell_links : List NetCell → List ℕ
cell_links [] = []
cell_links (c ∷ l) = c.1 ++ cell_links l

abbrev pub mark_links : List (ℕ × ℕ) → List ℕ
mark_links [] = []
mark_links (e ∷ l) = e.0 ∷ mark_links l

abbrev pub standing : Net → List ℕ
standing N = cell_links N.atoms ++ (cell_links N.contexts ++ mark_links N.marks)

abbrev pub greatest : List ℕ → ℕ
greatest [] = 0
greatest (x ∷ l) = max x (greatest l)

-- a vertex with an atom name, or with the number of a context, put in front
abbrev pub with_symbol : Label → List ℕ → List NetCell → List NetCell
with_symbol (symbol p) l k = (p, l) ∷ k
with_symbol (hole x) l k = k

abbrev pub with_hole : Label → List ℕ → List NetCell → List NetCell
with_hole (symbol p) l k = k
with_hole (hole x) l k = (x, l) ∷ k

abbrev pub atoms_among : List (Cell ℕ) → List NetCell
atoms_among [] = []
atoms_among (c ∷ l) = with_symbol c.label (map node_number c.ports) (atoms_among l)

abbrev pub contexts_among : List (Cell ℕ) → List NetCell
contexts_among [] = []
contexts_among (c ∷ l) = with_hole c.label (map node_number c.ports) (contexts_among l)

-- in a normal form each fusion is that of a link with a mark
abbrev pub edge_numbers : Fusion ℕ → ℕ × ℕ
edge_numbers e = (node_number e.0, node_number e.1)

abbrev pub with_link_count : List NetCell → List NetCell → List (ℕ × ℕ) → Net
with_link_count a c m = record { atoms = a; contexts = c; marks = m; links = greatest (cell_links a ++ (cell_links c ++ mark_links m)) }

-- the net of a normal form
abbrev pub net_of : Flat ℕ → Net
net_of F = with_link_count (atoms_among F.atoms) (contexts_among F.atoms) (map edge_numbers F.fusions)

-- the net of the normal text of a sheet or figure, by what its rows hold
abbrev pub normal_net : Held → Net
normal_net h = net_of (normal_form (graph_of h))

abbrev pub atom_vertex : NetCell → Cell ℕ
atom_vertex c = record { label = symbol c.0; ports = map inner c.1 }

abbrev pub context_vertex : NetCell → Cell ℕ
context_vertex c = record { label = hole c.0; ports = map inner c.1 }

-- a net as a hypergraph: 'every joint is a local link, every mark a free link'
abbrev pub net_graph : Net → Flat ℕ
net_graph N = record { atoms = map atom_vertex N.atoms ++ map context_vertex N.contexts; fusions = map edge_of N.marks }

-- a net as a term
abbrev pub net_term : Net → Template
net_term N = term_of (net_graph N)

-- What normal text has: links from 1 to their number, each of them on a symbol, a blank or a mark, and each mark on one link.
pub record Normal (N : Net) : Type 0 where
  -- 'Classes are numbered from 1'
  pub numbered : (x : ℕ) → x ∈ standing N → Range N.links x
  -- 'A class with no symbol, blank or mark vanishes'
  pub used : (x : ℕ) → Range N.links x → x ∈ standing N
  -- 'one E row per mark'
  pub one_link : (x y m : ℕ) → (x, m) ∈ N.marks → (y, m) ∈ N.marks → x ≡ y

-- a sheet: no blanks
pub record NormalSheet (N : Net) : Type 0 where
  pub normal : Normal N
  pub no-contexts : N.contexts ≡ []

-- the numbers are pairwise different
abbrev pub Apart : List NetCell → Type 0
Apart [] = Unit {0}
Apart (c ∷ l) = ((d : NetCell) → d ∈ l → c.0 ≢ d.0) × Apart l

-- a pattern: the numbers of its blanks are from 1 and pairwise different
pub record NormalPattern (N : Net) : Type 0 where
  pub normal : Normal N
  pub from_one : (c : NetCell) → c ∈ N.contexts → 1 ≤ c.0
  pub different : Apart N.contexts
