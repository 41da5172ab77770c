-- Document 01, 'Rows' and 'Numbers': what the rows of a text hold, and how one more row adds to it.
use Rattle.std.specs.Prelude.{ℕ, suc, ◌+◌, ◌<◌, List, [], ◌∷◌, ◌++◌, map, Bool, eqb, ltb, length, take, drop, get_or}
use Rattle.rows.specs.Pick.{pick}
use Rattle.rows.specs.Format.{atom_letter, context_letter, fusion_letter, edge_letter}
use Rattle.rows.specs.declared.Atom.{Atom}
use Rattle.rows.specs.declared.Context.{Context}
use Rattle.rows.specs.declared.row.Row.{Row}

-- the place of x in a list, the list's length where it is not there
unfoldable pub index_of : ℕ → List ℕ → ℕ
index_of x [] = 0
index_of x (y ∷ l) = pick (eqb y x) 0 (suc (index_of x l))

-- whether a number is in a list
abbrev pub is_in : ℕ → List ℕ → Bool
is_in x l = ltb (index_of x l) (length l)

abbrev pub Among : ℕ → List ℕ → Type 0
Among x l = index_of x l < length l

-- The links and marks of a text: each link number and each mark once, in the order in which they
-- first appear; for each link its class, and for each mark the place of the link that it was first on.
pub record Wiring : Type 0 where
  pub links : List ℕ
  pub classes : List ℕ
  pub marks : List ℕ
  pub marked : List ℕ

-- a link number that is new is a class of its own
unfoldable pub with_link : Wiring → ℕ → Wiring
with_link w x =
    pick (is_in x w.links) w
    (record { links = w.links ++ (x ∷ []); classes = w.classes ++ (length w.links ∷ []); marks = w.marks; marked = w.marked })

unfoldable pub with_links : Wiring → List ℕ → Wiring
with_links w [] = w
with_links w (x ∷ l) = with_links (with_link w x) l

abbrev pub relabelled : ℕ → ℕ → ℕ → ℕ
relabelled from to c = pick (eqb c from) to c

-- the links at places i and j are one point: they and all that is one with either are one class
unfoldable pub merged : Wiring → ℕ → ℕ → Wiring
merged w i j =
    record {
      links = w.links;
      classes = map (relabelled (get_or w.classes j 0) (get_or w.classes i 0)) w.classes;
      marks = w.marks;
      marked = w.marked;
    }

unfoldable pub with_fusion : Wiring → ℕ → ℕ → Wiring
with_fusion w a b = merged w (index_of a w.links) (index_of b w.links)

-- links with equal marks are one point
unfoldable pub with_mark : Wiring → ℕ → ℕ → Wiring
with_mark w a m =
    pick (is_in m w.marks) (merged w (get_or w.marked (index_of m w.marks) 0) (index_of a w.links))
    (record { links = w.links; classes = w.classes; marks = w.marks ++ (m ∷ []); marked = w.marked ++ (index_of a w.links ∷ []) })

abbrev pub no_wiring : Wiring
no_wiring = record { links = []; classes = []; marks = []; marked = [] }

-- The rows read so far: how many; their atoms and contexts, which in a list are its heads; and, in a
-- list since the last head, their fusions as pairs of links, their edges as a link and a mark, and
-- what these make of links and marks.
pub record Held : Type 0 where
  pub rows : ℕ
  pub atoms : List Atom
  pub contexts : List Context
  pub fusions : List (ℕ × ℕ)
  pub edges : List (ℕ × ℕ)
  pub wiring : Wiring

abbrev pub nothing : Held
nothing = record { rows = 0; atoms = []; contexts = []; fusions = []; edges = []; wiring = no_wiring }

-- the links of a symbol or blank row: as many as its count says
abbrev pub links_of : List ℕ → List ℕ
links_of nums = take (get_or nums 1 0) (drop 2 nums)

abbrev pub atom_of : List ℕ → Atom
atom_of nums = record { name = get_or nums 0 0; count = get_or nums 1 0; links = drop 2 nums }

abbrev pub context_of : List ℕ → ℕ → Context
context_of nums row = record { number = get_or nums 0 0; count = get_or nums 1 0; links = drop 2 nums; row = row }

unfoldable pub with_atom : Held → List ℕ → Held
with_atom h nums =
    record {
      rows = h.rows + 1;
      atoms = h.atoms ++ (atom_of nums ∷ []);
      contexts = h.contexts;
      fusions = h.fusions;
      edges = h.edges;
      wiring = with_links h.wiring (links_of nums);
    }

unfoldable pub with_context : Held → List ℕ → Held
with_context h nums =
    record {
      rows = h.rows + 1;
      atoms = h.atoms;
      contexts = h.contexts ++ (context_of nums (h.rows + 1) ∷ []);
      fusions = h.fusions;
      edges = h.edges;
      wiring = with_links h.wiring (links_of nums);
    }

unfoldable pub with_fusion_row : Held → ℕ → ℕ → Held
with_fusion_row h a b =
    record {
      rows = h.rows + 1;
      atoms = h.atoms;
      contexts = h.contexts;
      fusions = h.fusions ++ ((a, b) ∷ []);
      edges = h.edges;
      wiring = with_fusion (with_links h.wiring (a ∷ b ∷ [])) a b;
    }

unfoldable pub with_edge_row : Held → ℕ → ℕ → Held
with_edge_row h a m =
    record {
      rows = h.rows + 1;
      atoms = h.atoms;
      contexts = h.contexts;
      fusions = h.fusions;
      edges = h.edges ++ ((a, m) ∷ []);
      wiring = with_mark (with_links h.wiring (a ∷ [])) a m;
    }

-- joint numbers of different fillings have nothing to do with each other
unfoldable pub with_head : Held → List ℕ → Held
with_head h nums =
    record {
      rows = h.rows + 1;
      atoms = h.atoms;
      contexts = h.contexts ++ (context_of nums (h.rows + 1) ∷ []);
      fusions = [];
      edges = [];
      wiring = no_wiring;
    }

-- what the text holds with one row more, by the row's letter
unfoldable pub with_row : Held → Row → Held
with_row h r =
    pick (eqb r.letter atom_letter) (with_atom h r.nums)
    (pick (eqb r.letter context_letter) (with_context h r.nums)
    (pick (eqb r.letter fusion_letter) (with_fusion_row h (get_or r.nums 0 0) (get_or r.nums 1 0))
    (pick (eqb r.letter edge_letter) (with_edge_row h (get_or r.nums 0 0) (get_or r.nums 1 0)) (with_head h r.nums))))
