-- Document 01, 'A placing' and 'Rows': the bytes of a list of fillings, as they are written from arrays.
use Rattle.std.specs.Prelude.{ℕ, zero, suc, ◌+◌, ◌-◌, ◌<◌, ◌≤◌, List, [], ◌∷◌, ◌++◌, map, Bool, eqb, ltb, length, take, get_or}
use Rattle.rows.specs.Format.{most_name, most_number}
use Rattle.rows.specs.Pick.{pick}
use Rattle.rows.specs.Held.{index_of}
use Rattle.writing.specs.RowText.{row_bytes}
use Rattle.rows.specs.declared.Atom.{Atom}
use Rattle.rows.specs.declared.Context.{Context}
use Rattle.reading.specs.Normal.{distinct}
use Rattle.rows.specs.declared.Sheet as form
use Rattle.placing.specs.Net.{NetCell, cell_links}
use Rattle.placing.specs.Placing.{Placing}
use Rattle.placing.specs.Fillings.{normal_fillings_of}
use Rattle.placing.specs.ListText.{list_text}
use Rattle.network.specs.NetIn.{net_in, atom_in, context_in, atom_at, context_at, Used}

-- no context has more links than a row
abbrev pub Narrow : form.Sheet → Type 0
Narrow figure = (i : ℕ) → i < figure.context_count → Used figure.class_count (context_at figure i).count (context_at figure i).links

-- a name has three digits at most and the number of a context four, so that they and its links fit the columns of a row
pub record Columns (sheet figure : form.Sheet) : Type 0 where
  pub names : (i : ℕ) → i < sheet.atom_count → (atom_at sheet i).name ≤ most_name
  pub numbers : (i : ℕ) → i < figure.context_count → (context_at figure i).number ≤ most_number
  pub ports : Narrow figure

-- the placing whose links and contexts stand in arrays; where atoms go plays no part in its fillings
abbrev pub placing_in : form.Sheet → form.Sheet → List ℕ → List ℕ → List ℕ → Placing
placing_in sheet figure atoms links given = record { atoms_to = atoms; links_to = take figure.class_count links; given = take sheet.atom_count given }

-- the text of its list of fillings
abbrev pub fillings_text : form.Sheet → form.Sheet → List ℕ → List ℕ → List ℕ → List ℕ
fillings_text sheet figure atoms links given = list_text (normal_fillings_of (net_in sheet) (placing_in sheet figure atoms links given) (net_in figure))

-- the number of a link in a table
abbrev pub number_in : List ℕ → ℕ → ℕ
number_in numbers x = get_or numbers x 0

-- S rows of atoms, whose links are numbered by f
abbrev pub symbol_bytes : (ℕ → ℕ) → NetCell → List ℕ
symbol_bytes f c = row_bytes 83 (c.0 ∷ length c.1 ∷ map f c.1)

unfoldable pub symbols_bytes : (ℕ → ℕ) → List NetCell → List ℕ
symbols_bytes f [] = []
symbols_bytes f (c ∷ l) = symbol_bytes f c ++ symbols_bytes f l

-- E rows of the links where ports stand, from port i on
abbrev pub port_bytes : (ℕ → ℕ) → ℕ → ℕ → List ℕ
port_bytes f i x = row_bytes 69 (f x ∷ i ∷ [])

unfoldable pub ports_bytes : (ℕ → ℕ) → ℕ → List ℕ → List ℕ
ports_bytes f i [] = []
ports_bytes f i (x ∷ l) = port_bytes f i x ++ ports_bytes f (suc i) l

-- an atom, where it is given
abbrev pub cell_if : Bool → Atom → List NetCell
cell_if given a = pick given (atom_in a ∷ []) []

-- sheet atom i, from 0, where it is given to context k
abbrev pub given_at : form.Sheet → List ℕ → ℕ → ℕ → List NetCell
given_at sheet given k i = cell_if (eqb (get_or given i 0) k) (atom_at sheet i)

-- those below a place
unfoldable pub given_below : form.Sheet → List ℕ → ℕ → ℕ → List NetCell
given_below sheet given k zero = []
given_below sheet given k (suc i) = given_below sheet given k i ++ given_at sheet given k i

abbrev pub given_cells : form.Sheet → List ℕ → ℕ → List NetCell
given_cells sheet given k = given_below sheet given k sheet.atom_count

-- where the port of figure link x stands, on a sheet with n links
abbrev pub stands_at : ℕ → List ℕ → ℕ → ℕ
stands_at n links_to x = pick (ltb n (get_or links_to (x - 1) 0)) (n + x) (get_or links_to (x - 1) 0)

abbrev pub port_links : form.Sheet → List ℕ → List ℕ → List ℕ
port_links sheet links_to l = map (stands_at sheet.class_count links_to) l

-- the links of a filling with these atoms and ports, in the order in which they appear
abbrev pub appearing : List NetCell → List ℕ → List ℕ
appearing cells ports = cell_links cells ++ ports

-- 'Classes are numbered from 1 by first appearance'
abbrev pub number_among : List ℕ → ℕ → ℕ
number_among l x = suc (index_of x (distinct l))

-- the rows of a filling: H, then S, then E
abbrev pub rows_bytes : (ℕ → ℕ) → ℕ → List NetCell → List ℕ → List ℕ
rows_bytes f k cells ports = row_bytes 72 (k ∷ length ports ∷ []) ++ (symbols_bytes f cells ++ ports_bytes f 1 ports)

unfoldable pub filling_bytes : form.Sheet → List ℕ → List ℕ → NetCell → List ℕ
filling_bytes sheet links_to given c =
    rows_bytes (number_among (appearing (given_cells sheet given c.0) (port_links sheet links_to c.1))) c.0 (given_cells sheet given c.0) (port_links sheet links_to c.1)

unfoldable pub list_bytes : form.Sheet → List ℕ → List ℕ → List NetCell → List ℕ
list_bytes sheet links_to given [] = []
list_bytes sheet links_to given (c ∷ l) = filling_bytes sheet links_to given c ++ list_bytes sheet links_to given l

-- the first n contexts of an array
abbrev pub cells_in : ℕ → List Context → List NetCell
cells_in n l = map context_in (take n l)

-- how many contexts have a smaller number
unfoldable pub below : ℕ → List NetCell → ℕ
below n [] = 0
below n (c ∷ l) = pick (ltb c.0 n) (suc (below n l)) (below n l)
