-- Document 01, 'Normal text': the normal form of a hypergraph, such as a sheet or a figure.
use Rattle.std.specs.Prelude.{ℕ, suc, ◌+◌, ◌*◌, List, [], ◌∷◌, ◌++◌, map, eqb, ltb}
use Rattle.hyperlmntal.specs.Link.{local, free}
use Rattle.hyperlmntal.specs.Hypergraph.{Node, inner, name, Fusion, Flat, port_nodes, nodes, map_cell}
use Rattle.rows.specs.Pick.{pick}
use Rattle.rows.specs.Held.{index_of, relabelled}

-- a number for each node, and no two nodes with one number
abbrev pub own_class : Node ℕ → ℕ
own_class (inner n) = 3 * n
own_class (name (local n)) = 3 * n + 1
own_class (name (free m)) = 3 * m + 2

-- 'Joints that F rows or equal marks bring together are one class.' Both are fusions, an E row's of its joint with its mark.
-- Without fusions each node is a class of its own; a fusion gives its first end's class to all that is in its second end's.
unfoldable pub class_of : List (Fusion ℕ) → Node ℕ → ℕ
class_of [] x = own_class x
class_of (e ∷ E) x = relabelled (class_of E e.1) (class_of E e.0) (class_of E x)

-- ascending numbers with m in its place among them, once
unfoldable pub inserted : ℕ → List ℕ → List ℕ
inserted m [] = m ∷ []
inserted m (k ∷ l) = pick (ltb m k) (m ∷ k ∷ l) (pick (eqb m k) (k ∷ l) (k ∷ inserted m l))

abbrev pub mark_node : ℕ → Node ℕ
mark_node m = name (free m)

-- the marks among nodes, each once, ascending
unfoldable pub marks_among : List (Node ℕ) → List ℕ
marks_among [] = []
marks_among (inner n ∷ l) = marks_among l
marks_among (name (local n) ∷ l) = marks_among l
marks_among (name (free m) ∷ l) = inserted m (marks_among l)

abbrev pub marks_of : Flat ℕ → List ℕ
marks_of F = marks_among (nodes F)

-- the nodes by whose order the classes are numbered: the ports in the order of the S and B rows, then the marks, ascending.
-- 'A class with no symbol, blank or mark vanishes': none of its nodes is here.
abbrev pub shown : Flat ℕ → List (Node ℕ)
shown F = port_nodes F.atoms ++ map mark_node (marks_of F)

-- the numbers of a list other than x
unfoldable pub others : ℕ → List ℕ → List ℕ
others x [] = []
others x (y ∷ l) = pick (eqb y x) (others x l) (y ∷ others x l)

-- each number of a list once, in the order in which they first appear
unfoldable pub distinct : List ℕ → List ℕ
distinct [] = []
distinct (x ∷ l) = x ∷ others x (distinct l)

-- by any labels of the nodes, two of which are to be equal exactly on nodes of one class: the labels of the classes in order,
-- 'by first appearance in the S and B rows, then those with marks only by least mark'
unfoldable pub classes_by : (Node ℕ → ℕ) → Flat ℕ → List ℕ
classes_by label F = distinct (map label (shown F))

-- 'Classes are numbered from 1'
unfoldable pub number_by : (Node ℕ → ℕ) → Flat ℕ → Node ℕ → ℕ
number_by label F x = suc (index_of (label x) (classes_by label F))

abbrev pub numbered_by : (Node ℕ → ℕ) → Flat ℕ → Node ℕ → Node ℕ
numbered_by label F x = inner (number_by label F x)

abbrev pub marked_by : (Node ℕ → ℕ) → Flat ℕ → ℕ → Fusion ℕ
marked_by label F m = (numbered_by label F (mark_node m), mark_node m)

-- 'S rows in their order, then B rows in theirs, then one E row per mark, ascending; no F'
unfoldable pub normal_form_by : (Node ℕ → ℕ) → Flat ℕ → Flat ℕ
normal_form_by label F = record { atoms = map (map_cell (numbered_by label F)) F.atoms; fusions = map (marked_by label F) (marks_of F) }

-- the normal form, by the classes that the fusions make
unfoldable pub normal_form : Flat ℕ → Flat ℕ
normal_form F = normal_form_by (class_of F.fusions) F
