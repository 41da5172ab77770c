-- The vertices and fusions of nets and of rows, and their free links, which are marks.
use Prim.Native.Nat.{ℕ, zero, suc, ◌+◌, ◌≤◌, ◌<◌}
use mathlib.Core.Path.{◌≡◌, refl, ap, subst}
use mathlib.Core.Logic.{◌⊎◌, inl, inr, ◌↔◌}
use mathlib.Core.List.Memᴰ
use mathlib.Core.List.{List, [], ◌∷◌, map}
use native.Mathlib.Omega.{arith}
use native.Mathlib.Decide.{ℕ_discrete}
use lib.ListN.{length}
use Rattle.hyperlmntal.specs.Link.{Link, free, ◌∈◌}
use Rattle.hyperlmntal.specs.GraphSubstitution.{Entry, Distinct, Exact, AllExact}
use Rattle.hyperlmntal.specs.Hypergraph.{Node, inner, name, Cell, Fusion, Flat, port_nodes, end_nodes, nodes}
use Rattle.hyperlmntal.specs.TermOf.{term_of, Marked}
use Rattle.hyperlmntal.proofs.Lists.{all_map, all_append}
use Rattle.hyperlmntal.proofs.Flats.{on-fusions, ends-in}
use Rattle.hyperlmntal.proofs.FreeNames.{flat-names}
use Rattle.hyperlmntal.proofs.Denoting.{term_of-names}
use Rattle.hyperlmntal.proofs.ExactPorts.{ExactFlat}
use Rattle.reading.specs.Graph.{fusion_of, edge_of}
use Rattle.reading.proofs.normal.NormalNodes.{ends_of}
use Rattle.reading.proofs.normal.TextGraph.{port-of}
use Rattle.placing.specs.Net.{Net, atom_vertex, context_vertex, net_graph}
use Rattle.placing.specs.Fillings.{Row, symbol_row, point_row, edge_row, rows_graph, Filling, ExactMarks, Fits}
use Rattle.placing.specs.Holding.{marks_from, entry_of, substitution_of}
use Rattle.placing.specs.Filled.{flat_entry}
use Rattle.placing.specs.ListFits.{symbols_in}

-- A port of a row is no free link.
no_name : (X : Link) (l : List ℕ) → ¬ (◌∈◌ {A = Node ℕ} (name X) (map inner l))
no_name X l m =
    let t : (n : ℕ) × (n ∈ l) × (◌≡◌ {A = Node ℕ} (inner n) (name X)) = Memᴰ.of_map inner l m in
    let p : ◌≡◌ {A = Node ℕ} (inner t.0) (name X) = t.2 in
    let z : ◌≡◌ {A = ℕ} 0 1 = cc in
    omega arith

-- A hypergraph without free links at its ports, whose fusions have them where H says.
names-by : (F : Flat ℕ) (H : Link → Type 0) → ((c : Cell ℕ) → c ∈ F.atoms → (X : Link) → ¬ (name X ∈ c.ports))
    → ((d : Fusion ℕ) → d ∈ F.fusions → (X : Link) → (name X ≡ d.0) ⊎ (name X ≡ d.1) → H X) → (X : Link) → name X ∈ nodes F → H X
names-by F H f g X i = side (Memᴰ.append_cases (port_nodes F.atoms) i)
  where
    side : (name X ∈ port_nodes F.atoms) ⊎ (name X ∈ end_nodes F.fusions) → H X
    side (inl j) = let t = port-of F.atoms (name X) j in absurd (f t.0 t.1 X t.2)
    side (inr j) = let t = ends_of F.fusions (name X) j in g t.0 t.1 X t.2

edge-name : (X : Link) (x m : ℕ) → (◌≡◌ {A = Node ℕ} (name X) (inner x)) ⊎ (◌≡◌ {A = Node ℕ} (name X) (name (free m))) → X ≡ free m
edge-name X x m (inl p) = absurd (let z : ◌≡◌ {A = ℕ} 0 1 = cc in omega arith)
edge-name X x m (inr p) = cc

-- The free links of a net are its marks.
abbrev pub MarkOf : Net → Link → Type 0
MarkOf N X = (x : ℕ) × (m : ℕ) × ((x, m) ∈ N.marks) × (X ≡ free m)

pub net-name : (N : Net) (X : Link) → name X ∈ nodes (net_graph N) → MarkOf N X
net-name N = names-by (net_graph N) (MarkOf N) bare end
  where
    bare : (c : Cell ℕ) → c ∈ (net_graph N).atoms → (X : Link) → ¬ (name X ∈ c.ports)
    bare = all_append (map atom_vertex N.atoms) (map context_vertex N.contexts) (λ c. (X : Link) → ¬ (name X ∈ c.ports))
        (all_map atom_vertex N.atoms (λ c. (X : Link) → ¬ (name X ∈ c.ports)) (λ c i X. no_name X c.1))
        (all_map context_vertex N.contexts (λ c. (X : Link) → ¬ (name X ∈ c.ports)) (λ c i X. no_name X c.1))

    end : (d : Fusion ℕ) → d ∈ (net_graph N).fusions → (X : Link) → (name X ≡ d.0) ⊎ (name X ≡ d.1) → MarkOf N X
    end = all_map edge_of N.marks (λ d. (X : Link) → (name X ≡ d.0) ⊎ (name X ≡ d.1) → MarkOf N X) (λ e i X s. (e.0, e.1, i, edge-name X e.0 e.1 s))

pub name-net : (N : Net) (x m : ℕ) → (x, m) ∈ N.marks → name (free m) ∈ nodes (net_graph N)
name-net N x m i = on-fusions (net_graph N) (ends-in {e = edge_of (x, m)} (Memᴰ.map edge_of i)).1

pub net-marked : (N : Net) → Marked (net_graph N)
net-marked N X i = let t = net-name N X i in (t.1, t.3)

-- The atoms of the hypergraph of rows.
pub rows-atoms : (r : List Row) → (rows_graph r).atoms ≡ map atom_vertex (symbols_in r)
rows-atoms [] = refl
rows-atoms (symbol_row a l ∷ r) = ap (λ k. atom_vertex (a, l) ∷ k) (rows-atoms r)
rows-atoms (point_row x y ∷ r) = rows-atoms r
rows-atoms (edge_row x m ∷ r) = rows-atoms r

-- The fusions of rows.
pub data FusionOf (r : List Row) (d : Fusion ℕ) : Type 0 where
  of-point : (x y : ℕ) → point_row x y ∈ r → d ≡ fusion_of (x, y) → FusionOf r d
  of-edge : (x m : ℕ) → edge_row x m ∈ r → d ≡ edge_of (x, m) → FusionOf r d

later : {a : Row} {r : List Row} {d : Fusion ℕ} → FusionOf r d → FusionOf (a ∷ r) d
later (of-point x y i e) = of-point x y (Memᴰ.tail i) e
later (of-edge x m i e) = of-edge x m (Memᴰ.tail i) e

pub rows-fusion : (r : List Row) (d : Fusion ℕ) → d ∈ (rows_graph r).fusions → FusionOf r d
rows-fusion [] d i = absurd (Memᴰ.not-nil i)
rows-fusion (symbol_row a l ∷ r) d i = later (rows-fusion r d i)
rows-fusion (point_row x y ∷ r) d i = at (Memᴰ.cases_cons i) (rows-fusion r d)
  where
    at : (d ≡ fusion_of (x, y)) ⊎ (d ∈ (rows_graph r).fusions) → (d ∈ (rows_graph r).fusions → FusionOf r d) → FusionOf (point_row x y ∷ r) d
    at (inl e) f = of-point x y (Memᴰ.head refl) e
    at (inr j) f = later (f j)
rows-fusion (edge_row x m ∷ r) d i = at (Memᴰ.cases_cons i) (rows-fusion r d)
  where
    at : (d ≡ edge_of (x, m)) ⊎ (d ∈ (rows_graph r).fusions) → (d ∈ (rows_graph r).fusions → FusionOf r d) → FusionOf (edge_row x m ∷ r) d
    at (inl e) f = of-edge x m (Memᴰ.head refl) e
    at (inr j) f = later (f j)

pub fusion-rows : (r : List Row) (x m : ℕ) → edge_row x m ∈ r → edge_of (x, m) ∈ (rows_graph r).fusions
fusion-rows [] x m i = absurd (Memᴰ.not-nil i)
fusion-rows (symbol_row a l ∷ r) x m i = at (Memᴰ.cases_cons i) (fusion-rows r x m)
  where
    at : (edge_row x m ≡ symbol_row a l) ⊎ (edge_row x m ∈ r) → (edge_row x m ∈ r → edge_of (x, m) ∈ (rows_graph r).fusions) → edge_of (x, m) ∈ (rows_graph r).fusions
    at (inl e) f = absurd (let z : ◌≡◌ {A = ℕ} 0 1 = cc in omega arith)
    at (inr j) f = f j
fusion-rows (point_row a b ∷ r) x m i = at (Memᴰ.cases_cons i) (fusion-rows r x m)
  where
    at : (edge_row x m ≡ point_row a b) ⊎ (edge_row x m ∈ r) → (edge_row x m ∈ r → edge_of (x, m) ∈ (rows_graph r).fusions) → edge_of (x, m) ∈ (fusion_of (a, b) ∷ (rows_graph r).fusions)
    at (inl e) f = absurd (let z : ◌≡◌ {A = ℕ} 0 1 = cc in omega arith)
    at (inr j) f = Memᴰ.tail (f j)
fusion-rows (edge_row a b ∷ r) x m i = at (Memᴰ.cases_cons i) (fusion-rows r x m)
  where
    at : (edge_row x m ≡ edge_row a b) ⊎ (edge_row x m ∈ r) → (edge_row x m ∈ r → edge_of (x, m) ∈ (rows_graph r).fusions) → edge_of (x, m) ∈ (edge_of (a, b) ∷ (rows_graph r).fusions)
    at (inl e) f = let p : x ≡ a = cc in let q : m ≡ b = cc in Memᴰ.head (λ i. edge_of (p i, q i))
    at (inr j) f = Memᴰ.tail (f j)

-- The free links of rows are the marks of their edges.
abbrev pub EdgeOf : List Row → Link → Type 0
EdgeOf r X = (x : ℕ) × (m : ℕ) × (edge_row x m ∈ r) × (X ≡ free m)

pub rows-name : (r : List Row) (X : Link) → name X ∈ nodes (rows_graph r) → EdgeOf r X
rows-name r = names-by (rows_graph r) (EdgeOf r) bare (λ d i X s. end d X s (rows-fusion r d i))
  where
    bare : (c : Cell ℕ) → c ∈ (rows_graph r).atoms → (X : Link) → ¬ (name X ∈ c.ports)
    bare c i = all_map atom_vertex (symbols_in r) (λ c. (X : Link) → ¬ (name X ∈ c.ports)) (λ c j X. no_name X c.1) c (subst (λ l. c ∈ l) (rows-atoms r) i)

    end : (d : Fusion ℕ) (X : Link) → (name X ≡ d.0) ⊎ (name X ≡ d.1) → FusionOf r d → EdgeOf r X
    end d X s (of-point x y i e) = absurd (neither (subst (λ d. (name X ≡ d.0) ⊎ (name X ≡ d.1)) e s))
      where
        neither : (◌≡◌ {A = Node ℕ} (name X) (inner x)) ⊎ (◌≡◌ {A = Node ℕ} (name X) (inner y)) → ⊥
        neither (inl p) = let z : ◌≡◌ {A = ℕ} 0 1 = cc in omega arith
        neither (inr p) = let z : ◌≡◌ {A = ℕ} 0 1 = cc in omega arith
    end d X s (of-edge x m i e) = (x, m, i, edge-name X x m (subst (λ d. (name X ≡ d.0) ⊎ (name X ≡ d.1)) e s))

pub name-rows : (r : List Row) (x m : ℕ) → edge_row x m ∈ r → name (free m) ∈ nodes (rows_graph r)
name-rows r x m i = on-fusions (rows_graph r) (ends-in {e = edge_of (x, m)} (fusion-rows r x m i)).1

pub rows-marked : (r : List Row) → Marked (rows_graph r)
rows-marked r X i = let t = rows-name r X i in (t.1, t.3)

-- The ports of a filling.
pub marks-in : (s n m : ℕ) → s ≤ m → m < s + n → free m ∈ marks_from s n
marks-in s zero m p q = absurd (omega arith)
marks-in s (suc n) m p q = at (ℕ_discrete m s) (λ h. marks-in (suc s) n m h (omega arith))
  where
    at : Dec (m ≡ s) → (suc s ≤ m → free m ∈ marks_from (suc s) n) → free m ∈ (free s ∷ marks_from (suc s) n)
    at (yes e) f = Memᴰ.head (ap free e)
    at (no k) f = Memᴰ.tail (f (omega arith))

pub marks-out : (s n : ℕ) (X : Link) → X ∈ marks_from s n → (m : ℕ) × (s ≤ m) × (m < s + n) × (X ≡ free m)
marks-out s zero X i = absurd (Memᴰ.not-nil i)
marks-out s (suc n) X i = at (Memᴰ.cases_cons i) (marks-out (suc s) n X)
  where
    at : (X ≡ free s) ⊎ (X ∈ marks_from (suc s) n) → (X ∈ marks_from (suc s) n → (m : ℕ) × (suc s ≤ m) × (m < suc s + n) × (X ≡ free m)) → (m : ℕ) × (s ≤ m) × (m < s + suc n) × (X ≡ free m)
    at (inl e) f = (s, omega arith, omega arith, e)
    at (inr j) f = let t = f j in let a : suc s ≤ t.0 = t.1 in let b : t.0 < suc s + n = t.2 in (t.0, omega arith, omega arith, t.3)

pub marks-length : (s n : ℕ) → length (marks_from s n) ≡ n
marks-length s zero = refl
marks-length s (suc n) = ap suc (marks-length (suc s) n)

marks-distinct : (s n : ℕ) → Distinct (marks_from s n)
marks-distinct s zero = tt
marks-distinct s (suc n) = (λ i. let t = marks-out (suc s) n (free s) i in let a : suc s ≤ t.0 = t.1 in let e : free s ≡ free t.0 = t.3 in let q : s ≡ t.0 = cc in omega arith, marks-distinct (suc s) n)

-- A filling with exactly its ports as marks, as a hypergraph and as an entry of a graph substitution.
exact-names : (n : ℕ) (r : List Row) → ExactMarks n r → (X : Link) → (name X ∈ nodes (rows_graph r)) ↔ (X ∈ marks_from 1 n)
exact-names n r x X = (onward, backward)
  where
    onward : name X ∈ nodes (rows_graph r) → X ∈ marks_from 1 n
    onward i = let t = rows-name r X i in let w = x.within t.0 t.1 t.2 in let b : t.1 ≤ n = w.1 in Memᴰ.cast t.3 (marks-in 1 n t.1 w.0 (omega arith))

    backward : X ∈ marks_from 1 n → name X ∈ nodes (rows_graph r)
    backward i = let t = marks-out 1 n X i in let b : t.0 < 1 + n = t.2 in let w = x.every t.0 (t.1, omega arith) in Memᴰ.cast (ap name t.3) (name-rows r w.0 t.0 w.1)

pub exact-flat : (f : Filling) → ExactMarks f.ports f.rows → ExactFlat (flat_entry f)
exact-flat f x = record { distinct = marks-distinct 1 f.ports; names = exact-names f.ports f.rows x }

pub exact-entry : (f : Filling) → ExactMarks f.ports f.rows → Exact (entry_of f)
exact-entry f x = record { distinct = marks-distinct 1 f.ports; names = λ X. let a = flat-names (term_of (rows_graph f.rows)) X in let b = term_of-names (rows_graph f.rows) (rows-marked f.rows) X in let c = exact-names f.ports f.rows x X in (λ i. c.0 (b.1 (a.0 i)), λ i. a.1 (b.0 (c.1 i))) }

pub all-exact : (F : Net) (θ : List Filling) → Fits F θ → AllExact (substitution_of θ)
all-exact F θ fit = all_map entry_of θ Exact (λ f i. exact-entry f (fit.exact f i))

pub all-exact-flat : (F : Net) (θ : List Filling) → Fits F θ → (e : Entry (Flat ℕ)) → e ∈ map flat_entry θ → ExactFlat e
all-exact-flat F θ fit = all_map flat_entry θ ExactFlat (λ f i. exact-flat f (fit.exact f i))
