-- Where the links of a net stand.
use Prim.Native.Nat.{ℕ, suc, ◌-◌, ◌≤◌, ◌<◌}
use mathlib.Core.Path.{◌≡◌, refl, ap, sym, ◌∙◌, subst}
use mathlib.Core.Logic.{◌⊎◌, inl, inr, ◌↔◌}
use mathlib.Core.List.Memᴰ
use mathlib.Core.List.{List, [], ◌∷◌, ◌++◌, map}
use native.Mathlib.Omega.{arith}
use lib.ListN.{length, get_or}
use Rattle.hyperlmntal.specs.Link.{free, ◌∈◌}
use Rattle.hyperlmntal.specs.Hypergraph.{Node, inner, name, Fusion, Connected, along, back}
use Rattle.hyperlmntal.proofs.Connection.{connected-ind, connected-≡, recast}
use Rattle.reading.specs.Graph.{edge_of}
use Rattle.placing.specs.Net.{NetCell, Net, Range, cell_links, mark_links, net_graph, Normal}
use Rattle.placing.specs.Placing.{number_at, cell_at}
use Rattle.placing.proofs.Lists.{member-at, get_d_of}
use Rattle.reading.proofs.normal.Merging.{get_d-in}

pub in_cells : (l : List NetCell) (c : NetCell) (x : ℕ) → c ∈ l → x ∈ c.1 → x ∈ cell_links l
in_cells [] c x m i = absurd (Memᴰ.not-nil m)
in_cells (d ∷ l) c x m i = at (Memᴰ.cases_cons m) (λ k. in_cells l c x k i)
  where
    at : (c ≡ d) ⊎ (c ∈ l) → (c ∈ l → x ∈ cell_links l) → x ∈ d.1 ++ cell_links l
    at (inl e) f = Memᴰ.append_left (cell_links l) (subst (λ c. x ∈ c.1) e i)
    at (inr k) f = Memᴰ.append_right d.1 (f k)

pub of-cells : (l : List NetCell) (x : ℕ) → x ∈ cell_links l → (c : NetCell) × (c ∈ l) × (x ∈ c.1)
of-cells [] x m = absurd (Memᴰ.not-nil m)
of-cells (c ∷ l) x m = at (Memᴰ.append_cases c.1 m) (of-cells l x)
  where
    at : (x ∈ c.1) ⊎ (x ∈ cell_links l) → (x ∈ cell_links l → (d : NetCell) × (d ∈ l) × (x ∈ d.1)) → (d : NetCell) × (d ∈ (c ∷ l)) × (x ∈ d.1)
    at (inl i) f = (c, Memᴰ.head refl, i)
    at (inr i) f = let t = f i in (t.0, Memᴰ.tail t.1, t.2)

in-marks : (l : List (ℕ × ℕ)) (x m : ℕ) → (x, m) ∈ l → x ∈ mark_links l
in-marks [] x m i = absurd (Memᴰ.not-nil i)
in-marks (e ∷ l) x m i = at (Memᴰ.cases_cons i) (in-marks l x m)
  where
    at : ((x, m) ≡ e) ⊎ ((x, m) ∈ l) → ((x, m) ∈ l → x ∈ mark_links l) → x ∈ (e.0 ∷ mark_links l)
    at (inl p) f = Memᴰ.head (ap (λ q. q.0) p)
    at (inr k) f = Memᴰ.tail (f k)

pub of-marks : (l : List (ℕ × ℕ)) (x : ℕ) → x ∈ mark_links l → (m : ℕ) × ((x, m) ∈ l)
of-marks [] x i = absurd (Memᴰ.not-nil i)
of-marks (e ∷ l) x i = at (Memᴰ.cases_cons i) (of-marks l x)
  where
    at : (x ≡ e.0) ⊎ (x ∈ mark_links l) → (x ∈ mark_links l → (m : ℕ) × ((x, m) ∈ l)) → (m : ℕ) × ((x, m) ∈ (e ∷ l))
    at (inl p) f = (e.1, Memᴰ.head (ap (λ y. (y, e.1)) p))
    at (inr k) f = let t = f k in (t.0, Memᴰ.tail t.1)

module _ (N : Net) (normal : Normal N) where
  pub atom-link : (c : NetCell) (x : ℕ) → c ∈ N.atoms → x ∈ c.1 → Range N.links x
  atom-link c x m i = normal.numbered x (Memᴰ.append_left (cell_links N.contexts ++ mark_links N.marks) (in_cells N.atoms c x m i))

  pub context-link : (c : NetCell) (x : ℕ) → c ∈ N.contexts → x ∈ c.1 → Range N.links x
  context-link c x m i = normal.numbered x (Memᴰ.append_right (cell_links N.atoms) (Memᴰ.append_left (mark_links N.marks) (in_cells N.contexts c x m i)))

  pub mark-link : (x m : ℕ) → (x, m) ∈ N.marks → Range N.links x
  mark-link x m i = normal.numbered x (Memᴰ.append_right (cell_links N.atoms) (Memᴰ.append_right (cell_links N.contexts) (in-marks N.marks x m i)))

  -- A node of the net's hypergraph is at link y.
  pub data Sits (b : Node ℕ) (y : ℕ) : Type 0 where
    on-link : b ≡ inner y → Range N.links y → Sits b y
    on-mark : (m : ℕ) → b ≡ name (free m) → (y, m) ∈ N.marks → Sits b y

  pub sits-real : {b : Node ℕ} {y : ℕ} → Sits b y → Range N.links y
  sits-real (on-link e r) = r
  sits-real {y = y} (on-mark m e i) = mark-link y m i

  pub sits-to : {b : Node ℕ} {y : ℕ} → Sits b y → Connected (net_graph N).fusions b (inner y)
  sits-to (on-link e r) = connected-≡ _ e
  sits-to {y = y} (on-mark m e i) = recast (sym e) refl (back (along {a = inner y} {b = name (free m)} (Memᴰ.map edge_of i)))

  sits-edge : (y x m : ℕ) → (x, m) ∈ N.marks → Sits (inner x) y ↔ Sits (name (free m)) y
  sits-edge y x m i = (onward, backward)
    where
      onward : Sits (inner x) y → Sits (name (free m)) y
      onward (on-link e r) = on-mark m refl (Memᴰ.cast (ap (λ z. (z, m)) (let q : y ≡ x = cc in q)) i)
      onward (on-mark k e j) = absurd (let z : ◌≡◌ {A = ℕ} 0 1 = cc in omega arith)

      backward : Sits (name (free m)) y → Sits (inner x) y
      backward (on-link e r) = absurd (let z : ◌≡◌ {A = ℕ} 0 1 = cc in omega arith)
      backward (on-mark k e j) = on-link (ap inner (normal.one_link x y m i (Memᴰ.cast (ap (λ z. (y, z)) (let q : m ≡ k = cc in q)) j))) (mark-link y k j)

  pub sits-move : {a b : Node ℕ} {y : ℕ} → Connected (net_graph N).fusions a b → Sits a y → Sits b y
  sits-move {a} {b} {y} c = (connected-ind (net_graph N).fusions (λ n. Sits n y) edge c).0
    where
      edge : (e : Fusion ℕ) → e ∈ map edge_of N.marks → Sits e.0 y ↔ Sits e.1 y
      edge e m = let t : (q : ℕ × ℕ) × (q ∈ N.marks) × (edge_of q ≡ e) = Memᴰ.of_map edge_of N.marks m in subst (λ d. Sits d.0 y ↔ Sits d.1 y) t.2 (sits-edge y t.0.0 t.0.1 t.1)

  pub sits-one : {b : Node ℕ} {y z : ℕ} → Sits b y → Sits b z → y ≡ z
  sits-one (on-link e r) (on-link p s) = cc
  sits-one (on-link e r) (on-mark k p i) = absurd (let z : ◌≡◌ {A = ℕ} 0 1 = cc in omega arith)
  sits-one (on-mark k e i) (on-link p s) = absurd (let z : ◌≡◌ {A = ℕ} 0 1 = cc in omega arith)
  sits-one {y = y} {z = z} (on-mark k e i) (on-mark j p h) = normal.one_link y z k i (Memᴰ.cast (ap (λ m. (z, m)) (let q : k ≡ j = cc in q)) h)

-- Members of a list by their places from 1.
pub cell_in : (l : List NetCell) (i : ℕ) → Range (length l) i → cell_at l i ∈ l
cell_in l i h = let a : 1 ≤ i = h.0 in let b : i ≤ length l = h.1 in get_d-in l (i - 1) (0, []) (omega arith)

-- The links of an atom by its place.
pub place-link : (N : Net) → Normal N → (j y : ℕ) → Range (length N.atoms) j → y ∈ (cell_at N.atoms j).1 → Range N.links y
place-link N normal j y h m = atom-link N normal (cell_at N.atoms j) y (cell_in N.atoms j h) m

pub port-in : (l : List ℕ) (i : ℕ) → Range (length l) i → number_at l i ∈ l
port-in l i h = let a : 1 ≤ i = h.0 in let b : i ≤ length l = h.1 in get_d-in l (i - 1) 0 (omega arith)

pub port-of-member : (l : List ℕ) (x : ℕ) → x ∈ l → (i : ℕ) × Range (length l) i × (number_at l i ≡ x)
port-of-member l x m = let t = member-at l x m in let h : t.0 < length l = t.1 in (suc t.0, (omega arith, omega arith), ap (λ j. get_or l j 0) (let q : suc t.0 - 1 ≡ t.0 = omega arith in q) ∙ get_d_of l t.0 0 x t.2)
