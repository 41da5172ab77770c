-- From a good placing to fillings: the figure filled with the placing's fillings is isomorphic to the sheet.
use Prim.Native.Nat.{ℕ, ◌+◌, ◌≤◌}
use mathlib.Core.Path.{◌≡◌, refl, ap, sym, ◌∙◌, subst}
use mathlib.Core.List.Memᴰ
use mathlib.Core.List.{List, []}
use native.Mathlib.Omega.{arith}
use native.Mathlib.Decide.{ℕ_discrete}
use lib.ListN.{length}
use Rattle.hyperlmntal.specs.Link.{free, ◌∈◌}
use Rattle.hyperlmntal.specs.Hypergraph.{Node, inner, name, Fusion, Connected, stay, along, back, then}
use Rattle.hyperlmntal.specs.DenotedSubstitution.{Spot, outer, within}
use Rattle.hyperlmntal.proofs.Connection.{connected-≡, recast}
use Rattle.hyperlmntal.proofs.TellApart.{some-dec}
use Rattle.reading.specs.Graph.{edge_of}
use Rattle.placing.specs.Net.{NetCell, Net, Range, net_graph, Normal, Apart}
use Rattle.placing.specs.Placing.{Placing, number_at, cell_at, atom_target, link_target, given_to, Taken, Linked, here, step, Good}
use Rattle.placing.specs.Fillings.{Filling, point_row, edge_row, Fits, stands_on, filling_for, fillings_of}
use Rattle.placing.proofs.Lists.{member-at}
use Rattle.placing.proofs.Reduction.{filled}
use Rattle.placing.proofs.Filled.{FilledNode, fig_n, own_n, mark_n, rows_for, Slot, slot-member, Edge, at_mark, at-point, at-port, edge-of, mark-edge, port-edge}
use Rattle.placing.proofs.Standing.{mark-link, port-of-member}
use Rattle.placing.proofs.Orders.{up_to, up-to-in, up-to-out, apart-place}
use Rattle.placing.proofs.FillingsFit.{port-row, edge-port, no-point, stands-there, fillings-fit, rows-found}

-- A good placing of a pattern in a sheet.
pub record Placed : Type 0 where
  pub sheet : Net
  pub figure : Net
  pub placing : Placing
  pub sheet-normal : Normal sheet
  pub no-contexts : sheet.contexts ≡ []
  pub figure-normal : Normal figure
  pub numbers : (c : NetCell) → c ∈ figure.contexts → 1 ≤ c.0
  pub apart : Apart figure.contexts
  pub good : Good sheet figure placing

module _ (C : Placed) where
  abbrev S : Net
  S = C.sheet

  abbrev F : Net
  F = C.figure

  abbrev p : Placing
  p = C.placing

  abbrev pub θ : List Filling
  θ = fillings_of S p F

  abbrev pub fit : Fits F θ
  fit = fillings-fit S p F C.sheet-normal C.figure-normal C.apart C.good

  abbrev pub H : List (Fusion (Spot ℕ ℕ))
  H = (filled F θ).fusions

  abbrev pub K : List (Fusion ℕ)
  K = (net_graph S).fusions

  abbrev Spotted : ℕ → NetCell → Type 0
  Spotted k c = Slot F θ fit k c

  found : (c : NetCell) → c ∈ F.contexts → rows_for F θ fit c ≡ (filling_for S p c).rows
  found c m = rows-found S p F C.sheet-normal C.figure-normal C.apart C.good c m

  pub slot_of : (c : NetCell) → c ∈ F.contexts → (k : ℕ) × Spotted k c
  slot_of c m = let t = member-at F.contexts c m in (length F.atoms + t.0, (t.0, refl, t.2))

  pub one-slot : {k j : ℕ} {c d : NetCell} → Spotted k c → Spotted j d → c.0 ≡ d.0 → k ≡ j
  one-slot {k} {j} {c} {d} s t e = let a : k ≡ length F.atoms + s.0 = s.1 in let b : j ≡ length F.atoms + t.0 = t.1 in let q : s.0 ≡ t.0 = apart-place F.contexts C.apart s.0 t.0 c d s.2 t.2 e in omega arith

  -- A port and the link where it stands.
  pub port-joined : (k : ℕ) (c : NetCell) → Spotted k c → (x : ℕ) → x ∈ c.1 → Connected H (own_n k (stands_on S p x)) (fig_n x)
  port-joined k c s x m =
      let t = port-of-member c.1 x m in
      let z = number_at c.1 t.0 in
      recast (ap (λ z. own_n k (stands_on S p z)) t.2) (ap fig_n t.2)
      (along (port-edge F θ fit k c s (stands_on S p z) t.0 (subst (λ r. edge_row (stands_on S p z) t.0 ∈ r) (sym (found c (slot-member F θ fit s))) (port-row S p c t.0 t.1))))

  pub port-there : (k : ℕ) (c : NetCell) → Spotted k c → (x y : ℕ) → x ∈ c.1 → link_target p x ≡ y → y ≤ S.links → Connected H (own_n k y) (fig_n x)
  port-there k c s x y m e h = recast (ap (own_n k) (stands-there S p x (omega arith) ∙ e)) refl (port-joined k c s x m)

  linked-joined : (y : ℕ) {x x' : ℕ} → Linked S F p y x x' → Connected H (fig_n x) (fig_n x')
  linked-joined y here = stay
  linked-joined y (step {x = x} {x' = x'} s l) =
      let t = slot_of s.row s.of-figure in
      then (then (back (port-there t.0 s.row t.1 x y s.first s.first-at.there s.first-at.sheet-link.1)) (port-there t.0 s.row t.1 x' y s.second s.second_at.there s.second_at.sheet-link.1)) (linked-joined y l)

  -- A figure link that goes to y, and an atom given to a blank that y is a link of.
  abbrev pub Hit : ℕ → Type 0
  Hit y = (x : ℕ) × (x ∈ up_to F.links) × (link_target p x ≡ y)

  abbrev pub Touched : ℕ → Type 0
  Touched y = (j : ℕ) × (j ∈ up_to (length S.atoms)) × ((¬ Taken S F p j) × (y ∈ (cell_at S.atoms j).1))

  pub hit-dec : (y : ℕ) → Dec (Hit y)
  hit-dec y = some-dec (λ x. link_target p x ≡ y) (λ x. ℕ_discrete (link_target p x) y) (up_to F.links)

  pub taken-dec : (j : ℕ) → Dec (Taken S F p j)
  taken-dec j = at (some-dec (λ i. atom_target p i ≡ j) (λ i. ℕ_discrete (atom_target p i) j) (up_to (length F.atoms)))
    where
      at : Dec ((i : ℕ) × (i ∈ up_to (length F.atoms)) × (atom_target p i ≡ j)) → Dec (Taken S F p j)
      at (yes t) = yes (record { by = t.0; of-figure = up-to-out (length F.atoms) t.0 t.1; there = t.2 })
      at (no n) = no (λ t. n (t.by, up-to-in (length F.atoms) t.by t.of-figure, t.there))

  member-dec : (y : ℕ) (l : List ℕ) → Dec (y ∈ l)
  member-dec y l = at (some-dec (λ z. z ≡ y) (λ z. ℕ_discrete z y) l)
    where
      at : Dec ((z : ℕ) × (z ∈ l) × (z ≡ y)) → Dec (y ∈ l)
      at (yes t) = yes (Memᴰ.cast (sym t.2) t.1)
      at (no n) = no (λ m. n (y, m, refl))

  pub touched-dec : (y : ℕ) → Dec (Touched y)
  touched-dec y = some-dec (λ j. (¬ Taken S F p j) × (y ∈ (cell_at S.atoms j).1)) (λ j. at j (taken-dec j) (member-dec y (cell_at S.atoms j).1)) (up_to (length S.atoms))
    where
      at : (j : ℕ) → Dec (Taken S F p j) → Dec (y ∈ (cell_at S.atoms j).1) → Dec ((¬ Taken S F p j) × (y ∈ (cell_at S.atoms j).1))
      at j (yes t) d = no (λ u. u.0 t)
      at j (no n) (yes m) = yes (n, m)
      at j (no n) (no k) = no (λ u. k u.1)

  -- The slot of the context that an atom is given to.
  abbrev pub GivenSlot : ℕ → Type 0
  GivenSlot j = (k : ℕ) × (c : NetCell) × Spotted k c × (c.0 ≡ given_to p j)

  pub given-slot : (j : ℕ) → Range (length S.atoms) j → ¬ Taken S F p j → GivenSlot j
  given-slot j h n = let t = C.good.sending.to-contexts j h n in let u = slot_of t.0 t.1 in (u.0, t.0, u.1, t.2)

  -- The node of the filled figure for a sheet link.
  abbrev pub home_of : (y : ℕ) → Dec (Hit y) → Dec (Touched y) → FilledNode
  home_of y (yes t) d = fig_n t.0
  home_of y (no n) (yes u) = own_n (given-slot u.0 (up-to-out (length S.atoms) u.0 u.1) u.2.0).0 y
  home_of y (no n) (no k) = fig_n 0

  abbrev pub on_sheet : FilledNode → Node ℕ
  on_sheet (inner (outer x)) = inner (stands_on S p x)
  on_sheet (inner (within k n)) = inner n
  on_sheet (name X) = name X

  abbrev pub on_figure : Node ℕ → FilledNode
  on_figure (inner y) = home_of y (hit-dec y) (touched-dec y)
  on_figure (name X) = name X

  pub hit-home : (x y : ℕ) → Range F.links x → link_target p x ≡ y → Range S.links y → Connected H (fig_n x) (on_figure (inner y))
  hit-home x y h e r = at (hit-dec y) (touched-dec y)
    where
      at : (d : Dec (Hit y)) (d' : Dec (Touched y)) → Connected H (fig_n x) (home_of y d d')
      at (yes t) d' = linked-joined y (C.good.linked x t.0 y (record { figure-link = h; sheet-link = r; there = e }) (record { figure-link = up-to-out F.links t.0 t.1; sheet-link = r; there = t.2 }))
      at (no n) d' = absurd (n (x, up-to-in F.links x h, e))

  pub onward : (e : Fusion (Spot ℕ ℕ)) → e ∈ H → Connected K (on_sheet e.0) (on_sheet e.1)
  onward e m = at (edge-of F θ fit e m)
    where
      at : Edge F θ fit e → Connected K (on_sheet e.0) (on_sheet e.1)
      at (at_mark x n i q) =
          let s = C.good.same-marks.onward x n i in
          let r : link_target p x ≤ S.links = (mark-link S C.sheet-normal (link_target p x) n s).1 in
          subst (λ d. Connected K (on_sheet d.0) (on_sheet d.1)) q (recast (ap inner (sym (stands-there S p x r))) refl (along {a = inner (link_target p x)} {b = name (free n)} (Memᴰ.map edge_of s)))
      at (at-point k c s a b i q) = absurd (no-point S p c a b (subst (λ r. point_row a b ∈ r) (found c (slot-member F θ fit s)) i))
      at (at-port k c s a i j q) = subst (λ d. Connected K (on_sheet d.0) (on_sheet d.1)) q (connected-≡ K (ap inner (edge-port S p c a i (subst (λ r. edge_row a i ∈ r) (found c (slot-member F θ fit s)) j)).1))

  pub backward : (e : Fusion ℕ) → e ∈ K → Connected H (on_figure e.0) (on_figure e.1)
  backward e m = let t : (q : ℕ × ℕ) × (q ∈ S.marks) × (edge_of q ≡ e) = Memᴰ.of_map edge_of S.marks m in subst (λ d. Connected H (on_figure d.0) (on_figure d.1)) t.2 (at t.0.0 t.0.1 t.1)
    where
      at : (y n : ℕ) → (y, n) ∈ S.marks → Connected H (on_figure (inner y)) (mark_n n)
      at y n i =
          let u = C.good.same-marks.backward y n i in
          let e = C.sheet-normal.one_link (link_target p u.0) y n (C.good.same-marks.onward u.0 n u.1) i in
          then (back (hit-home u.0 y (mark-link F C.figure-normal u.0 n u.1) e (mark-link S C.sheet-normal y n i))) (along (mark-edge F θ fit u.0 n u.1))
