-- From fillings to a placing: where the figure's links go, and the placing.
use Prim.Native.Nat.{ℕ, zero, suc, ◌+◌, ◌-◌, ◌≤◌, ◌<◌}
use mathlib.Core.Path.{◌≡◌, refl, ap, sym, ◌∙◌, subst}
use mathlib.Core.Logic.{◌⊎◌, inl, inr}
use mathlib.Core.List.Memᴰ
use mathlib.Core.List.{[], ◌++◌, map}
use native.Mathlib.Omega.{arith}
use native.Mathlib.Decide.{ℕ_discrete}
use lib.ListN.{length, get_or, length-map, length-append}
use Rattle.hyperlmntal.specs.Link.{free, ◌∈◌}
use Rattle.hyperlmntal.specs.Hypergraph.{Node, inner, name, Connected, back, then}
use Rattle.hyperlmntal.specs.Isomorphism.{link}
use Rattle.hyperlmntal.proofs.Positions.{below-some}
use Rattle.hyperlmntal.proofs.Equivalence.{partners-onward, partners-backward}
use Rattle.placing.specs.Net.{NetCell, Net, Range, cell_links, mark_links, net_graph}
use Rattle.placing.specs.Placing.{Placing, cell_at, atom_target, link_target, given_to, Taken}
use Rattle.placing.specs.Smallest.{table}
use Rattle.placing.proofs.Lists.{member-at, get_d_of, table-length, table_at, each_right}
use Rattle.placing.proofs.Connecting.{connected-dec, node-dec}
use Rattle.placing.proofs.Reduction.{filled}
use Rattle.placing.proofs.Filled.{FilledNode, fig_n, mark_n, fig_cell, filled-atoms, own_cells}
use Rattle.placing.proofs.Standing.{Sits, on-link, on-mark, sits-real, sits-to, sits-move, sits-one, of-cells, of-marks}
use Rattle.placing.proofs.Origins.{Solution, A, H, to, from, R, of-figure, origin, number_of, from-below, to-from, cells-alike}

module _ (C : Solution) where
  abbrev S : Net
  S = C.sheet

  abbrev F : Net
  F = C.figure

  -- A node of the filled figure that stands for sheet link y.
  abbrev pub Anchor : ℕ → Type 0
  Anchor y = (a : FilledNode) × (b : Node ℕ) × R C a b × Sits S C.sheet-normal b y

  pub meet : {y : ℕ} (t u : Anchor y) → Connected (H C) t.0 u.0
  meet t u = partners-backward (filled F C.fillings) (net_graph S) C.same t.1 u.1 t.0 u.0 t.2 u.2 (then (sits-to S C.sheet-normal t.3) (back (sits-to S C.sheet-normal u.3)))

  one_place : {y z : ℕ} (t : Anchor y) (u : Anchor z) → Connected (H C) t.0 u.0 → y ≡ z
  one_place t u c = sits-one S C.sheet-normal (sits-move S C.sheet-normal (partners-onward (filled F C.fillings) (net_graph S) C.same t.0 u.0 t.1 u.1 t.2 u.2 c) t.3) u.3

  abbrev pub mark-anchor : (y m : ℕ) → (y, m) ∈ S.marks → Anchor y
  mark-anchor y m i = (mark_n m, name (free m), (link (free m), refl, refl), on-mark m refl i)

  pub atom-anchor : (j y : ℕ) → Range (length S.atoms) j → y ∈ (cell_at S.atoms j).1 → Range S.links y → Anchor y
  atom-anchor j y h m r =
      let t = below-some (A C) (from C (j - 1)) (from-below C j h) in
      let u = each_right (cells-alike C j h t.0 t.1).1 (inner y) (Memᴰ.map inner m) in
      (u.0, inner y, u.2, on-link refl r)

  anchor : (y : ℕ) → Range S.links y → Anchor y
  anchor y r = at (Memᴰ.append_cases (cell_links S.atoms) (C.sheet-normal.used y r))
    where
      in-atom : (c : NetCell) × (c ∈ S.atoms) × (y ∈ c.1) → Anchor y
      in-atom u =
          let t = member-at S.atoms u.0 u.1 in
          let b : t.0 < length S.atoms = t.1 in
          let e : cell_at S.atoms (suc t.0) ≡ u.0 = ap (λ i. get_or S.atoms i (0, [])) (let q : suc t.0 - 1 ≡ t.0 = omega arith in q) ∙ get_d_of S.atoms t.0 (0, []) u.0 t.2 in
          atom-anchor (suc t.0) y (omega arith, omega arith) (subst (λ c. y ∈ c.1) (sym e) u.2) r

      rest : (y ∈ cell_links S.contexts) ⊎ (y ∈ mark_links S.marks) → Anchor y
      rest (inl k) = absurd (Memᴰ.not-nil (subst (λ l. y ∈ cell_links l) C.no-contexts k))
      rest (inr k) = let u = of-marks S.marks y k in mark-anchor y u.0 u.1

      at : (y ∈ cell_links S.atoms) ⊎ (y ∈ cell_links S.contexts ++ mark_links S.marks) → Anchor y
      at (inl k) = in-atom (of-cells S.atoms y k)
      at (inr k) = rest (Memᴰ.append_cases (cell_links S.contexts) k)

  -- Figure link x is connected to what stands for sheet link y.
  abbrev pub Reach : ℕ → ℕ → Type 0
  Reach x y = (t : Anchor y) × Connected (H C) (fig_n x) t.0

  reach-dec : (x y : ℕ) → Range S.links y → Dec (Reach x y)
  reach-dec x y r = at (anchor y r) (connected-dec node-dec (H C) (fig_n x) (anchor y r).0)
    where
      at : (t : Anchor y) → Dec (Connected (H C) (fig_n x) t.0) → Dec (Reach x y)
      at t (yes c) = yes (t, c)
      at t (no n) = no (λ u. n (then u.1 (meet u.0 t)))

  pub reach-real : {x y : ℕ} → Reach x y → Range S.links y
  reach-real r = sits-real S C.sheet-normal r.0.3

  abbrev Sought : ℕ → ℕ → Type 0
  Sought x n = ((y : ℕ) × Range n y × Reach x y) ⊎ ((y : ℕ) → Range n y → ¬ Reach x y)

  seek : (x n : ℕ) → n ≤ S.links → Sought x n
  seek x zero h = inr (λ y r. let a : 1 ≤ y = r.0 in let b : y ≤ 0 = r.1 in absurd (omega arith))
  seek x (suc n) h = at (reach-dec x (suc n) (omega arith, h)) (seek x n (omega arith))
    where
      at : Dec (Reach x (suc n)) → Sought x n → Sought x (suc n)
      at (yes r) o = inl (suc n, (omega arith, omega arith), r)
      at (no k) (inl t) = inl (t.0, (t.1.0, (let q : t.0 ≤ n = t.1.1 in omega arith)), t.2)
      at (no k) (inr f) = inr (λ y r u. last y r u (ℕ_discrete y (suc n)))
        where
          last : (y : ℕ) → Range (suc n) y → Reach x y → Dec (y ≡ suc n) → ⊥
          last y r u (yes e) = k (subst (Reach x) e u)
          last y r u (no w) = let b : y ≤ suc n = r.1 in f y (r.0, omega arith) u

  abbrev ending : {x n : ℕ} → Sought x n → ℕ
  ending (inl t) = t.0
  ending (inr f) = suc S.links

  -- Where figure link x goes.
  aim : ℕ → ℕ
  aim x = ending (seek x S.links (omega arith))

  aim-of : (x y : ℕ) → Reach x y → aim x ≡ y
  unfolding aim
  aim-of x y r = at (seek x S.links (omega arith))
    where
      at : (o : Sought x S.links) → ending o ≡ y
      at (inl t) = one_place t.2.0 r.0 (then (back t.2.1) r.1)
      at (inr f) = absurd (f y (reach-real r) r)

  aim-back : (x y : ℕ) → aim x ≡ y → Range S.links y → Reach x y
  unfolding aim
  aim-back x y e h = at (seek x S.links (omega arith)) e
    where
      at : (o : Sought x S.links) → ending o ≡ y → Reach x y
      at (inl t) e = subst (Reach x) e t.2
      at (inr f) e = let b : y ≤ S.links = h.1 in absurd (omega arith)

  aim-range : (x : ℕ) → Range (suc S.links) (aim x)
  unfolding aim
  aim-range x = at (seek x S.links (omega arith))
    where
      at : (o : Sought x S.links) → Range (suc S.links) (ending o)
      at (inl t) = (t.1.0, let b : t.0 ≤ S.links = t.1.1 in omega arith)
      at (inr f) = (omega arith, omega arith)

  -- The placing.
  pub placing_of : Placing
  placing_of = record { atoms_to = table (λ i. suc (to C i)) 0 (length F.atoms); links_to = table aim 1 F.links; given = table (λ j. number_of C (origin C (from C j))) 0 (length S.atoms) }

  pub sizes : (length placing_of.atoms_to ≡ length F.atoms) × (length placing_of.links_to ≡ F.links) × (length placing_of.given ≡ length S.atoms)
  unfolding placing_of
  sizes = (table-length (λ i. suc (to C i)) 0 (length F.atoms), table-length aim 1 F.links, table-length (λ j. number_of C (origin C (from C j))) 0 (length S.atoms))

  pub atom-to : (i : ℕ) → Range (length F.atoms) i → atom_target placing_of i ≡ suc (to C (i - 1))
  unfolding placing_of
  atom-to i h = let a : 1 ≤ i = h.0 in let b : i ≤ length F.atoms = h.1 in table_at (λ i. suc (to C i)) 0 (length F.atoms) (i - 1) 0 (omega arith) ∙ ap (λ k. suc (to C k)) (let q : 0 + (i - 1) ≡ i - 1 = omega arith in q)

  link-aim : (x : ℕ) → Range F.links x → link_target placing_of x ≡ aim x
  unfolding placing_of
  link-aim x h = let a : 1 ≤ x = h.0 in let b : x ≤ F.links = h.1 in table_at aim 1 F.links (x - 1) 0 (omega arith) ∙ ap aim (let q : 1 + (x - 1) ≡ x = omega arith in q)

  pub given_to_lem : (j : ℕ) → Range (length S.atoms) j → given_to placing_of j ≡ number_of C (origin C (from C (j - 1)))
  unfolding placing_of
  given_to_lem j h = let a : 1 ≤ j = h.0 in let b : j ≤ length S.atoms = h.1 in table_at (λ j. number_of C (origin C (from C j))) 0 (length S.atoms) (j - 1) 0 (omega arith) ∙ ap (λ k. number_of C (origin C (from C k))) (let q : 0 + (j - 1) ≡ j - 1 = omega arith in q)

  pub link-of : (x y : ℕ) → Range F.links x → Reach x y → link_target placing_of x ≡ y
  link-of x y h r = link-aim x h ∙ aim-of x y r

  pub link-back : (x y : ℕ) → Range F.links x → link_target placing_of x ≡ y → Range S.links y → Reach x y
  link-back x y h e r = aim-back x y (sym (link-aim x h) ∙ e) r

  pub link-range : (x : ℕ) → Range F.links x → Range (suc S.links) (link_target placing_of x)
  link-range x h = subst (Range (suc S.links)) (sym (link-aim x h)) (aim-range x)

  -- The figure's atoms come first among those of the filled figure.
  pub figure-below : (i : ℕ) → i < length F.atoms → i < length (A C)
  figure-below i h =
      let n = ap length (filled-atoms F C.fillings C.fits) in
      let k = length-map F.atoms fig_cell in
      let q = length-append (map fig_cell F.atoms) (own_cells F C.fillings C.fits (length F.atoms) F.contexts) in
      omega arith

  -- A sheet atom is taken exactly where it is an atom of the figure.
  pub taken-figure : (j : ℕ) → Range (length S.atoms) j → Taken S F placing_of j → from C (j - 1) < length F.atoms
  taken-figure j h t =
      let b : t.by ≤ length F.atoms = t.of-figure.1 in
      let a : 1 ≤ t.by = t.of-figure.0 in
      let e : suc (to C (t.by - 1)) ≡ j = sym (atom-to t.by t.of-figure) ∙ t.there in
      let q : from C (to C (t.by - 1)) ≡ t.by - 1 = C.same.vertices.from-to (t.by - 1) (figure-below (t.by - 1) (omega arith)) in
      let r : from C (j - 1) ≡ from C (to C (t.by - 1)) = ap (from C) (let z : j - 1 ≡ to C (t.by - 1) = omega arith in z) in
      omega arith

  pub figure-taken : (j : ℕ) → Range (length S.atoms) j → from C (j - 1) < length F.atoms → Taken S F placing_of j
  figure-taken j h k =
      let a : 1 ≤ j = h.0 in
      let r : Range (length F.atoms) (suc (from C (j - 1))) = (omega arith, omega arith) in
      record { by = suc (from C (j - 1)); of-figure = r; there = atom-to (suc (from C (j - 1))) r ∙ ap (λ i. suc (to C i)) (let z : suc (from C (j - 1)) - 1 ≡ from C (j - 1) = omega arith in z) ∙ ap suc (to-from C j h) ∙ (let z : suc (j - 1) ≡ j = omega arith in z) }
