-- From fillings to a placing: which atom of the filled figure each sheet atom is, and where figure links go.
use Prim.Native.Nat.{ℕ, suc, ◌+◌, ◌-◌, ◌≤◌, ◌<◌}
use mathlib.Core.Path.{◌≡◌, refl, ap, sym, ◌∙◌}
use mathlib.Core.Logic.{◌⊎◌, inl, inr}
use mathlib.Core.List.Memᴰ
use mathlib.Core.List.{List, [], ◌∷◌, ◌++◌, map, append-nil}
use mathlib.Core.Option.{some}
use native.Mathlib.Omega.{arith}
use native.Mathlib.Decide.{dec_lt}
use lib.ListN.{length, get_elem?, length-map}
use Rattle.hyperlmntal.specs.Link.{◌∈◌}
use Rattle.hyperlmntal.specs.Hypergraph.{Node, Cell, Fusion}
use Rattle.hyperlmntal.specs.Isomorphism.{Isomorphic}
use Rattle.hyperlmntal.specs.DenotedSubstitution.{Spot}
use Rattle.hyperlmntal.proofs.Relational.{Alike}
use Rattle.hyperlmntal.proofs.Positions.{below-some}
use Rattle.hyperlmntal.proofs.Equivalence.{AtPartners, partners-alike}
use Rattle.placing.specs.Net.{NetCell, Net, Range, atom_vertex, context_vertex, net_graph, Normal}
use Rattle.placing.specs.Placing.{cell_at}
use Rattle.placing.specs.Fillings.{Filling, Fits}
use Rattle.placing.specs.ListFits.{symbols_in}
use Rattle.placing.proofs.Lists.{at_left, at_right, at_map, at-get_d, at-member}
use Rattle.placing.proofs.Reduction.{filled}
use Rattle.placing.proofs.Filled.{FilledNode, fig_cell, own_cell, rows_for, Slot, own_cells, filled-atoms}

-- Fillings that make a figure isomorphic to a sheet.
pub record Solution : Type 0 where
  pub sheet : Net
  pub figure : Net
  pub fillings : List Filling
  pub sheet-normal : Normal sheet
  pub no-contexts : sheet.contexts ≡ []
  pub figure-normal : Normal figure
  pub fits : Fits figure fillings
  pub same : Isomorphic (filled figure fillings) (net_graph sheet)

module _ (C : Solution) where
  abbrev S : Net
  S = C.sheet

  abbrev F : Net
  F = C.figure

  abbrev θ : List Filling
  θ = C.fillings

  -- The atoms and fusions of the filled figure.
  abbrev pub A : List (Cell (Spot ℕ ℕ))
  A = (filled F θ).atoms

  abbrev pub H : List (Fusion (Spot ℕ ℕ))
  H = (filled F θ).fusions

  abbrev pub to : ℕ → ℕ
  to = C.same.vertices.to

  abbrev pub from : ℕ → ℕ
  from = C.same.vertices.from

  -- Partners of the isomorphism.
  abbrev pub R : FilledNode → Node ℕ → Type 0
  R = AtPartners (filled F θ) (net_graph S) C.same

  pub sheet-size : length (net_graph S).atoms ≡ length S.atoms
  sheet-size = ap (λ l. length (map atom_vertex S.atoms ++ map context_vertex l)) C.no-contexts ∙ ap length (append-nil (map atom_vertex S.atoms)) ∙ length-map S.atoms atom_vertex

  pub sheet-at : (j : ℕ) → Range (length S.atoms) j → get_elem? (net_graph S).atoms (j - 1) ≡ some (atom_vertex (cell_at S.atoms j))
  sheet-at j h =
      let a : 1 ≤ j = h.0 in
      let b : j ≤ length S.atoms = h.1 in
      let n = length-map S.atoms atom_vertex in
      at_left (map atom_vertex S.atoms) (map context_vertex S.contexts) (j - 1) (omega arith)
      ∙ at_map atom_vertex S.atoms (j - 1) (cell_at S.atoms j) (at-get_d S.atoms (j - 1) (0, []) (omega arith))

  pub figure-at : (i : ℕ) → Range (length F.atoms) i → get_elem? A (i - 1) ≡ some (fig_cell (cell_at F.atoms i))
  figure-at i h =
      let a : 1 ≤ i = h.0 in
      let b : i ≤ length F.atoms = h.1 in
      let n = length-map F.atoms fig_cell in
      ap (λ l. get_elem? l (i - 1)) (filled-atoms F θ C.fits)
      ∙ at_left (map fig_cell F.atoms) (own_cells F θ C.fits (length F.atoms) F.contexts) (i - 1) (omega arith)
      ∙ at_map fig_cell F.atoms (i - 1) (cell_at F.atoms i) (at-get_d F.atoms (i - 1) (0, []) (omega arith))

  -- An atom of a filling.
  abbrev pub Owned : Cell (Spot ℕ ℕ) → Type 0
  Owned a = (k : ℕ) × (c : NetCell) × (d : NetCell) × Slot F θ C.fits k c × (own_cell k d ≡ a)

  owned : (k s : ℕ) (l : List NetCell) → k ≡ length F.atoms + s → ((j : ℕ) (c : NetCell) → get_elem? l j ≡ some c → get_elem? F.contexts (s + j) ≡ some c)
      → (a : Cell (Spot ℕ ℕ)) → a ∈ own_cells F θ C.fits k l → Owned a
  owned k s [] p h a m = absurd (Memᴰ.not-nil m)
  owned k s (c ∷ l) p h a m = at (Memᴰ.append_cases (map (own_cell k) (symbols_in (rows_for F θ C.fits c))) m)
      (owned (suc k) (suc s) l (omega arith) (λ j d e. ap (get_elem? F.contexts) (let q : suc s + j ≡ s + suc j = omega arith in q) ∙ h (suc j) d e) a)
    where
      at : (a ∈ map (own_cell k) (symbols_in (rows_for F θ C.fits c))) ⊎ (a ∈ own_cells F θ C.fits (suc k) l) → (a ∈ own_cells F θ C.fits (suc k) l → Owned a) → Owned a
      at (inl i) f = let t : (d : NetCell) × (d ∈ symbols_in (rows_for F θ C.fits c)) × (own_cell k d ≡ a) = Memᴰ.of_map (own_cell k) (symbols_in (rows_for F θ C.fits c)) i in (k, c, t.0, (s, p, ap (get_elem? F.contexts) (let q : s ≡ s + 0 = omega arith in q) ∙ h 0 c refl), t.2)
      at (inr i) f = f i

  -- What stands at position q of the filled figure.
  pub data Origin (q : ℕ) : Type 0 where
    of-figure : q < length F.atoms → Origin q
    of-context : (k : ℕ) (c d : NetCell) → Slot F θ C.fits k c → length F.atoms ≤ q → get_elem? A q ≡ some (own_cell k d) → Origin q
    nowhere : length A ≤ q → Origin q

  pub origin : (q : ℕ) → Origin q
  origin q = at (dec_lt q (length F.atoms)) (dec_lt q (length A))
    where
      at : Dec (q < length F.atoms) → Dec (q < length A) → Origin q
      at (yes h) d = of-figure h
      at (no h) (no k) = nowhere (omega arith)
      at (no h) (yes k) =
          let t = below-some A q k in
          let n = length-map F.atoms fig_cell in
          let e : get_elem? (own_cells F θ C.fits (length F.atoms) F.contexts) (q - length F.atoms) ≡ some t.0
          = sym (at_right (map fig_cell F.atoms) (own_cells F θ C.fits (length F.atoms) F.contexts) (q - length F.atoms))
          ∙ ap (get_elem? (map fig_cell F.atoms ++ own_cells F θ C.fits (length F.atoms) F.contexts)) (let z : length (map fig_cell F.atoms) + (q - length F.atoms) ≡ q = omega arith in z)
          ∙ ap (λ l. get_elem? l q) (sym (filled-atoms F θ C.fits)) ∙ t.1 in
          let u = owned (length F.atoms) 0 F.contexts (omega arith) (λ j c e. ap (get_elem? F.contexts) (let z : 0 + j ≡ j = omega arith in z) ∙ e) t.0 (at-member (own_cells F θ C.fits (length F.atoms) F.contexts) (q - length F.atoms) t.0 e) in
          of-context u.0 u.1 u.2 u.3 (omega arith) (t.1 ∙ ap some (sym u.4))

  -- The number of the context that an atom comes from, 0 for the figure's own.
  abbrev pub number_of : {q : ℕ} → Origin q → ℕ
  number_of (of-figure h) = 0
  number_of (of-context k c d s h e) = c.0
  number_of (nowhere h) = 0

  pub from-below : (j : ℕ) → Range (length S.atoms) j → from (j - 1) < length A
  from-below j h = let a : 1 ≤ j = h.0 in let b : j ≤ length S.atoms = h.1 in let n = sheet-size in C.same.vertices.from-below (j - 1) (omega arith)

  pub to-from : (j : ℕ) → Range (length S.atoms) j → to (from (j - 1)) ≡ j - 1
  to-from j h = let a : 1 ≤ j = h.0 in let b : j ≤ length S.atoms = h.1 in let n = sheet-size in C.same.vertices.to-from (j - 1) (omega arith)

  pub cells-alike : (j : ℕ) → Range (length S.atoms) j → (a : Cell (Spot ℕ ℕ)) → get_elem? A (from (j - 1)) ≡ some a → Alike R a (atom_vertex (cell_at S.atoms j))
  cells-alike j h a e = partners-alike (filled F θ) (net_graph S) C.same (from (j - 1)) a (atom_vertex (cell_at S.atoms j)) e (ap (get_elem? (net_graph S).atoms) (to-from j h) ∙ sheet-at j h)
