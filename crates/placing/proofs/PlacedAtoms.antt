-- From a good placing to fillings: the atoms of the filled figure are those of the sheet; so it is isomorphic to the sheet.
use Prim.Native.Nat.{ℕ, suc, ◌+◌, ◌-◌, ◌≤◌, ◌<◌}
use mathlib.Core.Path.{◌≡◌, refl, ap, ap₂, sym, ◌∙◌, subst}
use mathlib.Core.Logic.{◌⊎◌, inl, inr, ◌↔◌}
use mathlib.Core.List.Memᴰ
use mathlib.Core.List.{List, [], ◌∷◌, ◌++◌, map, map-map, map-append, append-nil}
use mathlib.Core.Option.{some}
use native.Mathlib.Omega.{arith}
use lib.ListN.{length, get_or, get_elem?}
use Rattle.hyperlmntal.specs.Link.{◌∈◌}
use Rattle.hyperlmntal.specs.Hypergraph.{Node, inner, name, symbol, Cell, Connected, stay, then, nodes}
use Rattle.hyperlmntal.specs.Isomorphism.{Isomorphic}
use Rattle.hyperlmntal.proofs.Lists.{Each, done, Perm, perm-map, each-perm, each_append, each_maps, each-map₂}
use Rattle.hyperlmntal.proofs.Connection.{connected-≡, recast}
use Rattle.hyperlmntal.proofs.Relational.{Alike, Match, Via, iso-by}
use Rattle.hyperlmntal.proofs.Equivalence.{SameNames, isomorphic-of-iso}
use Rattle.hyperlmntal.proofs.ExactPorts.{exact-names}
use Rattle.reading.proofs.normal.Distinct.{Once}
use Rattle.placing.specs.Net.{NetCell, Net, Range, atom_vertex, context_vertex, net_graph, Apart}
use Rattle.placing.specs.Placing.{Placing, cell_at, atom_target, link_target, given_to, Taken, Across, PortAt, Inside}
use Rattle.placing.specs.Fillings.{places_of}
use Rattle.placing.specs.Filled.{flat_entry}
use Rattle.placing.specs.ListFits.{symbols_in}
use Rattle.placing.specs.Smallest.{table}
use Rattle.placing.proofs.Lists.{member-at, get_d_of, each-by-position}
use Rattle.placing.proofs.Names.{net-name, name-net, all-exact-flat}
use Rattle.placing.proofs.Reduction.{filled}
use Rattle.placing.proofs.Filled.{FilledNode, fig_n, own_n, fig_cell, own_cell, rows_for, Slot, slot-member, own_cells, filled-atoms}
use Rattle.placing.proofs.Standing.{atom-link, context-link, cell_in, place-link}
use Rattle.placing.proofs.Orders.{up_to, up-to-in, up-to-out, count-once, places-in, places-out, places-once, once-append, once-perm, once-by-place}
use Rattle.placing.proofs.FillingsFit.{filling-symbols, stands-there, rows-found}
use Rattle.placing.proofs.PlacingFillings.{Placed, θ, fit, H, K, slot_of, one-slot, port-there, Hit, Touched, hit-dec, taken-dec, touched-dec, given-slot, home_of, on_sheet, on_figure, hit-home, onward, backward}
use Rattle.reading.proofs.normal.Merging.{get_d-in}

-- A list by its places from s on.
places-whole : (L l : List NetCell) (s : ℕ) → ((i : ℕ) → get_or L (s + i) (0, []) ≡ get_or l i (0, [])) → map (cell_at L) (table (λ j. j) (suc s) (length l)) ≡ l
places-whole L [] s h = refl
places-whole L (c ∷ l) s h =
    ap₂ ◌∷◌ (ap (λ i. get_or L i (0, [])) (let q : suc s - 1 ≡ s + 0 = omega arith in q) ∙ h 0)
    (places-whole L l (suc s) (λ i. ap (λ j. get_or L j (0, [])) (let q : suc s + i ≡ s + suc i = omega arith in q) ∙ h (suc i)))

module _ (C : Placed) where
  abbrev S : Net
  S = C.sheet

  abbrev F : Net
  F = C.figure

  abbrev p : Placing
  p = C.placing

  abbrev Partners : FilledNode → Node ℕ → Type 0
  Partners = Via (filled F (θ C)) (net_graph S) (on_sheet C) (on_figure C)

  abbrev vertex_at : ℕ → Cell ℕ
  vertex_at j = atom_vertex (cell_at S.atoms j)

  -- A figure atom and the sheet atom that it goes to.
  figure-alike : (i : ℕ) → Range (length F.atoms) i → Alike Partners (fig_cell (cell_at F.atoms i)) (vertex_at (atom_target p i))
  figure-alike i h = (
    ap symbol a.name,
    subst (λ l. Each Partners (map fig_n (cell_at F.atoms i).1) (map inner l)) a.places
        (subst (λ l. Each Partners (map fig_n (cell_at F.atoms i).1) l) (sym (map-map inner (link_target p) (cell_at F.atoms i).1))
        (each_maps fig_n (λ x. inner (link_target p x)) Partners (cell_at F.atoms i).1 at)),
  )
    where
      a : Across S F p i
      a = C.good.across i h

      at : (x : ℕ) → x ∈ (cell_at F.atoms i).1 → Partners (fig_n x) (inner (link_target p x))
      at x m =
          let r : Range S.links (link_target p x) = place-link S C.sheet-normal (atom_target p i) (link_target p x) (C.good.sending.to-atoms i h) (subst (λ l. link_target p x ∈ l) a.places (Memᴰ.map (link_target p) m)) in
          (connected-≡ (K C) (ap inner (sym (stands-there S p x r.1))), hit-home C x (link_target p x) (atom-link F C.figure-normal (cell_at F.atoms i) x (cell_in F.atoms i h) m) refl r)

  -- The atoms given to context c.
  pub record GivenAtom (c : NetCell) (j : ℕ) : Type 0 where
    pub sheet-atom : Range (length S.atoms) j
    pub other : ¬ Taken S F p j
    pub number : given_to p j ≡ c.0

  given_out : (c : NetCell) → c ∈ F.contexts → (j : ℕ) → j ∈ places_of 1 c.0 p.given → GivenAtom c j
  given_out c m j i = record { sheet-atom = r; other = λ t. let z = C.good.sending.not-given j r t in let one = C.numbers c m in let e = num in omega arith; number = num }
    where
      t : (q : ℕ) × (j ≡ 1 + q) × (q < length p.given) × (get_or p.given q 0 ≡ c.0)
      t = places-out 1 c.0 p.given j i

      r : Range (length S.atoms) j
      r = let e : j ≡ 1 + t.0 = t.1 in let b : t.0 < length p.given = t.2 in let n = C.good.sending.atoms-given in (omega arith, omega arith)

      num : given_to p j ≡ c.0
      num = ap (λ k. get_or p.given k 0) (let e : j ≡ 1 + t.0 = t.1 in let q : j - 1 ≡ t.0 = omega arith in q) ∙ t.3

  given-in : (c : NetCell) (j : ℕ) → Range (length S.atoms) j → given_to p j ≡ c.0 → j ∈ places_of 1 c.0 p.given
  given-in c j h e = let a : 1 ≤ j = h.0 in let b : j ≤ length S.atoms = h.1 in let n = C.good.sending.atoms-given in Memᴰ.cast (let q : j ≡ 1 + (j - 1) = omega arith in q) (places-in 1 c.0 p.given (j - 1) (omega arith) e)

  -- An atom of a filling and its sheet atom.
  own-alike : (k : ℕ) (c : NetCell) → Slot F (θ C) (fit C) k c → (j : ℕ) → GivenAtom c j → Alike Partners (own_cell k (cell_at S.atoms j)) (vertex_at j)
  own-alike k c s j g = (refl, each_maps (own_n k) inner Partners (cell_at S.atoms j).1 (λ y m. (stay, at y m)))
    where
      at : (y : ℕ) → y ∈ (cell_at S.atoms j).1 → Connected (H C) (own_n k y) (on_figure C (inner y))
      at y m = side (C.good.own-links j g.sheet-atom g.other y m)
        where
          r : Range S.links y
          r = place-link S C.sheet-normal j y g.sheet-atom m

          inside : Inside S F p (given_to p j) y → (d : Dec (Hit C y)) (d' : Dec (Touched C y)) → Connected (H C) (own_n k y) (home_of C y d d')
          inside w (yes t) d' = absurd (w.no-figure-link t.0 (up-to-out F.links t.0 t.1) t.2)
          inside w (no n) (yes u) =
              let h = up-to-out (length S.atoms) u.0 u.1 in
              let t = given-slot C u.0 h u.2.0 in
              connected-≡ (H C) (ap (λ z. own_n z y) (one-slot C s t.2 (sym g.number ∙ sym (w.only-there u.0 h u.2.1).1 ∙ sym t.3)))
          inside w (no n) (no q) = absurd (q (j, up-to-in (length S.atoms) j g.sheet-atom, (g.other, m)))

          side : PortAt S F p (given_to p j) y ⊎ Inside S F p (given_to p j) y → Connected (H C) (own_n k y) (on_figure C (inner y))
          side (inl w) =
              let t = slot_of C w.row w.of-figure in
              let e : t.0 ≡ k = one-slot C t.1 s (w.number ∙ g.number) in
              then (recast (ap (λ z. own_n z y) e) refl (port-there C t.0 w.row t.1 w.link y w.port w.there r.1))
              (hit-home C w.link y (context-link F C.figure-normal w.row w.link w.of-figure w.port) w.there r)
          side (inr w) = inside w (hit-dec C y) (touched-dec C y)

  -- The sheet atoms in the order of the filled figure.
  abbrev all_given : List NetCell → List ℕ
  all_given [] = []
  all_given (c ∷ l) = places_of 1 c.0 p.given ++ all_given l

  each-own : (k s : ℕ) (l : List NetCell) → k ≡ length F.atoms + s → ((i : ℕ) (c : NetCell) → get_elem? l i ≡ some c → get_elem? F.contexts (s + i) ≡ some c)
      → Each (Alike Partners) (own_cells F (θ C) (fit C) k l) (map vertex_at (all_given l))
  each-own k s [] q h = done
  each-own k s (c ∷ l) q h =
      subst (λ m. Each (Alike Partners) (own_cells F (θ C) (fit C) k (c ∷ l)) m) (sym (map-append vertex_at (places_of 1 c.0 p.given) (all_given l)))
      (each_append (subst (λ m. Each (Alike Partners) m (map vertex_at (places_of 1 c.0 p.given))) (sym symbols) here)
      (each-own (suc k) (suc s) l (omega arith) (λ i d e. ap (get_elem? F.contexts) (let z : suc s + i ≡ s + suc i = omega arith in z) ∙ h (suc i) d e)))
    where
      slot : Slot F (θ C) (fit C) k c
      slot = (s, q, ap (get_elem? F.contexts) (let z : s ≡ s + 0 = omega arith in z) ∙ h 0 c refl)

      mc : c ∈ F.contexts
      mc = slot-member F (θ C) (fit C) slot

      symbols : map (own_cell k) (symbols_in (rows_for F (θ C) (fit C) c)) ≡ map (λ j. own_cell k (cell_at S.atoms j)) (places_of 1 c.0 p.given)
      symbols = ap (λ r. map (own_cell k) (symbols_in r)) (rows-found S p F C.sheet-normal C.figure-normal C.apart C.good c mc) ∙ ap (map (own_cell k)) (filling-symbols S p c) ∙ map-map (own_cell k) (cell_at S.atoms) (places_of 1 c.0 p.given)

      here : Each (Alike Partners) (map (λ j. own_cell k (cell_at S.atoms j)) (places_of 1 c.0 p.given)) (map vertex_at (places_of 1 c.0 p.given))
      here = each_maps (λ j. own_cell k (cell_at S.atoms j)) vertex_at (Alike Partners) (places_of 1 c.0 p.given) (λ j m. own-alike k c slot j (given_out c mc j m))

  each-figure : Each (Alike Partners) (map fig_cell F.atoms) (map vertex_at p.atoms_to)
  each-figure = each-map₂ fig_cell vertex_at (λ c j r. r) (each-by-position {Q = λ c j. Alike Partners (fig_cell c) (vertex_at j)} (0, []) 0 F.atoms p.atoms_to (sym C.good.sending.atoms-sent) at)
    where
      at : (i : ℕ) → i < length F.atoms → Alike Partners (fig_cell (get_or F.atoms i (0, []))) (vertex_at (get_or p.atoms_to i 0))
      at i h = subst (λ q. Alike Partners (fig_cell (get_or F.atoms q (0, []))) (vertex_at (get_or p.atoms_to q 0))) (let q : suc i - 1 ≡ i = omega arith in q) (figure-alike (suc i) (omega arith, omega arith))

  all-out : (l : List NetCell) (j : ℕ) → j ∈ all_given l → (c : NetCell) × (c ∈ l) × (j ∈ places_of 1 c.0 p.given)
  all-out [] j m = absurd (Memᴰ.not-nil m)
  all-out (c ∷ l) j m = at (Memᴰ.append_cases (places_of 1 c.0 p.given) m) (all-out l j)
    where
      at : (j ∈ places_of 1 c.0 p.given) ⊎ (j ∈ all_given l) → (j ∈ all_given l → (d : NetCell) × (d ∈ l) × (j ∈ places_of 1 d.0 p.given)) → (d : NetCell) × (d ∈ (c ∷ l)) × (j ∈ places_of 1 d.0 p.given)
      at (inl k) f = (c, Memᴰ.head refl, k)
      at (inr k) f = let t = f k in (t.0, Memᴰ.tail t.1, t.2)

  all_in : (l : List NetCell) (c : NetCell) (j : ℕ) → c ∈ l → j ∈ places_of 1 c.0 p.given → j ∈ all_given l
  all_in [] c j m k = absurd (Memᴰ.not-nil m)
  all_in (d ∷ l) c j m k = at (Memᴰ.cases_cons m) (λ i. all_in l c j i k)
    where
      at : (c ≡ d) ⊎ (c ∈ l) → (c ∈ l → j ∈ all_given l) → j ∈ places_of 1 d.0 p.given ++ all_given l
      at (inl e) f = Memᴰ.append_left (all_given l) (subst (λ a. j ∈ places_of 1 a.0 p.given) e k)
      at (inr i) f = Memᴰ.append_right (places_of 1 d.0 p.given) (f i)

  all_once : (l : List NetCell) → Apart l → Once (all_given l)
  all_once [] a = tt
  all_once (c ∷ l) a = once-append (places_of 1 c.0 p.given) (all_given l) (places-once 1 c.0 p.given) (all_once l a.1) (λ j m k. apart j m (all-out l j k))
    where
      apart : (j : ℕ) → j ∈ places_of 1 c.0 p.given → (d : NetCell) × (d ∈ l) × (j ∈ places_of 1 d.0 p.given) → ⊥
      apart j m t =
          let u = places-out 1 c.0 p.given j m in
          let w = places-out 1 t.0.0 p.given j t.2 in
          let x : j ≡ 1 + u.0 = u.1 in
          let y : j ≡ 1 + w.0 = w.1 in
          a.0 t.0 t.1 (sym u.3 ∙ ap (λ q. get_or p.given q 0) (let z : u.0 ≡ w.0 = omega arith in z) ∙ w.3)

  abbrev order : List ℕ
  order = p.atoms_to ++ all_given F.contexts

  taken_of : (j : ℕ) → j ∈ p.atoms_to → Taken S F p j
  taken_of j m =
      let t = member-at p.atoms_to j m in
      let b : t.0 < length p.atoms_to = t.1 in
      let n = C.good.sending.atoms-sent in
      record { by = suc t.0; of-figure = (omega arith, omega arith); there = ap (λ q. get_or p.atoms_to q 0) (let q : suc t.0 - 1 ≡ t.0 = omega arith in q) ∙ get_d_of p.atoms_to t.0 0 j t.2 }

  order-once : Once order
  order-once =
      once-append p.atoms_to (all_given F.contexts) (once-by-place p.atoms_to different) (all_once F.contexts C.apart)
      (λ j m k. let t = all-out F.contexts j k in (given_out t.0 t.1 j t.2).other (taken_of j m))
    where
      different : (i j : ℕ) → i < length p.atoms_to → j < length p.atoms_to → get_or p.atoms_to i 0 ≡ get_or p.atoms_to j 0 → i ≡ j
      different i j a b e =
          let n = C.good.sending.atoms-sent in
          let x : get_or p.atoms_to (suc i - 1) 0 ≡ get_or p.atoms_to i 0 = ap (λ q. get_or p.atoms_to q 0) (let q : suc i - 1 ≡ i = omega arith in q) in
          let y : get_or p.atoms_to (suc j - 1) 0 ≡ get_or p.atoms_to j 0 = ap (λ q. get_or p.atoms_to q 0) (let q : suc j - 1 ≡ j = omega arith in q) in
          let z : suc i ≡ suc j = C.good.sending.different (suc i) (suc j) (omega arith, omega arith) (omega arith, omega arith) (x ∙ e ∙ sym y) in
          omega arith

  order-perm : Perm order (up_to (length S.atoms))
  order-perm = once-perm order (up_to (length S.atoms)) order-once (count-once 1 (length S.atoms)) there here
    where
      there : (j : ℕ) → j ∈ order → j ∈ up_to (length S.atoms)
      there j m = at (Memᴰ.append_cases p.atoms_to m)
        where
          at : (j ∈ p.atoms_to) ⊎ (j ∈ all_given F.contexts) → j ∈ up_to (length S.atoms)
          at (inl k) = let t = taken_of j k in up-to-in (length S.atoms) j (subst (Range (length S.atoms)) t.there (C.good.sending.to-atoms t.by t.of-figure))
          at (inr k) = let t = all-out F.contexts j k in up-to-in (length S.atoms) j (given_out t.0 t.1 j t.2).sheet-atom

      here : (j : ℕ) → j ∈ up_to (length S.atoms) → j ∈ order
      here j m = at (taken-dec C j)
        where
          h : Range (length S.atoms) j
          h = up-to-out (length S.atoms) j m

          at : Dec (Taken S F p j) → j ∈ order
          at (yes t) =
              let a : 1 ≤ t.by = t.of-figure.0 in
              let b : t.by ≤ length F.atoms = t.of-figure.1 in
              let n = C.good.sending.atoms-sent in
              Memᴰ.append_left (all_given F.contexts) (Memᴰ.cast (sym t.there) (get_d-in p.atoms_to (t.by - 1) 0 (omega arith)))
          at (no n) = let u = C.good.sending.to-contexts j h n in Memᴰ.append_right p.atoms_to (all_in F.contexts u.0 j u.1 (given-in u.0 j h (sym u.2)))

  sheet-vertices : map vertex_at (up_to (length S.atoms)) ≡ (net_graph S).atoms
  sheet-vertices =
      sym (map-map atom_vertex (cell_at S.atoms) (up_to (length S.atoms)))
      ∙ ap (map atom_vertex) (places-whole S.atoms S.atoms 0 (λ i. ap (λ j. get_or S.atoms j (0, [])) (let q : 0 + i ≡ i = omega arith in q)))
      ∙ sym (append-nil (map atom_vertex S.atoms)) ∙ ap (λ l. map atom_vertex S.atoms ++ map context_vertex l) (sym C.no-contexts)

  matched : Match Partners (filled F (θ C)).atoms (net_graph S).atoms
  matched =
      subst (λ l. Match Partners l (net_graph S).atoms) (sym (filled-atoms F (θ C) (fit C)))
      (subst (λ l. Match Partners (map fig_cell F.atoms ++ own_cells F (θ C) (fit C) (length F.atoms) F.contexts) l) sheet-vertices
      (each-perm (perm-map vertex_at order-perm)
      (subst (λ l. Each (Alike Partners) (map fig_cell F.atoms ++ own_cells F (θ C) (fit C) (length F.atoms) F.contexts) l) (sym (map-append vertex_at p.atoms_to (all_given F.contexts)))
      (each_append each-figure (each-own (length F.atoms) 0 F.contexts (omega arith) (λ i c e. ap (get_elem? F.contexts) (let q : 0 + i ≡ i = omega arith in q) ∙ e))))))

  same_names : SameNames (filled F (θ C)) (net_graph S)
  same_names X = (there, here)
    where
      kept : (name X ∈ nodes (filled F (θ C))) ↔ (name X ∈ nodes (net_graph F))
      kept = exact-names ℕ ℕ (map flat_entry (θ C)) (all-exact-flat F (θ C) (fit C)) X (net_graph F)

      there : name X ∈ nodes (filled F (θ C)) → name X ∈ nodes (net_graph S)
      there m = let t = net-name F X (kept.0 m) in Memᴰ.cast (ap name t.3) (name-net S (link_target p t.0) t.1 (C.good.same-marks.onward t.0 t.1 t.2))

      here : name X ∈ nodes (net_graph S) → name X ∈ nodes (filled F (θ C))
      here m = let t = net-name S X m in let u = C.good.same-marks.backward t.0 t.1 t.2 in kept.1 (Memᴰ.cast (ap name t.3) (name-net F u.0 t.1 u.1))

  pub placed-isomorphic : Isomorphic (filled F (θ C)) (net_graph S)
  placed-isomorphic = isomorphic-of-iso (filled F (θ C)) (net_graph S) (iso-by (filled F (θ C)) (net_graph S) (on_sheet C) (on_figure C) (onward C) (backward C) (λ X. (stay, stay)) matched) same_names
