-- From fillings to a placing: it is a sending, atoms go across place by place, marks agree, and joints going to one place are linked.
use Prim.Native.Nat.{ℕ, ◌-◌, ◌≤◌, ◌<◌}
use mathlib.Core.Path.{◌≡◌, refl, ap, sym, ◌∙◌, subst}
use mathlib.Core.Logic.{◌↔◌}
use mathlib.Core.List.Memᴰ
use mathlib.Core.List.{map}
use mathlib.Core.Option.{some}
use native.Mathlib.Omega.{arith}
use native.Mathlib.Decide.{dec_lt}
use lib.ListN.{length, get_elem?}
use Rattle.hyperlmntal.specs.Link.{free, ◌∈◌}
use Rattle.hyperlmntal.specs.Hypergraph.{inner, name, symbol, Fusion, Connected, stay, along, back, then}
use Rattle.hyperlmntal.specs.DenotedSubstitution.{Spot, outer, within}
use Rattle.hyperlmntal.proofs.Relational.{Alike}
use Rattle.hyperlmntal.proofs.Connection.{connected-ind}
use Rattle.hyperlmntal.proofs.Flats.{on-fusions, ends-in}
use Rattle.hyperlmntal.proofs.Equivalence.{partners-alike}
use Rattle.hyperlmntal.proofs.ExactPorts.{exact-names}
use Rattle.placing.specs.Net.{NetCell, Net, Range, atom_vertex, net_graph}
use Rattle.placing.specs.Placing.{Placing, number_at, cell_at, atom_target, link_target, given_to, Taken, At, Linked, here, step, Sending, Across, SameMarks}
use Rattle.placing.specs.Fillings.{edge_row}
use Rattle.placing.specs.Filled.{flat_entry}
use Rattle.placing.proofs.Lists.{each-of-maps, each-sends}
use Rattle.placing.proofs.Names.{net-name, name-net, all-exact-flat}
use Rattle.placing.proofs.Reduction.{filled}
use Rattle.placing.proofs.Filled.{FilledNode, fig_n, own_n, mark_n, fig_cell, own_cell, rows_for, Slot, slot-member, slot-one, exact-for, Edge, at_mark, at-point, at-port, edge-of, mark-edge}
use Rattle.placing.proofs.Standing.{atom-link, context-link, mark-link, on-link, cell_in, port-in}
use Rattle.placing.proofs.Origins.{Solution, A, H, to, from, R, sheet-size, sheet-at, figure-at, Origin, of-figure, of-context, nowhere, origin, number_of, from-below}
use Rattle.placing.proofs.Landing.{Reach, reach-real, meet, mark-anchor, placing_of, sizes, atom-to, given_to_lem, link-of, link-back, link-range, figure-below, taken-figure, figure-taken}

module _ (C : Solution) where
  abbrev S : Net
  S = C.sheet

  abbrev F : Net
  F = C.figure

  abbrev p : Placing
  p = placing_of C

  -- A sheet atom that no figure atom goes to is an atom of a filling.
  pub record Owner (j : ℕ) : Type 0 where
    pub slot : ℕ
    pub row : NetCell
    pub atom : NetCell
    pub there : Slot F C.fillings C.fits slot row
    pub stands : get_elem? (A C) (from C (j - 1)) ≡ some (own_cell slot atom)
    pub number : given_to p j ≡ row.0

  pub owner : (j : ℕ) → Range (length S.atoms) j → length F.atoms ≤ from C (j - 1) → Owner j
  owner j h k = at (origin C (from C (j - 1))) (given_to_lem C j h)
    where
      at : (o : Origin C (from C (j - 1))) → given_to p j ≡ number_of C o → Owner j
      at (of-figure l) e = absurd (omega arith)
      at (of-context q c d s l r) e = record { slot = q; row = c; atom = d; there = s; stands = r; number = e }
      at (nowhere l) e = let b = from-below C j h in absurd (omega arith)

  not-given : (j : ℕ) → Range (length S.atoms) j → Taken S F p j → given_to p j ≡ 0
  not-given j h t = given_to_lem C j h ∙ at (origin C (from C (j - 1)))
    where
      at : (o : Origin C (from C (j - 1))) → number_of C o ≡ 0
      at (of-figure l) = refl
      at (of-context q c d s l r) = let b = taken-figure C j h t in absurd (omega arith)
      at (nowhere l) = refl

  pub not_taken : (j : ℕ) → Range (length S.atoms) j → ¬ Taken S F p j → length F.atoms ≤ from C (j - 1)
  not_taken j h n = at (dec_lt (from C (j - 1)) (length F.atoms))
    where
      at : Dec (from C (j - 1) < length F.atoms) → length F.atoms ≤ from C (j - 1)
      at (yes l) = absurd (n (figure-taken C j h l))
      at (no l) = omega arith

  to-atoms : (i : ℕ) → Range (length F.atoms) i → Range (length S.atoms) (atom_target p i)
  to-atoms i h =
      let a : 1 ≤ i = h.0 in
      let b : i ≤ length F.atoms = h.1 in
      let q = C.same.vertices.to_below (i - 1) (figure-below C (i - 1) (omega arith)) in
      let n = sheet-size C in
      let e = atom-to C i h in
      (omega arith, omega arith)

  different : (i j : ℕ) → Range (length F.atoms) i → Range (length F.atoms) j → atom_target p i ≡ atom_target p j → i ≡ j
  different i j h k e =
      let a : 1 ≤ i = h.0 in
      let b : i ≤ length F.atoms = h.1 in
      let c : 1 ≤ j = k.0 in
      let d : j ≤ length F.atoms = k.1 in
      let x = atom-to C i h in
      let y = atom-to C j k in
      let q : to C (i - 1) ≡ to C (j - 1) = omega arith in
      let r : from C (to C (i - 1)) ≡ from C (to C (j - 1)) = ap (from C) q in
      let u : from C (to C (i - 1)) ≡ i - 1 = C.same.vertices.from-to (i - 1) (figure-below C (i - 1) (omega arith)) in
      let v : from C (to C (j - 1)) ≡ j - 1 = C.same.vertices.from-to (j - 1) (figure-below C (j - 1) (omega arith)) in
      omega arith

  pub sending : Sending S F p
  sending = record {
    atoms-sent = (sizes C).0;
    to-atoms = to-atoms;
    different = different;
    links-sent = (sizes C).1;
    to-links = link-range C;
    atoms-given = (sizes C).2;
    not-given = not-given;
    to-contexts = λ j h n. let o = owner j h (not_taken j h n) in (o.row, slot-member F C.fillings C.fits o.there, sym o.number);
  }

  -- 'names and joint counts agree, and the joints go across place by place'
  pub across : (i : ℕ) → Range (length F.atoms) i → Across S F p i
  across i h = record { name = let e : symbol (cell_at F.atoms i).0 ≡ symbol (cell_at S.atoms (atom_target p i)).0 = alike.0 in cc; places = each-sends (link_target p) (each-of-maps fig_n inner (cell_at F.atoms i).1 (cell_at S.atoms (atom_target p i)).1 alike.1) sent }
    where
      alike : Alike (R C) (fig_cell (cell_at F.atoms i)) (atom_vertex (cell_at S.atoms (atom_target p i)))
      alike =
          let e = atom-to C i h in
          partners-alike (filled F C.fillings) (net_graph S) C.same (i - 1) (fig_cell (cell_at F.atoms i)) (atom_vertex (cell_at S.atoms (atom_target p i))) (figure-at C i h)
          (ap (get_elem? (net_graph S).atoms) (let z : to C (i - 1) ≡ atom_target p i - 1 = omega arith in z) ∙ sheet-at C (atom_target p i) (to-atoms i h))

      sent : (x y : ℕ) → x ∈ (cell_at F.atoms i).1 → y ∈ (cell_at S.atoms (atom_target p i)).1 → R C (fig_n x) (inner y) → link_target p x ≡ y
      sent x y m k r =
          link-of C x y (atom-link F C.figure-normal (cell_at F.atoms i) x (cell_in F.atoms i h) m)
          ((fig_n x, inner y, r, on-link refl (atom-link S C.sheet-normal (cell_at S.atoms (atom_target p i)) y (cell_in S.atoms (atom_target p i) (to-atoms i h)) k)), stay)

  -- 'both carry the same marks, and a marked joint goes to the sheet joint with that mark'
  pub same-marks : SameMarks S F p
  same-marks = record { onward = onward; backward = backward }
    where
      onward : (x m : ℕ) → (x, m) ∈ F.marks → (link_target p x, m) ∈ S.marks
      onward x m i =
          let e = mark-edge F C.fillings C.fits x m i in
          let t = net-name S (free m) ((C.same.names (free m)).0 (on-fusions (filled F C.fillings) (ends-in e).1)) in
          let q : free m ≡ free t.1 = t.3 in
          let k : (t.0, m) ∈ S.marks = Memᴰ.cast (ap (λ n. (t.0, n)) (let z : m ≡ t.1 = cc in z)) t.2 in
          Memᴰ.cast (ap (λ y. (y, m)) (link-of C x t.0 (mark-link F C.figure-normal x m i) (mark-anchor C t.0 m k, along e))) k

      backward : (y m : ℕ) → (y, m) ∈ S.marks → (x : ℕ) × ((x, m) ∈ F.marks)
      backward y m i =
          let k = (C.same.names (free m)).1 (name-net S y m i) in
          let t = net-name F (free m) ((exact-names ℕ ℕ (map flat_entry C.fillings) (all-exact-flat F C.fillings C.fits) (free m) (net_graph F)).0 k) in
          let q : free m ≡ free t.1 = t.3 in
          (t.0, Memᴰ.cast (ap (λ n. (t.0, n)) (let z : m ≡ t.1 = cc in z)) t.2)

  linked-then : {y x x' x'' : ℕ} → Linked S F p y x x' → Linked S F p y x' x'' → Linked S F p y x x''
  linked-then here m = m
  linked-then (step s l) m = step s (linked-then l m)

  -- A connection between two figure links, followed from one to the next.
  module _ (x y : ℕ) (hx : Range F.links x) (rx : Reach C x y) where
    at_of : (z : ℕ) → Range F.links z → Connected (H C) (fig_n x) (fig_n z) → At S F p z y
    at_of z h c = record { figure-link = h; sheet-link = reach-real C rx; there = link-of C z y h (rx.0, then (back c) rx.1) }

    abbrev Way : FilledNode → Type 0
    Way (inner (outer z)) = Linked S F p y x z
    Way (inner (within k n)) = (z : ℕ) × (c : NetCell) × Slot F C.fillings C.fits k c × (z ∈ c.1) × Linked S F p y x z × Connected (H C) (fig_n x) (fig_n z)
    Way (name X) = (z : ℕ) × (m : ℕ) × ((z, m) ∈ F.marks) × (X ≡ free m) × Linked S F p y x z

    abbrev Along : FilledNode → Type 0
    Along n = Connected (H C) (fig_n x) n × Way n

    mark-case : (z m : ℕ) → (z, m) ∈ F.marks → Connected (H C) (fig_n z) (mark_n m) → Along (fig_n z) ↔ Along (mark_n m)
    mark-case z m i c = (λ u. (then u.0 c, (z, m, i, refl, u.1)), λ u. (then u.0 (back c), last u.1))
      where
        last : Way (mark_n m) → Linked S F p y x z
        last w = let e : free m ≡ free w.1 = w.3 in subst (Linked S F p y x) (C.figure-normal.one_link w.0 z m (Memᴰ.cast (ap (λ k. (w.0, k)) (let q : m ≡ w.1 = cc in q)) w.2) i) w.4

    port-case : (k : ℕ) (c : NetCell) (s : Slot F C.fillings C.fits k c) (a i : ℕ) → edge_row a i ∈ rows_for F C.fillings C.fits c → Connected (H C) (own_n k a) (fig_n (number_at c.1 i)) → Along (own_n k a) ↔ Along (fig_n (number_at c.1 i))
    port-case k c s a i j w = (λ u. (then u.0 w, last u), λ u. (then u.0 (back w), (z, c, s, mz, u.1, u.0)))
      where
        mc : c ∈ F.contexts
        mc = slot-member F C.fillings C.fits s

        z : ℕ
        z = number_at c.1 i

        mz : z ∈ c.1
        mz = port-in c.1 i (exact-for F C.fillings C.fits c mc a i j)

        last : Along (own_n k a) → Linked S F p y x z
        last u =
            let v = u.1 in
            let mv : v.0 ∈ c.1 = subst (λ d. v.0 ∈ d.1) (slot-one F C.fillings C.fits v.2 s) v.3 in
            linked-then v.4
            (step (record { row = c; of-figure = mc; first = mv; second = mz; first-at = at_of v.0 (context-link F C.figure-normal c v.0 mc mv) v.5; second_at = at_of z (context-link F C.figure-normal c z mc mz) (then u.0 w) }) here)

    way-edge : (e : Fusion (Spot ℕ ℕ)) → e ∈ H C → Along e.0 ↔ Along e.1
    way-edge e m = at (edge-of F C.fillings C.fits e m)
      where
        there : (d : Fusion (Spot ℕ ℕ)) → d ≡ e → Connected (H C) d.0 d.1
        there d q = along (Memᴰ.cast q m)

        at : Edge F C.fillings C.fits e → Along e.0 ↔ Along e.1
        at (at_mark z n i q) = subst (λ d. Along d.0 ↔ Along d.1) q (mark-case z n i (there (fig_n z, mark_n n) q))
        at (at-point k c s a b i q) = subst (λ d. Along d.0 ↔ Along d.1) q (let w = there (own_n k a, own_n k b) q in (λ u. (then u.0 w, u.1), λ u. (then u.0 (back w), u.1)))
        at (at-port k c s a i j q) = subst (λ d. Along d.0 ↔ Along d.1) q (port-case k c s a i j (there (own_n k a, fig_n (number_at c.1 i)) q))

    follow : (z : ℕ) → Connected (H C) (fig_n x) (fig_n z) → Linked S F p y x z
    follow z c = ((connected-ind (H C) Along way-edge c).0 (stay, here)).1

  -- 'two figure joints that go to one sheet joint are linked by steps, each between two joints of one B row, all going there'
  pub linked : (x x' y : ℕ) → At S F p x y → At S F p x' y → Linked S F p y x x'
  linked x x' y a b =
      let r = link-back C x y a.figure-link a.there a.sheet-link in
      let s = link-back C x' y b.figure-link b.there b.sheet-link in
      follow x y a.figure-link r x' (then r.1 (then (meet C r.0 s.0) (back s.1)))
