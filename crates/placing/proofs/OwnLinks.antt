-- From fillings to a placing: the joints of atoms given to a blank; so the placing is good.
use Prim.Native.Nat.{ℕ, suc, ◌-◌, ◌<◌}
use mathlib.Core.Path.{◌≡◌, refl, ap, sym, ◌∙◌, subst}
use mathlib.Core.Logic.{◌⊎◌, inl, inr, ◌↔◌}
use mathlib.Core.List.Memᴰ
use native.Mathlib.Omega.{arith}
use native.Mathlib.Decide.{ℕ_discrete, dec_lt}
use lib.ListN.{length, get_elem?}
use Rattle.hyperlmntal.specs.Link.{◌∈◌}
use Rattle.hyperlmntal.specs.Hypergraph.{inner, Fusion, Connected, stay, along, back, then}
use Rattle.hyperlmntal.specs.DenotedSubstitution.{Spot}
use Rattle.hyperlmntal.proofs.Connection.{connected-ind}
use Rattle.hyperlmntal.proofs.TellApart.{some-dec}
use Rattle.placing.specs.Net.{NetCell, Net, Range}
use Rattle.placing.specs.Placing.{Placing, number_at, cell_at, link_target, given_to, Taken, PortAt, Inside, Good}
use Rattle.placing.specs.Fillings.{edge_row}
use Rattle.placing.proofs.Lists.{each-of-maps, each_right}
use Rattle.placing.proofs.Filled.{FilledNode, fig_n, own_n, mark_n, fig_cell, own_cell, rows_for, Slot, slot-member, slot-one, exact-for, Edge, at_mark, at-point, at-port, edge-of}
use Rattle.placing.proofs.Standing.{atom-link, context-link, on-link, cell_in, port-in}
use Rattle.placing.proofs.Origins.{Solution, A, H, from, R, figure-at, cells-alike}
use Rattle.placing.proofs.Landing.{Anchor, meet, mark-anchor, placing_of, link-of, link-back, taken-figure}
use Rattle.placing.proofs.FillingsPlacing.{Owner, owner, not_taken, sending, across, same-marks, linked}

module _ (C : Solution) where
  abbrev S : Net
  S = C.sheet

  abbrev F : Net
  F = C.figure

  abbrev p : Placing
  p = placing_of C

  own-figure : {k n x : ℕ} → ◌≡◌ {A = FilledNode} (fig_n x) (own_n k n) → ⊥
  own-figure e = let z : ◌≡◌ {A = ℕ} 0 1 = cc in omega arith

  own-mark : {k n m : ℕ} → ◌≡◌ {A = FilledNode} (mark_n m) (own_n k n) → ⊥
  own-mark e = let z : ◌≡◌ {A = ℕ} 0 1 = cc in omega arith

  own-slot : {k j n m : ℕ} → ◌≡◌ {A = FilledNode} (own_n k n) (own_n j m) → k ≡ j
  own-slot e = cc

  -- A connection from inside the filling at k stays there or comes to a link of its row.
  module _ (k : ℕ) (c : NetCell) (sc : Slot F C.fillings C.fits k c) (n : ℕ) where
    abbrev Leave : FilledNode → Type 0
    Leave b = ((m : ℕ) × (b ≡ own_n k m)) ⊎ ((x : ℕ) × (x ∈ c.1) × Connected (H C) (own_n k n) (fig_n x))

    abbrev Trip : FilledNode → Type 0
    Trip b = Connected (H C) (own_n k n) b × Leave b

    outside : {a : FilledNode} (b : FilledNode) → ((m : ℕ) → a ≡ own_n k m → ⊥) → Leave a → Leave b
    outside b f (inl t) = absurd (f t.0 t.1)
    outside b f (inr t) = inr t

    point : (j a b : ℕ) → Leave (own_n j a) → Leave (own_n j b)
    point j a b (inl t) = inl (b, ap (λ i. own_n i b) (own-slot t.1))
    point j a b (inr t) = inr t

    port : (j : ℕ) (d : NetCell) → Slot F C.fillings C.fits j d → (a i : ℕ) → edge_row a i ∈ rows_for F C.fillings C.fits d → Connected (H C) (own_n k n) (fig_n (number_at d.1 i)) → Leave (own_n j a) → Leave (fig_n (number_at d.1 i))
    port j d sd a i m w (inl t) =
        let q : d ≡ c = slot-one F C.fillings C.fits (subst (λ z. Slot F C.fillings C.fits z d) (own-slot t.1) sd) sc in
        inr (number_at d.1 i, subst (λ r. number_at d.1 i ∈ r.1) q (port-in d.1 i (exact-for F C.fillings C.fits d (slot-member F C.fillings C.fits sd) a i m)), w)
    port j d sd a i m w (inr t) = inr t

    trip-edge : (e : Fusion (Spot ℕ ℕ)) → e ∈ H C → Trip e.0 ↔ Trip e.1
    trip-edge e me = at (edge-of F C.fillings C.fits e me)
      where
        there : (d : Fusion (Spot ℕ ℕ)) → d ≡ e → Connected (H C) d.0 d.1
        there d q = along (Memᴰ.cast q me)

        at : Edge F C.fillings C.fits e → Trip e.0 ↔ Trip e.1
        at (at_mark z m i q) = subst (λ d. Trip d.0 ↔ Trip d.1) q (let w = there (fig_n z, mark_n m) q in (λ u. (then u.0 w, outside (mark_n m) (λ l r. own-figure r) u.1), λ u. (then u.0 (back w), outside (fig_n z) (λ l r. own-mark r) u.1)))
        at (at-point j d sd a b i q) = subst (λ d. Trip d.0 ↔ Trip d.1) q (let w = there (own_n j a, own_n j b) q in (λ u. (then u.0 w, point j a b u.1), λ u. (then u.0 (back w), point j b a u.1)))
        at (at-port j d sd a i m q) = subst (λ d. Trip d.0 ↔ Trip d.1) q (let w = there (own_n j a, fig_n (number_at d.1 i)) q in (λ u. (then u.0 w, port j d sd a i m (then u.0 w) u.1), λ u. (then u.0 (back w), outside (own_n j a) (λ l r. own-figure r) u.1)))

    leave : (b : FilledNode) → Connected (H C) (own_n k n) b → Leave b
    leave b w = ((connected-ind (H C) Trip trip-edge w).0 (stay, inl (n, refl))).1

  -- A link y of sheet atom j, which is an atom of the filling at o.slot.
  module _ (j : ℕ) (h : Range (length S.atoms) j) (o : Owner C j) (y : ℕ) (my : y ∈ (cell_at S.atoms j).1) where
    real : Range S.links y
    real = atom-link S C.sheet-normal (cell_at S.atoms j) y (cell_in S.atoms j h) my

    mc : o.row ∈ F.contexts
    mc = slot-member F C.fillings C.fits o.there

    -- Its node in the filling.
    own : (n : ℕ) × (n ∈ o.atom.1) × R C (own_n o.slot n) (inner y)
    own = each_right (each-of-maps (own_n o.slot) inner o.atom.1 (cell_at S.atoms j).1 (cells-alike C j h (own_cell o.slot o.atom) o.stands).1) y my

    abbrev home : Anchor C y
    home = (own_n o.slot own.0, inner y, own.2, on-link refl real)

    abbrev AtPort : Type 0
    AtPort = (x : ℕ) × (x ∈ o.row.1) × (link_target p x ≡ y)

    stays : ¬ AtPort → (b : FilledNode) → Connected (H C) (own_n o.slot own.0) b → (m : ℕ) × (b ≡ own_n o.slot m)
    stays none b w = at (leave o.slot o.row o.there own.0 b w)
      where
        at : Leave o.slot o.row o.there own.0 b → (m : ℕ) × (b ≡ own_n o.slot m)
        at (inl t) = t
        at (inr t) = absurd (none (t.0, t.1, link-of C t.0 y (context-link F C.figure-normal o.row t.0 mc t.1) (home, back t.2)))

    only-there : ¬ AtPort → (i : ℕ) → Range (length S.atoms) i → y ∈ (cell_at S.atoms i).1 → (¬ Taken S F p i) × (given_to p i ≡ given_to p j)
    only-there none i hi m = at (dec_lt (from C (i - 1)) (length F.atoms))
      where
        at : Dec (from C (i - 1) < length F.atoms) → (¬ Taken S F p i) × (given_to p i ≡ given_to p j)
        at (yes l) =
            let q = suc (from C (i - 1)) in
            let z : q - 1 ≡ from C (i - 1) = omega arith in
            let a = cells-alike C i hi (fig_cell (cell_at F.atoms q)) (ap (get_elem? (A C)) (sym z) ∙ figure-at C q (omega arith, omega arith)) in
            let t = each_right (each-of-maps fig_n inner (cell_at F.atoms q).1 (cell_at S.atoms i).1 a.1) y m in
            absurd (own-figure (stays none (fig_n t.0) (meet C home (fig_n t.0, inner y, t.2, on-link refl real))).1)
        at (no l) =
            let w = owner C i hi (omega arith) in
            let a = cells-alike C i hi (own_cell w.slot w.atom) w.stands in
            let t = each_right (each-of-maps (own_n w.slot) inner w.atom.1 (cell_at S.atoms i).1 a.1) y m in
            let e : w.slot ≡ o.slot = own-slot (stays none (own_n w.slot t.0) (meet C home (own_n w.slot t.0, inner y, t.2, on-link refl real))).1 in
            (λ u. l (taken-figure C i hi u), w.number ∙ ap (λ c. c.0) (slot-one F C.fillings C.fits w.there (subst (λ k. Slot F C.fillings C.fits k o.row) (sym e) o.there)) ∙ sym o.number)

    own-link : PortAt S F p (given_to p j) y ⊎ Inside S F p (given_to p j) y
    own-link = at (some-dec (λ x. link_target p x ≡ y) (λ x. ℕ_discrete (link_target p x) y) o.row.1)
      where
        at : Dec AtPort → PortAt S F p (given_to p j) y ⊎ Inside S F p (given_to p j) y
        at (yes t) = inl (record { row = o.row; of-figure = mc; number = sym o.number; link = t.0; port = t.1; there = t.2 })
        at (no none) = inr (record {
          no-figure-link = λ x hx e. let s = link-back C x y hx e real in own-figure (stays none (fig_n x) (then (meet C home s.0) (back s.1))).1;
          no-mark = λ m i. own-mark (stays none (mark_n m) (meet C home (mark-anchor C y m i))).1;
          only-there = only-there none;
        })

  pub good : Good S F p
  good = record { sending = sending C; across = across C; same-marks = same-marks C; linked = linked C; own-links = λ j h n y m. own-link j h (owner C j h (not_taken C j h n)) y m }
