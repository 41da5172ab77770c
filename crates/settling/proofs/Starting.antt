-- The state that placed atoms and marks leave: what is not told is open.
use Prim.Native.Nat.{ℕ, suc, ◌+◌, ◌-◌, ◌<◌}
use mathlib.Core.Path.{◌≡◌, refl, sym, ◌∙◌, ap, subst}
use mathlib.Core.Logic.{◌≢◌}
use mathlib.Core.List.{List, map}
use native.Mathlib.Decide.{ℕ_discrete}
use native.Mathlib.Omega.{arith}
use native.Mathlib.Numerals.{add-one}
use lib.ListN.{length, take, get_or, length-map}
use lib.Seq.{get_or-take, length-take-le, ext_get_or}
use Rattle.hyperlmntal.specs.Link.{◌∈◌}
use Rattle.rows.specs.declared.Atom.{Atom}
use Rattle.rows.specs.declared.Sheet as form
use Rattle.placing.specs.Net.{NetCell, Net, Range}
use Rattle.placing.specs.Placing.{Placing, number_at, cell_at, atom_target, link_target, Taken, Across, SameMarks, Good}
use Rattle.placing.proofs.Lists.{member-at, get_d_of}
use Rattle.network.specs.NetIn.{atom_in, net_in, atom_at, Used}
use Rattle.network.specs.Ready.{Ready, AtomsIn, LinksIn, state_in, Flag, TakenIn}
use Rattle.network.proofs.NetIn.{used-length, used-at, atoms-length, atom-cell, atom-used, mark-in, mark_of}
use Rattle.completing.specs.Completion.{Open, Partial}
use Rattle.completing.specs.Leaf.{OpenLinks, StateOf, NoneWith}
use Rattle.completing.proofs.State.{state-partial}
use Rattle.rows.proofs.Lists.{get_d-mapped}
use Rattle.deciding.specs.Flags.{Twice, Different, Opens}
use Rattle.deciding.specs.Agrees.{AtomAgrees, Agrees}
use Rattle.settling.specs.Completes.{unsettled, Placed}
use Rattle.deciding.proofs.Flagged.{flagged-in, FlaggedAt, flagged-out}
use Rattle.deciding.proofs.Places.{number-some}

-- a place counted from 1
back : (i n : ℕ) → Range n i → i ≡ suc (i - 1)
back i n r = omega (arith, r.0)

module _ (sheet figure : form.Sheet) (ready : Ready sheet figure) (atoms : List ℕ) (a : AtomsIn sheet figure.atom_count atoms) where
  abbrev S : Net
  S = net_in sheet

  abbrev F : Net
  F = net_in figure

  abbrev l : List ℕ
  l = take figure.atom_count atoms

  figure-atoms : length F.atoms ≡ figure.atom_count
  figure-atoms = atoms-length figure ready.figure-fit

  sheet-atoms : length S.atoms ≡ sheet.atom_count
  sheet-atoms = atoms-length sheet ready.sheet-fit

  pub size : length l ≡ length F.atoms
  size = length-take-le figure.atom_count atoms (omega (arith, a.room, ready.figure-fit.atom-count)) ∙ sym figure-atoms

  index : (i : ℕ) → Range (length F.atoms) i → i - 1 < figure.atom_count
  index i r = omega (arith, r.0, r.1, figure-atoms)

  goes : (i : ℕ) → Range (length F.atoms) i → number_at l i ≡ get_or atoms (i - 1) 0
  goes i r = get_or-take figure.atom_count atoms (i - 1) 0 (index i r)

  -- two figure atoms at one sheet atom
  pub twice-none : Twice atoms figure.atom_count → NoneWith S F l
  twice-none t p g e = t.apart (omega (arith, g.sending.different (suc t.one) (suc t.two) (range t.one t.one_in) (range t.two t.two_in) same))
    where
      range : (i : ℕ) → i < figure.atom_count → Range (length F.atoms) (suc i)
      range i h = (omega arith, omega (arith, figure-atoms))

      at : (i : ℕ) → i < figure.atom_count → atom_target p (suc i) ≡ get_or atoms i 0
      at i h = ap (λ (k : List ℕ). number_at k (suc i)) e ∙ (goes (suc i) (range i h) ∙ ap (λ (j : ℕ). get_or atoms j 0) (let q : suc i - 1 ≡ i = omega arith in q))

      same : atom_target p (suc t.one) ≡ atom_target p (suc t.two)
      same = at t.one t.one_in ∙ (t.same ∙ sym (at t.two t.two_in))

  module _ (told : List ℕ) (w : Agrees sheet figure atoms told) where
    -- what an atom or a mark decides is told
    module _ (i : ℕ) (r : Range (length F.atoms) i) where
      abbrev mine : Atom
      mine = atom_at figure (i - 1)

      abbrev there : Atom
      there = atom_at sheet (get_or atoms (i - 1) 0 - 1)

      agrees : AtomAgrees sheet figure told (i - 1) (get_or atoms (i - 1) 0 - 1)
      agrees = w.atoms-agree (i - 1) (index i r)

      figure-range : Range figure.atom_count i
      figure-range = (r.0, omega (arith, r.1, figure-atoms))

      figure-cell : cell_at F.atoms i ≡ atom_in mine
      figure-cell = atom-cell figure ready.figure-fit i figure-range

      figure-used : Used figure.class_count mine.count mine.links
      figure-used = atom-used figure ready.figure-fit i figure-range

      sheet-cell : cell_at S.atoms (number_at l i) ≡ atom_in there
      sheet-cell = ap (cell_at S.atoms) (goes i r) ∙ atom-cell sheet ready.sheet-fit (get_or atoms (i - 1) 0) (a.within (i - 1) (index i r))

      sheet-used : Used sheet.class_count there.count there.links
      sheet-used = atom-used sheet ready.sheet-fit (get_or atoms (i - 1) 0) (a.within (i - 1) (index i r))

      place-some : (k : ℕ) → k < mine.count → number_at told (get_or mine.links k 0) ≢ 0
      place-some k h e = number-some (get_or there.links k 0) (sheet-used.numbered k (omega (arith, agrees.count))).0 (sym (agrees.places k h) ∙ e)

    mark-some : (i : ℕ) → i < figure.mark_count → number_at told (get_or figure.marked i 0) ≢ 0
    mark-some i h e = let m = w.marks-agree i h in number-some (get_or sheet.marked m.at 0) (ready.sheet-fit.marked m.at m.on-sheet).0 (sym m.link ∙ e)

    zero-open : (x : ℕ) → x < figure.class_count → get_or told x 0 ≡ 0 → Open F (suc x)
    zero-open x h e = record { is-link = (omega arith, omega arith); no-atom = no-atom; no-mark = no-mark }
      where
        at : (z : ℕ) → z ≡ suc x → number_at told z ≡ 0
        at z f = ap (λ (j : ℕ). get_or told j 0) (let q : z - 1 ≡ x = omega arith in q) ∙ e

        no-atom : (i : ℕ) → Range (length F.atoms) i → ¬ (suc x ∈ (cell_at F.atoms i).1)
        no-atom i r m =
            let links = (mine i r).links in
            let count = (mine i r).count in
            let t = member-at (take count links) (suc x) (subst (λ (c : NetCell). suc x ∈ c.1) (figure-cell i r) m) in
            let k : t.0 < count = omega (arith, t.1, used-length figure.class_count count links (figure-used i r)) in
            place-some i r t.0 k (at (get_or links t.0 0) (sym (used-at figure.class_count count links (figure-used i r) t.0 k) ∙ get_d_of (take count links) t.0 0 (suc x) t.2))

        no-mark : (m : ℕ) → ¬ ((suc x, m) ∈ F.marks)
        no-mark m u = let t = mark_of figure ready.figure-fit (suc x, m) u in
            mark-some t.0 t.1 (at (get_or figure.marked t.0 0) (ap (λ (z : ℕ × ℕ). z.0) t.2))

    open-zero : (x : ℕ) → Open F (suc x) → get_or told x 0 ≡ 0
    open-zero x o = go (ℕ_discrete (get_or told x 0) 0)
      where
        go : Dec (get_or told x 0 ≡ 0) → get_or told x 0 ≡ 0
        go (yes e) = e
        go (no n) = absurd ((w.told.told x n).closed o)

    module _ (to flags : List ℕ) (o : Opens told (sheet.class_count + 1) figure.class_count to flags) where
      abbrev q : Placing
      q = state_in figure atoms to

      abbrev un : List ℕ
      un = unsettled figure flags

      at-link : (x : ℕ) → Range F.links x → link_target q x ≡ get_or to (x - 1) 0
      at-link x r = get_or-take figure.class_count to (x - 1) 0 (omega (arith, r.0, r.1))

      -- a link that is told goes there
      told-link : (x : ℕ) → Range F.links x → number_at told x ≢ 0 → link_target q x ≡ number_at told x
      told-link x r n = at-link x r ∙ (o.kept (x - 1) (omega (arith, r.0, r.1)) n).0

      pub open-links : OpenLinks F un
      open-links = record { are-open = are-open; all-open = all-open }
        where
          are-open : (x : ℕ) → x ∈ un → Open F x
          are-open x m = let t = flagged-out figure.class_count flags x m in subst (Open F) (sym t.number) (zero-open t.index t.within (go t (ℕ_discrete (get_or told t.index 0) 0)))
            where
              go : (t : FlaggedAt figure.class_count flags x) → Dec (get_or told t.index 0 ≡ 0) → get_or told t.index 0 ≡ 0
              go t (yes e) = e
              go t (no n) = absurd (omega (arith, t.flag, (o.kept t.index t.within n).1))

          all-open : (x : ℕ) → Open F x → x ∈ un
          all-open x p =
              let r = p.is-link in
              let e = back x F.links r in
              let h : x - 1 < figure.class_count = omega (arith, r.0, r.1) in
              subst (λ (z : ℕ). z ∈ un) (sym e) (flagged-in figure.class_count flags (x - 1) h (o.opened (x - 1) h (open-zero (x - 1) (subst (Open F) e p))).1)

      pub state-of : StateOf S F l q
      state-of = record {
        atoms = refl;
        links-sent = length-take-le figure.class_count to (omega (arith, o.to_room, ready.figure-fit.class-count));
        open_none = λ x p. let r = p.is-link in
            at-link x r ∙ ((o.opened (x - 1) (omega (arith, r.0, r.1)) (open-zero (x - 1) (subst (Open F) (back x F.links r) p))).0 ∙ add-one sheet.class_count);
        decided = decided;
      }
        where
          decided : (x : ℕ) → Range F.links x → ¬ Open F x → (p : Placing) → Good S F p → p.atoms_to ≡ l → link_target p x ≡ link_target q x
          decided x r n p g e =
              let f = back x F.links r in
              let some : number_at told x ≢ 0 = λ z. n (subst (Open F) (sym f) (zero-open (x - 1) (omega (arith, r.0, r.1)) z)) in
              subst (λ (z : ℕ). link_target p z ≡ number_at told x) (sym f) ((w.told.told (x - 1) some).said p g e) ∙ sym (told-link x r some)

      across : (i : ℕ) → Range (length F.atoms) i → Across S F q i
      across i r = record { name = ap (λ (c : NetCell). c.0) (figure-cell i r) ∙ ((agrees i r).name ∙ sym (ap (λ (c : NetCell). c.0) (sheet-cell i r))); places = ext_get_or 0 _ _ lengths each }
        where
          fig : length (cell_at F.atoms i).1 ≡ (mine i r).count
          fig = ap (λ (c : NetCell). length c.1) (figure-cell i r) ∙ used-length figure.class_count (mine i r).count (mine i r).links (figure-used i r)

          lengths : length (map (link_target q) (cell_at F.atoms i).1) ≡ length (cell_at S.atoms (atom_target q i)).1
          lengths = length-map (cell_at F.atoms i).1 (link_target q) ∙ (fig ∙ ((agrees i r).count
              ∙ sym (ap (λ (c : NetCell). length c.1) (sheet-cell i r) ∙ used-length sheet.class_count (there i r).count (there i r).links (sheet-used i r))))

          each : (k : ℕ) → k < length (map (link_target q) (cell_at F.atoms i).1) → get_or (map (link_target q) (cell_at F.atoms i).1) k 0 ≡ get_or (cell_at S.atoms (atom_target q i)).1 k 0
          each k h =
              let few : k < length (cell_at F.atoms i).1 = omega (arith, length-map (cell_at F.atoms i).1 (link_target q)) in
              let m : k < (mine i r).count = omega (arith, fig) in
              let at = ap (λ (c : NetCell). get_or c.1 k 0) (figure-cell i r) ∙ used-at figure.class_count (mine i r).count (mine i r).links (figure-used i r) k m in
              get_d-mapped (link_target q) (cell_at F.atoms i).1 k 0 0 few ∙ (ap (link_target q) at
              ∙ (told-link (get_or (mine i r).links k 0) ((figure-used i r).numbered k m) (place-some i r k m) ∙ ((agrees i r).places k m
              ∙ sym (ap (λ (c : NetCell). get_or c.1 k 0) (sheet-cell i r) ∙ used-at sheet.class_count (there i r).count (there i r).links (sheet-used i r) k (omega (arith, (agrees i r).count))))))

      same-marks : SameMarks S F q
      same-marks = record { onward = onward; backward = backward }
        where
          onward : (x m : ℕ) → (x, m) ∈ F.marks → (link_target q x, m) ∈ S.marks
          onward x m h =
              let t = mark_of figure ready.figure-fit (x, m) h in
              let i = t.0 in
              let u = w.marks-agree i t.1 in
              let e : get_or figure.marked i 0 ≡ x = ap (λ (z : ℕ × ℕ). z.0) t.2 in
              let f : get_or sheet.marks u.at 0 ≡ m = u.mark ∙ ap (λ (z : ℕ × ℕ). z.1) t.2 in
              let g : link_target q x ≡ get_or sheet.marked u.at 0 = ap (link_target q) (sym e) ∙ (told-link (get_or figure.marked i 0) (ready.figure-fit.marked i t.1) (mark-some i t.1) ∙ u.link) in
              subst (λ (y : ℕ). (y, m) ∈ S.marks) (sym g) (subst (λ (n : ℕ). (get_or sheet.marked u.at 0, n) ∈ S.marks) f (mark-in sheet ready.sheet-fit u.at u.on-sheet))

          backward : (y m : ℕ) → (y, m) ∈ S.marks → (x : ℕ) × ((x, m) ∈ F.marks)
          backward y m h =
              let t = mark_of sheet ready.sheet-fit (y, m) h in
              let u = w.marks-back t.0 t.1 in
              let f : get_or figure.marks u.0 0 ≡ m = u.2 ∙ ap (λ (z : ℕ × ℕ). z.1) t.2 in
              (get_or figure.marked u.0 0, subst (λ (n : ℕ). (get_or figure.marked u.0 0, n) ∈ F.marks) f (mark-in figure ready.figure-fit u.0 u.1))

      module _ (taken : List ℕ) (d : Different atoms figure.atom_count taken) where
        partial : Partial S F q un
        partial = state-partial S F ready.sheet-normal ready.figure-normal l q un state-of open-links size
            (λ i r. let k = a.within (i - 1) (index i r) in subst (Range (length S.atoms)) (sym (goes i r)) (k.0, omega (arith, k.1, sheet-atoms)))
            (λ i j r s e. let f = d.apart (i - 1) (j - 1) (index i r) (index j s) (sym (goes i r) ∙ (e ∙ goes j s)) in omega (arith, r.0, s.0))
            across same-marks

        taken_in : TakenIn sheet figure q taken
        taken_in = record { room = d.room; flags = λ j r. (onward j r, backward j) }
          where
            onward : (j : ℕ) → Range sheet.atom_count j → Flag taken j → Taken S F q j
            onward j r f =
                let t = d.of-flag (j - 1) f in
                let i = t.0 in
                let h : i < figure.atom_count = t.1 in
                let k : Range (length F.atoms) (suc i) = (omega arith, omega (arith, figure-atoms)) in
                record {
                  by = suc i;
                  of-figure = k;
                  there = goes (suc i) k ∙ (ap (λ (z : ℕ). get_or atoms z 0) (let q : suc i - 1 ≡ i = omega arith in q) ∙ (t.2 ∙ (let q : suc (j - 1) ≡ j = omega (arith, r.0) in q)));
                }

            backward : (j : ℕ) → Taken S F q j → Flag taken j
            backward j t = subst (Flag taken) (sym (goes t.by t.of-figure) ∙ t.there) (d.flag-of (t.by - 1) (index t.by t.of-figure))

        pub placed : Placed sheet figure taken to atoms (unsettled figure flags)
        placed = record { taken_in = taken_in; partial = partial }

        pub links-in : LinksIn sheet figure to
        links-in = record {
          room = o.to_room;
          within = λ x h. let r : Range F.links (suc x) = (omega arith, omega arith) in
              subst (Range (suc sheet.class_count)) (at-link (suc x) r ∙ ap (λ (z : ℕ). get_or to z 0) (let q : suc x - 1 ≡ x = omega arith in q)) (partial.to-links (suc x) r);
        }
