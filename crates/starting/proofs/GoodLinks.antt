-- What a good placing does at a figure link: its marks and places are among those of the sheet link, and where it is on no
-- context they are all of them.
use Prim.Native.Nat.{ℕ, suc, ◌-◌, ◌≤◌, ◌<◌}
use mathlib.Core.Path.{◌≡◌, refl, sym, ◌∙◌, ap, subst}
use mathlib.Core.Logic.{◌⊎◌, inl, inr}
use mathlib.Core.Bool.{Bool, true, false}
use mathlib.Core.List.{List, [], ◌∷◌}
use native.Mathlib.Omega.{arith}
use lib.ListN.{length, get_or}
use Rattle.hyperlmntal.specs.Link.{◌∈◌}
use Rattle.reading.proofs.normal.Distinct.{Once}
use Rattle.placing.specs.Net.{NetCell, Net, Range, cell_links, Normal}
use Rattle.placing.specs.Placing.{Placing, cell_at, atom_target, link_target, given_to, Taken, Linked, here, step, PortAt, Inside, Good}
use Rattle.placing.specs.Smallest.{is_taken}
use Rattle.placing.proofs.Lists.{member-at, get_d_of}
use Rattle.placing.proofs.Orders.{once-by-place}
use Rattle.placing.proofs.Standing.{in_cells, context-link, mark-link}
use Rattle.placing.proofs.Tests.{refuted}
use Rattle.placing.proofs.GoodTest.{says-taken}
use Rattle.network.specs.Sums.{sum_to}
use Rattle.network.proofs.Sums.{sum-front, sum_same}
use Rattle.candidates.specs.Sets.{Decided, by-atom}
use Rattle.candidates.proofs.GoodPlaces.{decided-real, decided-link}
use Rattle.starting.specs.Count.{count}
use Rattle.starting.proofs.Counting.{count-append, count_none, count-sent, count-alone, count-pairs-le, count-pairs-eq}
use Rattle.starting.proofs.Sums.{sum-once-le, sum-once-eq}
use Rattle.reading.proofs.normal.Merging.{get_d-in}

-- The rows after the first.
cell-after : (c : NetCell) (l : List NetCell) (j : ℕ) → 1 ≤ j → cell_at (c ∷ l) (suc j) ≡ cell_at l j
cell-after c l j h = ap (λ (i : ℕ). get_or (c ∷ l) i (0, [])) (let q : suc j - 1 ≡ suc (j - 1) = omega arith in q)

-- A link's places, row by row.
count-rows : (y : ℕ) (rows : List NetCell) → count y (cell_links rows) ≡ sum_to (λ j. count y (cell_at rows j).1) (length rows)
unfolding count sum_to
count-rows y [] = refl
count-rows y (c ∷ l) =
    let a = count-append y c.1 (cell_links l) in
    let b = count-rows y l in
    let e = sum-front (λ j. count y (cell_at (c ∷ l) j).1) (length l) in
    let d = sum_same (λ j. count y (cell_at (c ∷ l) (suc j)).1) (λ j. count y (cell_at l j).1) (length l) (λ j r. ap (λ (z : NetCell). count y z.1) (cell-after c l j r.0)) in
    omega (arith, a, b, e, d)

module _ (S F : Net) (NS : Normal S) (NF : Normal F) (p : Placing) (g : Good S F p) where
  taken-dec : (j : ℕ) → Dec (Taken S F p j)
  taken-dec j = go (is_taken S F p j) refl
    where
      go : (b : Bool) → is_taken S F p j ≡ b → Dec (Taken S F p j)
      go true e = yes ((says-taken S F p j).sound e)
      go false e = no (refuted (says-taken S F p j) e)

  -- the sheet link of a mark is where the figure link of that mark goes
  mark-at : (y m : ℕ) → (y, m) ∈ S.marks → (x : ℕ) × ((x, m) ∈ F.marks) × (link_target p x ≡ y)
  mark-at y m h = let b = g.same-marks.backward y m h in (b.0, b.1, NS.one_link (link_target p b.0) y m (g.same-marks.onward b.0 m b.1) h)

  atoms-once : Once p.atoms_to
  atoms-once = once-by-place p.atoms_to different
    where
      back : (i : ℕ) → get_or p.atoms_to (suc i - 1) 0 ≡ get_or p.atoms_to i 0
      back i = ap (λ (q : ℕ). get_or p.atoms_to q 0) (let q : suc i - 1 ≡ i = omega arith in q)

      different : (i j : ℕ) → i < length p.atoms_to → j < length p.atoms_to → get_or p.atoms_to i 0 ≡ get_or p.atoms_to j 0 → i ≡ j
      different i j a b e =
          let n = g.sending.atoms-sent in
          let z : suc i ≡ suc j = g.sending.different (suc i) (suc j) (omega arith, omega arith) (omega arith, omega arith) (back i ∙ e ∙ sym (back j)) in
          omega arith

  taken_of : (j : ℕ) → j ∈ p.atoms_to → Taken S F p j
  taken_of j m =
      let t = member-at p.atoms_to j m in
      let b : t.0 < length p.atoms_to = t.1 in
      let n = g.sending.atoms-sent in
      record { by = suc t.0; of-figure = (omega arith, omega arith); there = ap (λ (q : ℕ). get_or p.atoms_to q 0) (let q : suc t.0 - 1 ≡ t.0 = omega arith in q) ∙ get_d_of p.atoms_to t.0 0 j t.2 }

  of-taken : (j : ℕ) → Taken S F p j → j ∈ p.atoms_to
  of-taken j t =
      let a : 1 ≤ t.by = t.of-figure.0 in
      let b : t.by ≤ length F.atoms = t.of-figure.1 in
      let n = g.sending.atoms-sent in
      subst (λ (z : ℕ). z ∈ p.atoms_to) t.there (get_d-in p.atoms_to (t.by - 1) 0 (omega arith))

  taken_in : (j : ℕ) → j ∈ p.atoms_to → Range (length S.atoms) j
  taken_in j m = let t = taken_of j m in subst (Range (length S.atoms)) t.there (g.sending.to-atoms t.by t.of-figure)

  -- figure atom i, counted from 0, with what holds at its number
  from_one : (P : NetCell → ℕ → Type 0) → ((i : ℕ) → Range (length F.atoms) i → P (cell_at F.atoms i) (atom_target p i)) → (i : ℕ) → i < length F.atoms → P (get_or F.atoms i (0, [])) (get_or p.atoms_to i 0)
  from_one P f i h = subst (λ (q : ℕ). P (get_or F.atoms q (0, [])) (get_or p.atoms_to q 0)) (let q : suc i - 1 ≡ i = omega arith in q) (f (suc i) (omega arith, omega arith))

  -- the sheet atoms' places at a sheet link
  places_at : ℕ → ℕ → ℕ
  places_at y j = count y (cell_at S.atoms j).1

  -- at every figure link
  pub places-among : (x : ℕ) → count x (cell_links F.atoms) ≤ count (link_target p x) (cell_links S.atoms)
  unfolding places_at
  places-among x =
      let f = places_at (link_target p x) in
      omega (arith, count-pairs-le x f F.atoms p.atoms_to g.sending.atoms-sent (from_one (λ c a. count x c.1 ≤ f a) each), sum-once-le f (length S.atoms) p.atoms_to atoms-once taken_in, count-rows (link_target p x) S.atoms)
    where
      each : (i : ℕ) → Range (length F.atoms) i → count x (cell_at F.atoms i).1 ≤ places_at (link_target p x) (atom_target p i)
      each i h = subst (λ (l : List ℕ). count x (cell_at F.atoms i).1 ≤ count (link_target p x) l) (g.across i h).places (count-sent (link_target p) x (cell_at F.atoms i).1)

  -- at a figure link on no context that an atom or a mark decides
  module _ (x : ℕ) (d : Decided F x) (closed : ¬ (x ∈ cell_links F.contexts)) where
    -- no other figure link goes there
    closed-alone : (z : ℕ) → Range F.links z → link_target p z ≡ link_target p x → x ≡ z
    closed-alone z r e = go (g.linked x z (link_target p x) (record { figure-link = decided-link S F NS NF p g x d; sheet-link = decided-real S F NS NF p g x d; there = refl }) (record { figure-link = r; sheet-link = decided-real S F NS NF p g x d; there = e })) closed
      where
        go : {u v : ℕ} → Linked S F p (link_target p x) u v → ¬ (u ∈ cell_links F.contexts) → u ≡ v
        go here c = refl
        go {u} (step s l) c = absurd (c (in_cells F.contexts s.row u s.of-figure s.first))

    -- the sheet atoms there are taken
    closed-taken : (j : ℕ) → Range (length S.atoms) j → link_target p x ∈ (cell_at S.atoms j).1 → Taken S F p j
    closed-taken j h m = go (taken-dec j)
      where
        other : PortAt S F p (given_to p j) (link_target p x) ⊎ Inside S F p (given_to p j) (link_target p x) → Taken S F p j
        other (inl r) = absurd (closed (subst (λ (z : ℕ). z ∈ cell_links F.contexts) (sym (closed-alone r.link (context-link F NF r.row r.link r.of-figure r.port) r.there)) (in_cells F.contexts r.row r.link r.of-figure r.port)))
        other (inr r) = absurd (r.no-figure-link x (decided-link S F NS NF p g x d) refl)

        go : Dec (Taken S F p j) → Taken S F p j
        go (yes t) = t
        go (no n) = other (g.own-links j h n (link_target p x) m)

    pub closed-marks : (m : ℕ) → (link_target p x, m) ∈ S.marks → (x, m) ∈ F.marks
    closed-marks m h = let b = mark-at (link_target p x) m h in subst (λ (z : ℕ). (z, m) ∈ F.marks) (sym (closed-alone b.0 (mark-link F NF b.0 m b.1) b.2)) b.1

    pub closed-places : count x (cell_links F.atoms) ≡ count (link_target p x) (cell_links S.atoms)
    unfolding places_at
    closed-places =
        let f = places_at (link_target p x) in
        count-pairs-eq x f F.atoms p.atoms_to g.sending.atoms-sent (from_one (λ c a. count x c.1 ≡ f a) each)
        ∙ sum-once-eq f (length S.atoms) p.atoms_to atoms-once taken_in off
        ∙ sym (count-rows (link_target p x) S.atoms)
      where
        each : (i : ℕ) → Range (length F.atoms) i → count x (cell_at F.atoms i).1 ≡ places_at (link_target p x) (atom_target p i)
        each i h =
            subst (λ (l : List ℕ). count x (cell_at F.atoms i).1 ≡ count (link_target p x) l) (g.across i h).places
            (count-alone (link_target p) x (cell_at F.atoms i).1 (λ z m e. closed-alone z (decided-link S F NS NF p g z (by-atom i h m)) (sym e)))

        off : (j : ℕ) → Range (length S.atoms) j → ¬ (j ∈ p.atoms_to) → places_at (link_target p x) j ≡ 0
        off j h n = count_none _ _ (λ m. n (of-taken j (closed-taken j h m)))
