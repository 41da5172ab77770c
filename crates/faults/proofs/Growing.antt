-- The laws of a component that is grown over the tables.
use Prim.Native.Nat.{ℕ, suc, ◌+◌, ◌*◌, ◌-◌, ◌≤◌, ◌<◌}
use mathlib.Core.Path.{◌≡◌, refl, sym, ◌∙◌, ap, subst}
use mathlib.Core.Logic.{◌↔◌, inl, ⊎_elim, ◌≢◌}
use mathlib.Core.List.Memᴰ
use mathlib.Core.List.{List, [], ◌∷◌, ◌++◌, map, map-append}
use native.Mathlib.Decide.{ℕ_discrete}
use native.Mathlib.Omega.{arith}
use lib.ListN.{length, take, get_or, set, length-set, length-take}
use lib.Seq.{get_or-set_same, get_or-set_other, take-suc-set, get_or-take, length-take-le}
use Rattle.hyperlmntal.specs.Link.{◌∈◌}
use Rattle.rows.specs.Format.{most_links}
use Rattle.rows.specs.Limits.{sheet_atom_limit, sheet_link_limit}
use Rattle.placing.specs.Net.{Net, Range}
use Rattle.placing.specs.Placing.{Placing, cell_at}
use Rattle.placing.proofs.Lists.{member-at, get_d_of}
use Rattle.completing.specs.Fault.{Used}
use Rattle.completing.specs.Growing.{Serves}
use Rattle.completing.proofs.Growing.{part-link, part-atom, serves_more, serves-before}
use Rattle.stepping.specs.Chains.{node_of, NodeOn, LastOn}
use Rattle.faults.specs.Grows.{Growth, Sized, added, atoms_of, Longer, Kept, Around, Holds, WithAtoms, WithLink, WithLinks}
use Rattle.stepping.proofs.Tables.{store-flag, below_next}
use Rattle.faults.proofs.Marks.{marks-set, marks-room, store-mark}
use Rattle.rows.proofs.RowRange.{le-or-lt}
use Rattle.reading.proofs.normal.Merging.{get_d-in}

-- The atoms as listed.
pub listed_in : (g : Growth) (h : ℕ) → g.count ≤ length g.order → h < g.count → suc (get_or g.order h 0) ∈ atoms_of g
listed_in g h room l = Memᴰ.map suc (subst (λ (j : ℕ). j ∈ take g.count g.order) (get_or-take g.count g.order h 0 l)
    (get_d-in (take g.count g.order) h 0 (let e = length-take-le g.count g.order room in omega arith)))

pub listed_of : (g : Growth) (j : ℕ) → j ∈ atoms_of g → (h : ℕ) × (h < g.count) × (suc (get_or g.order h 0) ≡ j)
listed_of g j m =
    let t = Memᴰ.of_map suc (take g.count g.order) m in
    let p = member-at (take g.count g.order) t.0 t.1 in
    let h : p.0 < g.count = omega (arith, p.1, length-take g.count g.order) in
    (p.0, h, ap suc (sym (get_or-take g.count g.order p.0 0 h) ∙ get_d_of (take g.count g.order) p.0 0 t.0 p.2) ∙ t.2)

pub longer-same : (g : Growth) → Longer g g
longer-same g = record { count_kept = omega arith; order-kept = λ h l. refl }

pub longer-then : (g r s : Growth) → Longer g r → Longer r s → Longer g s
longer-then g r s a b = record {
  count_kept = let i = a.count_kept in let j = b.count_kept in omega arith;
  order-kept = λ h l. b.order-kept h (let i = a.count_kept in omega arith) ∙ a.order-kept h l;
}

pub atoms-longer : (g r : Growth) (atoms : ℕ) → Longer g r → Sized atoms r → (j : ℕ) → j ∈ atoms_of g → j ∈ atoms_of r
atoms-longer g r atoms a s j m =
    let t = listed_of g j m in
    let l : t.0 < g.count = t.1 in
    let k : t.0 < r.count = (let i = a.count_kept in omega arith) in
    Memᴰ.cast (sym (ap suc (a.order-kept t.0 l) ∙ t.2)) (listed_in r t.0 (let i = s.most in let e = s.order-room in omega arith) k)

-- An atom joins, or a link is looked at.
module _ (S F : Net) (q : Placing) (root : ℕ) (part members flags seen : List ℕ) (w : Holds S F q root part members flags seen) where
  pub holds-atom : (atoms y i v : ℕ) → i < atoms → Around S F q atoms → suc y ∈ seen → ¬ Used S F q (suc y) → suc y ∈ (cell_at S.atoms (suc i)).1
      → Holds S F q root (part ++ (suc i ∷ [])) (set members i v) flags seen
  holds-atom atoms y i v h a m u on = record {
    connected = part-atom S F q root part seen w.connected a.normal a.across (suc y) (suc i) m u (omega arith, (let e = a.atom-count in omega arith)) on;
    flagged = λ j e. ⊎_elim (λ b. Memᴰ.append_left (suc i ∷ []) (w.flagged j b)) (λ b. Memᴰ.append_right part (Memᴰ.head (ap suc b))) (store-mark members i v j e);
    looked = w.looked;
    flagged-seen = w.flagged-seen;
  }

  pub holds-looked : (y j : ℕ) → y < length flags → j ∈ part → suc y ∈ (cell_at S.atoms j).1 → Holds S F q root part members (set flags y 1) (seen ++ (suc y ∷ []))
  holds-looked y j room m on = record {
    connected = part-link S F q root part seen w.connected j (suc y) m on;
    flagged = w.flagged;
    looked = λ z k. ⊎_elim (λ b. (store-flag flags y room (z - 1)).1 (inl (w.looked z b))) (λ b. now z (Memᴰ.eq_of_singleton b)) (Memᴰ.append_cases seen k);
    flagged-seen = λ z e. ⊎_elim (λ b. Memᴰ.append_left (suc y ∷ []) (w.flagged-seen z b)) (λ b. Memᴰ.append_right seen (Memᴰ.head (ap suc b))) ((store-flag flags y room z).0 e);
  }
    where
      now : (z : ℕ) → z ≡ suc y → get_or (set flags y 1) (z - 1) 0 ≡ 1
      now z e = ap (λ (n : ℕ). get_or (set flags y 1) n 0) (let i : z - 1 ≡ y = omega arith in i) ∙ get_or-set_same flags y 1 0 room

-- Atom i joins over a link to which no figure link goes.
abbrev Joins : ℕ → ℕ → Growth → Growth → Type 0
Joins atoms i g r =
    (S F : Net) (q : Placing) (root y : ℕ) (flags seen : List ℕ) → Around S F q atoms → suc y ∈ seen → ¬ Used S F q (suc y) → suc y ∈ (cell_at S.atoms (suc i)).1
    → Holds S F q root (atoms_of g) g.members flags seen → Holds S F q root (atoms_of r) r.members flags seen × ((j : ℕ) → j ∈ atoms_of g → j ∈ atoms_of r) × (suc i ∈ atoms_of r)

-- One more atom.
module _ (atoms : ℕ) (g : Growth) (i v : ℕ) (few : atoms ≤ sheet_atom_limit) (s : Sized atoms g) (h : i < atoms) (new : get_or g.members i 0 ≡ 0) (mark : 1 ≤ v) where
  pub added-room : g.count < sheet_atom_limit
  added-room = let e = s.counted in let r = s.members-room in let o = marks-room g.members i (omega arith) new in omega arith

  pub sized-added : Sized atoms (added g i v)
  sized-added = record {
    order-room = simp length-set s.order-room;
    members-room = simp length-set s.members-room;
    counted = (let e = marks-set g.members i v (let r = s.members-room in omega arith) new (λ z. omega arith) in let c = s.counted in omega arith);
    most = let m = added-room in omega arith;
    listed = λ k l. at k l (ℕ_discrete k g.count);
  }
    where
      at : (k : ℕ) → k < g.count + 1 → Dec (k ≡ g.count) → get_or (set g.order g.count i) k 0 < atoms
      at k l (yes e) = subst (λ (n : ℕ). get_or (set g.order g.count i) n 0 < atoms) (sym e)
          (subst (λ (n : ℕ). n < atoms) (sym (get_or-set_same g.order g.count i 0 (let r = s.order-room in let m = added-room in omega arith))) h)
      at k l (no e) = subst (λ (n : ℕ). n < atoms) (sym (get_or-set_other g.order g.count k i 0 e)) (s.listed k (omega arith))

  pub longer-added : Longer g (added g i v)
  longer-added = record { count_kept = omega arith; order-kept = λ k l. get_or-set_other g.order g.count k i 0 (λ e. omega arith) }

  atoms-added : atoms_of (added g i v) ≡ atoms_of g ++ (suc i ∷ [])
  atoms-added =
      ap (λ (n : ℕ). map suc (take n (set g.order g.count i))) (let e : g.count + 1 ≡ suc g.count = omega arith in e)
      ∙ ap (map suc) (take-suc-set g.order g.count i (let r = s.order-room in let m = added-room in omega arith))
      ∙ map-append suc (take g.count g.order) (i ∷ [])

  atom-added : suc i ∈ atoms_of (added g i v)
  atom-added = subst (λ (l : List ℕ). suc i ∈ l) (sym atoms-added) (Memᴰ.append_right (atoms_of g) (Memᴰ.head refl))

  pub joins : Joins atoms i g (added g i v)
  joins S F q root y flags seen a m u on w = (
    subst (λ (l : List ℕ). Holds S F q root l (set g.members i v) flags seen) (sym atoms-added)
        (holds-atom S F q root (atoms_of g) g.members flags seen w atoms y i v h a m u on),
    atoms-longer g (added g i v) atoms longer-added sized-added,
    atom-added,
  )

-- An atom that is a member is there.
pub stays : (atoms i : ℕ) (g : Growth) → get_or g.members i 0 ≢ 0 → Joins atoms i g g
stays atoms i g e S F q root y flags seen a m u on w = (w, (λ j k. k), w.flagged i e)

-- Along the chain of a link.
module _ (chains : List ℕ) (y atoms : ℕ) (hy : y < sheet_link_limit) where
  below : (S F : Net) (q : Placing) → Around S F q atoms → (w : ℕ) → NodeOn S y w → w < node_of atoms 0
  below S F q a w o = let i = o.atom-in in let e = a.atom-count in omega (arith, o.node, o.place-few)

  pub atoms-start : (g : Growth) → WithAtoms chains y atoms (get_or chains y 0) g g
  atoms-start g S F q root flags seen a c m u k = let l = c.last y hy in (k, l.is, λ w h o. absurd (l.none w h (below S F q a w o) o))

  pub atoms-next : (v i k : ℕ) (start g r : Growth) → k < most_links → v ≡ node_of i k → Joins atoms i g r → WithAtoms chains y atoms v start g → WithAtoms chains y atoms (get_or chains v 0) start r
  atoms-next v i k start g r few e join w S F q root flags seen a c m u h = (d.0, l.is, λ z b p. go z b p (ℕ_discrete z v))
    where
      t : Holds S F q root (atoms_of g) g.members flags seen × (v ≢ 0 → NodeOn S y v) × ((z : ℕ) → v < z → (o : NodeOn S y z) → suc o.atom ∈ atoms_of g)
      t = w S F q root flags seen a c m u h

      o : NodeOn S y v
      o = t.1 (λ z. omega arith)

      l : LastOn S v y (get_or chains v 0)
      l = c.next y v (below S F q a v o) o

      here : (z : ℕ) → z ≡ v → (p : NodeOn S y z) → p.atom ≡ i
      here z f p = omega (arith, p.node, p.place-few)

      d : Holds S F q root (atoms_of r) r.members flags seen × ((j : ℕ) → j ∈ atoms_of g → j ∈ atoms_of r) × (suc i ∈ atoms_of r)
      d = join S F q root y flags seen a m u
          (subst (λ (n : ℕ). suc y ∈ (cell_at S.atoms (suc n)).1) (here v refl o) (Memᴰ.cast (sym o.link) (get_d-in (cell_at S.atoms (suc o.atom)).1 o.place 0 o.place_in))) t.0

      go : (z : ℕ) → get_or chains v 0 < z → (p : NodeOn S y z) → Dec (z ≡ v) → suc p.atom ∈ atoms_of r
      go z b p (yes f) = Memᴰ.cast (ap suc (here z f p)) d.2
      go z b p (no f) = ⊎_elim (λ n. absurd (l.none z b (omega arith) p)) (λ n. d.1 (suc p.atom) (t.2 z n p)) (le-or-lt z v)

-- A link of a member is looked at.
module _ (chains used ports : List ℕ) (y atoms contexts : ℕ) (g : Growth) (flags cuts : List ℕ) (room : y < length flags) where
  -- a figure link goes there: contexts with no port there leave
  pub grows-used : (cuts_now : List ℕ) → get_or used y 0 ≡ 1
      → ((c : ℕ) → c < contexts → (get_or cuts_now c 0 ≡ 0) ↔ ((get_or cuts c 0 ≡ 0) × (get_or ports (c * sheet_link_limit + y) 0 ≡ 1)))
      → WithLink chains used ports y atoms contexts g flags cuts g (set flags y 1) cuts_now
  grows-used cuts_now e f S F q root j t hy m on w = record {
    seen = seen ++ (suc y ∷ []);
    holds = holds-looked S F q root (atoms_of g) g.members flags seen w.holds y j room m on;
    serves = λ c l. (onward c l, back c l);
    all-atoms = λ z i k u r n. ⊎_elim (λ b. w.all-atoms z i b u r n) (λ b. absurd (u (subst (Used S F q) (sym (Memᴰ.eq_of_singleton b)) is-used))) (Memᴰ.append_cases seen k);
  }
    where
      seen : List ℕ
      seen = w.seen

      is-used : Used S F q (suc y)
      is-used = (t.used-flag y hy).0 e

      number : ℕ → ℕ
      number c = (cell_at F.contexts (suc c)).0

      onward : (c : ℕ) → c < contexts → get_or cuts_now c 0 ≡ 0 → Serves S F q (seen ++ (suc y ∷ [])) (number c)
      onward c l k = serves_more S F q (number c) seen (suc y) ((w.serves c l).0 ((f c l).0 k).0) (λ u. (t.port-flag c y l hy).0 ((f c l).0 k).1)

      back : (c : ℕ) → c < contexts → Serves S F q (seen ++ (suc y ∷ [])) (number c) → get_or cuts_now c 0 ≡ 0
      back c l k = (f c l).1 ((w.serves c l).1 (serves-before S F q (number c) seen (suc y) k), (t.port-flag c y l hy).1 (k (suc y) (Memᴰ.append_right seen (Memᴰ.head refl)) is-used))

  -- no figure link goes there: its atoms join
  pub grows-unused : (r : Growth) → Sized atoms r → Longer g r → get_or used y 0 ≢ 1 → WithAtoms chains y atoms 0 g r → WithLink chains used ports y atoms contexts g flags cuts r (set flags y 1) cuts
  grows-unused r sr longer e f S F q root j t hy m on w = record {
    seen = seen ++ (suc y ∷ []);
    holds = v.0;
    serves = λ c l. (
      (λ k. serves_more S F q (number c) seen (suc y) ((w.serves c l).0 k) (λ u. absurd (unused u))),
      (λ k. (w.serves c l).1 (serves-before S F q (number c) seen (suc y) k)),
    );
    all-atoms = λ z i k u n b. ⊎_elim (λ a. atoms-longer g r atoms longer sr i (w.all-atoms z i a u n b)) (λ a. new z i (Memᴰ.eq_of_singleton a) n b) (Memᴰ.append_cases seen k);
  }
    where
      seen : List ℕ
      seen = w.seen

      unused : ¬ Used S F q (suc y)
      unused u = e ((t.used-flag y hy).1 u)

      v : Holds S F q root (atoms_of r) r.members (set flags y 1) (seen ++ (suc y ∷ [])) × (◌≢◌ {A = ℕ} 0 0 → NodeOn S y 0) × ((w : ℕ) → 0 < w → (o : NodeOn S y w) → suc o.atom ∈ atoms_of r)
      v = f S F q root (set flags y 1) (seen ++ (suc y ∷ [])) t.around t.chained (Memᴰ.append_right seen (Memᴰ.head refl)) unused (holds-looked S F q root (atoms_of g) g.members flags seen w.holds y j room m on)

      number : ℕ → ℕ
      number c = (cell_at F.contexts (suc c)).0

      new : (z i : ℕ) → z ≡ suc y → Range (length S.atoms) i → z ∈ (cell_at S.atoms i).1 → i ∈ atoms_of r
      new z i a n b =
          let low : 1 ≤ i = n.0 in
          let high : i ≤ length S.atoms = n.1 in
          let d : i ≡ suc (i - 1) = omega arith in
          let cell = (cell_at S.atoms (suc (i - 1))).1 in
          let e = t.around.atom-count in
          let p = member-at cell (suc y) (subst (λ (k : ℕ). suc y ∈ (cell_at S.atoms k).1) d (Memᴰ.cast (sym a) b)) in
          let few : p.0 < most_links = (let k = t.around.narrow (i - 1) (omega arith) in omega (arith, p.1)) in
          Memᴰ.cast d (v.2 (node_of (i - 1) p.0) (omega arith) (record { atom = i - 1; place = p.0; atom-in = omega arith; place_in = p.1; place-few = few; link = get_d_of cell p.0 0 (suc y) p.2; node = refl }))

-- One link of an atom more.
module _ (chains used ports links : List ℕ) (atoms contexts : ℕ) (g : Growth) (flags cuts : List ℕ) where
  pub links-next : (k : ℕ) (next : Growth) (flags_next cuts_next : List ℕ) (r : Growth) (flags_now cuts_now : List ℕ) → 1 ≤ get_or links k 0 → Longer g next → Sized atoms next → Kept flags_next flags_now
      → WithLinks chains used ports links k atoms contexts g flags cuts next flags_next cuts_next
      → get_or flags_now (get_or links k 0 - 1) 0 ≡ 1 → WithLink chains used ports (get_or links k 0 - 1) atoms contexts next flags_next cuts_next r flags_now cuts_now
      → WithLinks chains used ports links (k + 1) atoms contexts g flags cuts r flags_now cuts_now
  links-next k next flags_next cuts_next r flags_now cuts_now low a s b w now v = record {
    looked = below_next (λ i. get_or flags_now (get_or links i 0 - 1) 0 ≡ 1) k (λ i l. b (get_or links i 0 - 1) (w.looked i l)) now;
    grows = λ S F q root j t m on x.
        let o = on k (omega arith) in
        let up : get_or links k 0 ≡ suc (get_or links k 0 - 1) = omega arith in
        v S F q root j t (omega (arith, o.0.1)) (atoms-longer g next atoms a s j m) (subst (λ (z : ℕ). z ∈ (cell_at S.atoms j).1) up o.1)
        (w.grows S F q root j t m (λ i l. on i (omega arith)) x);
  }
