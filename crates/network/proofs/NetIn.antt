-- What code reads in the arrays of a `Normal`, as it stands in their net.
use Prim.Native.Nat.{ℕ, zero, suc, ◌+◌, ◌-◌, ◌≤◌, ◌<◌}
use mathlib.Core.Path.{◌≡◌, refl, ap, sym, ◌∙◌, subst}
use mathlib.Core.List.{List, [], ◌∷◌}
use native.Mathlib.Omega.{arith}
use lib.ListN.{length, get_or, take, length-map, get_or-map}
use lib.Seq.{get_or-take, length-take-le}
use Rattle.hyperlmntal.specs.Link.{◌∈◌}
use Rattle.rows.specs.declared.Sheet as form
use Rattle.placing.specs.Net.{NetCell, Range}
use Rattle.placing.specs.Placing.{cell_at}
use Rattle.placing.proofs.Lists.{member-at, get_d_of}
use Rattle.network.specs.NetIn.{atom_in, context_in, paired, net_in, atom_at, context_at, Used, Numbered, Fit}
use Rattle.reading.proofs.normal.Merging.{get_d-in}

-- The pairs of two lists.
pub paired-length : (l m : List ℕ) → length l ≡ length m → length (paired l m) ≡ length l
paired-length [] m e = refl
paired-length (x ∷ l) [] e = absurd (omega arith)
paired-length (x ∷ l) (y ∷ m) e = ap suc (paired-length l m (omega arith))

pub paired_at : (l m : List ℕ) (i : ℕ) → i < length l → i < length m → get_or (paired l m) i (0, 0) ≡ (get_or l i 0, get_or m i 0)
paired_at [] m i h k = absurd (omega arith)
paired_at (x ∷ l) [] i h k = absurd (omega arith)
paired_at (x ∷ l) (y ∷ m) zero h k = refl
paired_at (x ∷ l) (y ∷ m) (suc i) h k = paired_at l m i (omega arith) (omega arith)

-- The first `count` of a list, by their places.
module _ (count : ℕ) (links : List ℕ) (room : count ≤ length links) where
  pub place_in : (k : ℕ) → k < count → get_or links k 0 ∈ take count links
  place_in k h = subst (λ (y : ℕ). y ∈ take count links) (get_or-take count links k 0 h) (get_d-in (take count links) k 0 (omega (arith, length-take-le count links room)))

  pub in_place : (y : ℕ) → y ∈ take count links → (k : ℕ) × (k < count) × (get_or links k 0 ≡ y)
  in_place y m =
      let t = member-at (take count links) y m in
      let h : t.0 < count = omega (arith, t.1, length-take-le count links room) in
      (t.0, h, sym (get_or-take count links t.0 0 h) ∙ get_d_of (take count links) t.0 0 y t.2)

-- The links of an atom that are used.
module _ (n count : ℕ) (links : List ℕ) (u : Used n count links) where
  pub used-numbered : Numbered n count links
  used-numbered = record { there = omega (arith, u.few, u.width); numbered = u.numbered }

  pub used-length : length (take count links) ≡ count
  used-length = length-take-le count links used-numbered.there

  pub used-at : (k : ℕ) → k < count → get_or (take count links) k 0 ≡ get_or links k 0
  used-at k h = get_or-take count links k 0 h

  pub used-range : (y : ℕ) → y ∈ take count links → Range n y
  used-range y m = let t = in_place count links used-numbered.there y m in subst (Range n) t.2 (u.numbered t.0 t.1)

  pub used-in : (k : ℕ) → k < count → get_or links k 0 ∈ take count links
  used-in k h = place_in count links used-numbered.there k h

module _ (n : form.Sheet) (f : Fit n) where
  pub atoms-length : length (net_in n).atoms ≡ n.atom_count
  atoms-length = length-map (take n.atom_count n.atoms) atom_in ∙ length-take-le n.atom_count n.atoms (omega (arith, f.atom-count, f.atom-room))

  pub contexts-length : length (net_in n).contexts ≡ n.context_count
  contexts-length = length-map (take n.context_count n.contexts) context_in ∙ length-take-le n.context_count n.contexts (omega (arith, f.context-count, f.context-room))

  abbrev marked : List ℕ
  marked = take n.mark_count n.marked

  abbrev marking : List ℕ
  marking = take n.mark_count n.marks

  marked-length : length marked ≡ n.mark_count
  marked-length = length-take-le n.mark_count n.marked (omega (arith, f.mark-count, f.marked-room))

  marking-length : length marking ≡ n.mark_count
  marking-length = length-take-le n.mark_count n.marks (omega (arith, f.mark-count, f.mark-room))

  pub marks-length : length (net_in n).marks ≡ n.mark_count
  marks-length = paired-length marked marking (marked-length ∙ sym marking-length) ∙ marked-length

  -- An atom and a context, by their numbers from 1.
  pub atom-cell : (t : ℕ) → Range n.atom_count t → cell_at (net_in n).atoms t ≡ atom_in (atom_at n (t - 1))
  atom-cell t r =
      get_or-map atom_in (take n.atom_count n.atoms) (t - 1) (record { name = 0; count = 0; links = [] })
      ∙ ap atom_in (get_or-take n.atom_count n.atoms (t - 1) _ (let h : 1 ≤ t = r.0 in let k : t ≤ n.atom_count = r.1 in omega arith))

  pub context-cell : (t : ℕ) → Range n.context_count t → cell_at (net_in n).contexts t ≡ context_in (context_at n (t - 1))
  context-cell t r =
      get_or-map context_in (take n.context_count n.contexts) (t - 1) (record { number = 0; count = 0; links = []; row = 0 })
      ∙ ap context_in (get_or-take n.context_count n.contexts (t - 1) _ (let h : 1 ≤ t = r.0 in let k : t ≤ n.context_count = r.1 in omega arith))

  -- and by their indices from 0
  pub atom-index : (i : ℕ) → i < n.atom_count → cell_at (net_in n).atoms (i + 1) ≡ atom_in (atom_at n i)
  atom-index i h = atom-cell (i + 1) (omega arith, omega arith) ∙ ap (λ k. atom_in (atom_at n k)) (let q : i + 1 - 1 ≡ i = omega arith in q)

  pub context-index : (i : ℕ) → i < n.context_count → cell_at (net_in n).contexts (i + 1) ≡ context_in (context_at n i)
  context-index i h = context-cell (i + 1) (omega arith, omega arith) ∙ ap (λ k. context_in (context_at n k)) (let q : i + 1 - 1 ≡ i = omega arith in q)

  pub context-of : (row : NetCell) → row ∈ (net_in n).contexts → (c : ℕ) × (c < n.context_count) × (context_in (context_at n c) ≡ row)
  context-of row m =
      let t = member-at (net_in n).contexts row m in
      let h : t.0 < n.context_count = omega (arith, t.1, contexts-length) in (
        t.0,
        h,
        sym (context-index t.0 h) ∙ (ap (λ (j : ℕ). get_or (net_in n).contexts j (0, [])) (let q : t.0 + 1 - 1 ≡ t.0 = omega arith in q)
            ∙ get_d_of (net_in n).contexts t.0 (0, []) row t.2),
      )

  pub context-in : (i : ℕ) → i < n.context_count → context_in (context_at n i) ∈ (net_in n).contexts
  context-in i h = subst (λ (r : NetCell). r ∈ (net_in n).contexts) (context-index i h) (get_d-in (net_in n).contexts (i + 1 - 1) (0, []) (omega (arith, contexts-length)))

  pub context-range : (i : ℕ) → i < n.context_count → (y : ℕ) → y ∈ (context_in (context_at n i)).1 → Range n.class_count y
  context-range i h y m =
      let u = f.contexts i h in
      let t = in_place (context_at n i).count (context_at n i).links u.there y m in
      subst (Range n.class_count) t.2 (u.numbered t.0 t.1)

  pub atom-used : (t : ℕ) → Range n.atom_count t → Used n.class_count (atom_at n (t - 1)).count (atom_at n (t - 1)).links
  atom-used t r = f.atoms (t - 1) (let h : 1 ≤ t = r.0 in let k : t ≤ n.atom_count = r.1 in omega arith)

  -- A mark and its link.
  pub mark-at : (i : ℕ) → i < n.mark_count → get_or (net_in n).marks i (0, 0) ≡ (get_or n.marked i 0, get_or n.marks i 0)
  mark-at i h =
      paired_at marked marking i (omega (arith, marked-length)) (omega (arith, marking-length))
      ∙ (λ j. (get_or-take n.mark_count n.marked i 0 h j, get_or-take n.mark_count n.marks i 0 h j))

  pub mark-in : (i : ℕ) → i < n.mark_count → (get_or n.marked i 0, get_or n.marks i 0) ∈ (net_in n).marks
  mark-in i h = subst (λ (e : ℕ × ℕ). e ∈ (net_in n).marks) (mark-at i h) (get_d-in (net_in n).marks i (0, 0) (omega (arith, marks-length)))

  pub mark_of : (e : ℕ × ℕ) → e ∈ (net_in n).marks → (i : ℕ) × (i < n.mark_count) × ((get_or n.marked i 0, get_or n.marks i 0) ≡ e)
  mark_of e m =
      let t = member-at (net_in n).marks e m in
      let h : t.0 < n.mark_count = omega (arith, t.1, marks-length) in
      (t.0, h, sym (mark-at t.0 h) ∙ get_d_of (net_in n).marks t.0 (0, 0) e t.2)
