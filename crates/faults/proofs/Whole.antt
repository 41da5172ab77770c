-- A component from its first atom to its last.
use Prim.Native.Nat.{ℕ, suc, ◌+◌, ◌-◌, ◌≤◌, ◌<◌}
use mathlib.Core.Path.{◌≡◌, sym, ap, subst}
use mathlib.Core.Logic.{⊎_elim}
use mathlib.Core.List.Memᴰ
use mathlib.Core.List.{List, [], ◌∷◌, map}
use native.Mathlib.Omega.{arith}
use lib.ListN.{length, get_or, set, replicate, length-set}
use lib.Seq.{get_or-set_same, take-suc-set}
use Rattle.hyperlmntal.specs.Link.{◌∈◌}
use Rattle.rows.specs.Limits.{sheet_atom_limit, context_room, sheet_link_limit}
use Rattle.placing.specs.Net.{Net}
use Rattle.placing.specs.Placing.{Placing, cell_at}
use Rattle.candidates.specs.Laid.{laid_atom}
use Rattle.completing.specs.Fault.{Other}
use Rattle.completing.proofs.Growing.{part-start, serves-start}
use Rattle.faults.specs.Grows.{marks, Growth, growth, Sized, atoms_of, Tables, Holds, Grows, WithLinks, Enlarged, RowsIn, WholeAt}
use Rattle.stepping.proofs.Tables.{zeros, zeros-not, below_next}
use Rattle.faults.proofs.Marks.{marks-set, store-mark}
use Rattle.faults.proofs.AtomRows.{row_on, row-numbered, row-place}
use Rattle.faults.proofs.Growing.{listed_in, listed_of}

-- The start: one atom, no link.
module _ (atoms root : ℕ) (h : root < atoms) (few : atoms ≤ sheet_atom_limit) where
  abbrev pub alone : List ℕ
  alone = set (replicate sheet_atom_limit 0) root 1

  pub holds-start : (S F : Net) (q : Placing) → Other S F q (suc root) → Holds S F q (suc root) (suc root ∷ []) alone (replicate sheet_link_limit 0) []
  holds-start S F q o = record {
    connected = part-start S F q (suc root) o;
    flagged = λ j e. ⊎_elim (λ b. absurd (b (zeros sheet_atom_limit j))) (λ b. Memᴰ.head (ap suc b)) (store-mark (replicate sheet_atom_limit 0) root 1 j e);
    looked = λ y m. absurd (Memᴰ.not-nil m);
    flagged-seen = λ y e. absurd (zeros-not sheet_link_limit y e);
  }

  module _ (order : List ℕ) (room : length order ≡ sheet_atom_limit) where
    pub sized-start : Sized atoms (growth (set order 0 root) 1 alone)
    unfolding marks
    sized-start = record {
      order-room = simp length-set room;
      members-room = simp length-set;
      counted = sym (marks-set (replicate sheet_atom_limit 0) root 1 (omega arith) (zeros sheet_atom_limit root) (λ z. omega arith));
      most = omega arith;
      listed = λ k l. let e : k ≡ 0 = omega arith in subst (λ (n : ℕ). get_or (set order 0 root) n 0 < atoms) (sym e) (subst (λ (n : ℕ). n < atoms) (sym (get_or-set_same order 0 root 0 (omega arith))) h);
    }

    atoms-start : atoms_of (growth (set order 0 root) 1 alone) ≡ suc root ∷ []
    atoms-start = ap (map suc) (take-suc-set order 0 root (omega arith))

    pub grows_start : (S F : Net) (q : Placing) (contexts : ℕ) → contexts < context_room → Other S F q (suc root) → Grows S F q (suc root) contexts (growth (set order 0 root) 1 alone) (replicate sheet_link_limit 0) (replicate context_room 0)
    grows_start S F q contexts c o = record {
      seen = [];
      holds = subst (λ (l : List ℕ). Holds S F q (suc root) l alone (replicate sheet_link_limit 0) []) (sym atoms-start) (holds-start S F q o);
      serves = λ i l. ((λ e. serves-start S F q _), (λ s. zeros context_room i));
      all-atoms = λ y j m. absurd (Memᴰ.not-nil m);
    }

-- all links of the first atoms were looked at
abbrev pub LinksSeen : List ℕ → Growth → List ℕ → ℕ → Type 0
LinksSeen laid g flags head = (h k : ℕ) → h < head → k < (laid_atom laid (get_or g.order h 0)).count → get_or flags (get_or (laid_atom laid (get_or g.order h 0)).links k 0 - 1) 0 ≡ 1

-- The atoms of a sheet, one after the other.
module _ (laid : List ℕ) (atoms : ℕ) (chains used ports : List ℕ) (contexts : ℕ) where
  module _ (g : Growth) (flags cuts : List ℕ) (r : Growth) (flags_now cuts_now : List ℕ) (head : ℕ) (l : head < g.count) (s : Sized atoms g) (a : Enlarged atoms g flags r flags_now cuts_now)
      (w : WithLinks chains used ports (laid_atom laid (get_or g.order head 0)).links (laid_atom laid (get_or g.order head 0)).count atoms contexts g flags cuts r flags_now cuts_now) where
    pub seen_next : LinksSeen laid g flags head → LinksSeen laid r flags_now (head + 1)
    seen_next o h k i n = below_next (λ h. (k : ℕ) → k < (laid_atom laid (get_or r.order h 0)).count → Seen (get_or r.order h 0) k) head
        (λ h i. subst All (sym (a.longer.order-kept h (omega arith))) (λ k n. a.flags-kept (get_or (laid_atom laid (get_or g.order h 0)).links k 0 - 1) (o h k i n)))
        (subst All (sym (a.longer.order-kept head l)) w.looked) h i k n
      where
        Seen : ℕ → ℕ → Type 0
        Seen j k = get_or flags_now (get_or (laid_atom laid j).links k 0 - 1) 0 ≡ 1

        All : ℕ → Type 0
        All j = (k : ℕ) → k < (laid_atom laid j).count → Seen j k

    pub grows-next : (S F : Net) (q : Placing) (root : ℕ) → RowsIn S laid atoms → Tables S F q chains used ports atoms contexts → Grows S F q root contexts g flags cuts → Grows S F q root contexts r flags_now cuts_now
    grows-next S F q root rows t =
        let j = get_or g.order head 0 in
        let row = rows j (s.listed head l) in
        w.grows S F q root (suc j) t (listed_in g head (let o = s.order-room in let m = s.most in omega arith) l)
        (λ k n. (row-numbered S j (laid_atom laid j).links (laid_atom laid j).count row t.around.sheet-normal k n, row_on S j (laid_atom laid j).links (laid_atom laid j).count row k n))

  pub whole-at : (g : Growth) (flags cuts : List ℕ) (S F : Net) (q : Placing) (root : ℕ) → RowsIn S laid atoms → Tables S F q chains used ports atoms contexts → Sized atoms g → LinksSeen laid g flags g.count
      → Grows S F q root contexts g flags cuts → WholeAt S F q root contexts g flags cuts
  whole-at g flags cuts S F q root rows t s o w = record { grows = w; grown = record { all-links = λ j y m n. links j y m n; all-atoms = w.all-atoms } }
    where
      links : (j y : ℕ) → j ∈ atoms_of g → y ∈ (cell_at S.atoms j).1 → y ∈ w.seen
      links j y m n =
          let h = listed_of g j m in
          let i = get_or g.order h.0 0 in
          let row = rows i (s.listed h.0 h.1) in
          let k = row-place S i (laid_atom laid i).links (laid_atom laid i).count row y (subst (λ (z : ℕ). y ∈ (cell_at S.atoms z).1) (sym h.2) n) in
          let e : get_or (laid_atom laid i).links k.0 0 ≡ y = k.2 in
          let low : 1 ≤ get_or (laid_atom laid i).links k.0 0 = (row-numbered S i (laid_atom laid i).links (laid_atom laid i).count row t.around.sheet-normal k.0 k.1).0 in
          let up : y ≡ suc (y - 1) = omega arith in
          Memᴰ.cast up (w.holds.flagged-seen (y - 1) (subst (λ (z : ℕ). get_or flags (z - 1) 0 ≡ 1) e (o h.0 k.0 h.1 k.1)))
