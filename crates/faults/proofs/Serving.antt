-- The laws of giving contexts to components.
use Prim.Native.Nat.{ℕ, suc, ◌+◌, ◌-◌, ◌≤◌, ◌<◌}
use mathlib.Core.Path.{◌≡◌, sym, ◌∙◌, ap, subst}
use mathlib.Core.Logic.{◌⊎◌, inl, inr, ⊎_elim, ◌≢◌}
use mathlib.Core.List.{List, []}
use native.Mathlib.Decide.{ℕ_discrete}
use native.Mathlib.Omega.{arith}
use lib.ListN.{length, get_or, set, length-set, replicate}
use lib.Seq.{get_or-set_same, get_or-set_other}
use Rattle.hyperlmntal.specs.Link.{◌∈◌}
use Rattle.rows.specs.Limits.{sheet_atom_limit}
use Rattle.placing.specs.Net.{NetCell, Net, Range}
use Rattle.placing.specs.Placing.{Placing, number_at, cell_at, Taken}
use Rattle.placing.proofs.Lists.{member-at, get_d_of}
use Rattle.completing.specs.Fault.{Other, LeastContext}
use Rattle.completing.specs.Growing.{Serves}
use Rattle.completing.proofs.Growing.{part-other, part-cut-off, grown-least}
use Rattle.faults.specs.Grows.{Growth, Sized, atoms_of, WholeAt}
use Rattle.faults.specs.Parts.{CutLinks, Rows}
use Rattle.faults.specs.Gives.{Given, Gave, GivenAt, GivenMore, GivenAll, TakenFlags, HeldIn}
use Rattle.stepping.proofs.Tables.{below_next, store-flag, zeros, zeros-not}
use Rattle.reading.proofs.normal.Merging.{get_d-in}
use Rattle.faults.proofs.Growing.{listed_in, listed_of}

pub rows_in : (F : Net) (count : ℕ) → length F.contexts ≡ count → Rows F count
rows_in F count e row m =
    let t = member-at F.contexts row m in
    let h : t.0 < length F.contexts = t.1 in
    let i : suc t.0 - 1 ≡ t.0 = omega arith in
    (t.0, omega arith, ap (λ (r : NetCell). r.0) (ap (λ (n : ℕ). get_or F.contexts n (0, [])) i ∙ get_d_of F.contexts t.0 (0, []) row t.2))

-- The same numbers, said otherwise.
pub held-as : (S F : Net) (laid : List ℕ) (atoms links : ℕ) (number other : ℕ → ℕ) (rows : ℕ) → ((c : ℕ) → c < rows → other c ≡ number c) → HeldIn S F laid atoms links number rows → HeldIn S F laid atoms links other rows
held-as S F laid atoms links number other rows e h = record {
  link-count = h.link-count;
  atom-rows = h.atom-rows;
  choice-count = h.choice-count;
  choice-number = λ c l. h.choice-number c l ∙ sym (e c l);
}

-- one atom more has the context
pub gave-next : (given r : Given) (g : Growth) (number n : ℕ) → get_or g.order n 0 < sheet_atom_limit → Gave given g number n r
    → Gave given g number (n + 1) (record { contexts = set r.contexts (get_or g.order n 0) number; done = set r.done (get_or g.order n 0) 1 })
gave-next given r g number n h w = record {
  contexts-room = simp length-set w.contexts-room;
  done-room = simp length-set w.done-room;
  all_done = below_next (λ i. get_or (set r.done at 1) (get_or g.order i 0) 0 ≡ 1) n (λ i l. (store-flag r.done at room (get_or g.order i 0)).1 (inl (w.all_done i l))) (get_or-set_same r.done at 1 0 room);
  each = λ j. go j (ℕ_discrete j at);
}
  where
    at : ℕ
    at = get_or g.order n 0

    room : at < length r.done
    room = let e = w.done-room in omega arith

    next : Given
    next = record { contexts = set r.contexts at number; done = set r.done at 1 }

    Each : ℕ → Type 0
    Each j = ((i : ℕ) × (i < n + 1) × (get_or g.order i 0 ≡ j) × (get_or next.contexts j 0 ≡ number))
        ⊎ ((get_or next.contexts j 0 ≡ get_or given.contexts j 0) × (get_or next.done j 0 ≡ get_or given.done j 0))

    go : (j : ℕ) → Dec (j ≡ at) → Each j
    go j (yes e) = inl (n, omega arith, sym e, subst (λ (k : ℕ). get_or next.contexts k 0 ≡ number) (sym e) (get_or-set_same r.contexts at number 0 (let i = w.contexts-room in omega arith)))
    go j (no e) = ⊎_elim (λ t. let l : t.0 < n = t.1 in inl (t.0, omega arith, t.2, a ∙ t.3)) (λ t. inr (a ∙ t.0, b ∙ t.1)) (w.each j)
      where
        a : get_or next.contexts j 0 ≡ get_or r.contexts j 0
        a = get_or-set_other r.contexts at j number 0 e

        b : get_or next.done j 0 ≡ get_or r.done j 0
        b = get_or-set_other r.done at j 1 0 e

-- an atom that had a context or is in the component has one now
pub done_more : (g : Growth) (given r : Given) (number j : ℕ) → Gave given g number g.count r → (get_or given.done j 0 ≡ 1) ⊎ (suc j ∈ atoms_of g) → get_or r.done j 0 ≡ 1
done_more g given r number j v (inl e) = ⊎_elim (λ t. subst (λ (i : ℕ). get_or r.done i 0 ≡ 1) t.2 (v.all_done t.0 t.1)) (λ t. t.1 ∙ e) (v.each j)
done_more g given r number j v (inr m) =
    let t = listed_of g (suc j) m in
    let e : get_or g.order t.0 0 ≡ j = (let i : suc (get_or g.order t.0 0) ≡ suc j = t.2 in omega arith) in
    subst (λ (i : ℕ). get_or r.done i 0 ≡ 1) e (v.all_done t.0 t.1)

module _ (S F : Net) (laid : List ℕ) (atoms links : ℕ) (number : ℕ → ℕ) (rows : ℕ) (held : HeldIn S F laid atoms links number rows)
    (q : Placing) (root : ℕ) (g : Growth) (flags cuts : List ℕ) (w : WholeAt S F q (suc root) rows g flags cuts) where
  abbrev seen : List ℕ
  seen = w.grows.seen

  -- a context that serves is left
  is-left : (row : NetCell) → row ∈ F.contexts → Serves S F q seen row.0 → (c : ℕ) × (c < rows) × (number c ≡ row.0) × (get_or cuts c 0 ≡ 0)
  is-left row m s =
      let c = rows_in F rows held.choice-count row m in
      (c.0, c.1, sym (held.choice-number c.0 c.1) ∙ c.2, (w.grows.serves c.0 c.1).1 (subst (Serves S F q seen) (sym c.2) s))

  -- none is left
  pub none_left : ((c : ℕ) → c < rows → get_or cuts c 0 ≢ 0) → CutLinks S F q flags
  none_left n = (atoms_of g, seen, part-cut-off S F q (suc root) (atoms_of g) seen w.grows.holds.connected (λ row m s. let c = is-left row m s in n c.0 c.1 c.3), w.grows.holds.looked)

  -- the best of those left
  module _ (best : ℕ) (h : best < rows) (b : get_or cuts best 0 ≡ 0) (low : (c : ℕ) → c < rows → get_or cuts c 0 ≡ 0 → number best ≤ number c) where
    best-least : (j : ℕ) → j ∈ atoms_of g → LeastContext S F q j (number best)
    best-least j m = grown-least S F q (suc root) (atoms_of g) seen w.grows.holds.connected w.grown (number best)
        (cell_at F.contexts (suc best), get_d-in F.contexts (suc best - 1) (0, []) (omega (arith, held.choice-count)), held.choice-number best h)
        (subst (Serves S F q seen) (held.choice-number best h) ((w.grows.serves best h).0 b))
        (λ d n s. let c = is-left n.0 n.1 (subst (Serves S F q seen) (sym n.2) s) in
        let e : number c.0 ≡ d = c.2 ∙ n.2 in
        let k = low c.0 c.1 c.3 in omega arith) j m

    given-more : Sized atoms g → (given r : Given) → Gave given g (number best) g.count r → GivenAt S F q given → GivenAt S F q r
    given-more s given r v a = record {
      least = λ j e. ⊎_elim (λ t. hit j t) (λ t. let o = a.least j (sym t.1 ∙ e) in (o.0, subst (LeastContext S F q (suc j)) (sym t.0) o.1)) (v.each j);
      not_yet = λ j n. ⊎_elim (λ t. absurd (n (subst (λ (i : ℕ). get_or r.done i 0 ≡ 1) t.2 (v.all_done t.0 t.1)))) (λ t. t.0 ∙ a.not_yet j (λ e. n (t.1 ∙ e))) (v.each j);
    }
      where
        hit : (j : ℕ) → (i : ℕ) × (i < g.count) × (get_or g.order i 0 ≡ j) × (get_or r.contexts j 0 ≡ number best) → Other S F q (suc j) × LeastContext S F q (suc j) (get_or r.contexts j 0)
        hit j t =
            let m : suc j ∈ atoms_of g = subst (λ (i : ℕ). suc i ∈ atoms_of g) t.2 (listed_in g t.0 (let o = s.order-room in let k = s.most in omega arith) t.1) in
            (part-other S F q (suc root) (atoms_of g) seen w.grows.holds.connected (suc j) m, subst (LeastContext S F q (suc j)) (sym t.3) (best-least (suc j) m))

    pub one-given : Sized atoms g → (before after : Given) → Gave before g (number best) g.count after → GivenMore S F q root before after
    one-given s before after v = record {
      least = given-more s before after v;
      done = λ j d. done_more g before after (number best) j v (⊎_elim (λ k. inl k) (λ k. inr (subst (λ (i : ℕ). suc i ∈ atoms_of g) (sym k) w.grows.holds.connected.root-member)) d);
    }

-- At the start, and at the end.
pub given-start : (S F : Net) (q : Placing) → GivenAt S F q (record { contexts = replicate sheet_atom_limit 0; done = replicate sheet_atom_limit 0 })
given-start S F q = record { least = λ j e. absurd (zeros-not sheet_atom_limit j e); not_yet = λ j n. zeros sheet_atom_limit j }

module _ (S F : Net) (q : Placing) (atoms : ℕ) (size : length S.atoms ≡ atoms) (taken : List ℕ) (t : TakenFlags S F q atoms taken) where
  pub other_at : (j : ℕ) → j < atoms → get_or taken j 0 ≢ 1 → Other S F q (suc j)
  other_at j h n = ((omega arith, omega arith), λ k. n ((t j h).1 k))

  pub all-given : (given : Given) → length given.contexts ≡ sheet_atom_limit → ((j : ℕ) → j < atoms → (get_or taken j 0 ≡ 1) ⊎ (get_or given.done j 0 ≡ 1)) → GivenAt S F q given
      → GivenAll S F q given.contexts
  all-given given room d a = record {
    room = room;
    least = λ j o. let r = place j o.0 in ⊎_elim (λ k. absurd (o.1 (subst (Taken S F q) r.1 ((t (j - 1) r.0).0 k))))
        (λ k. subst (λ (i : ℕ). LeastContext S F q i (number_at given.contexts j)) r.1 (a.least (j - 1) k).1) (d (j - 1) r.0);
    not-given = λ j o k. let r = place j o in go j r k (ℕ_discrete (get_or given.done (j - 1) 0) 1);
  }
    where
      place : (j : ℕ) → Range (length S.atoms) j → (j - 1 < atoms) × (suc (j - 1) ≡ j)
      place j r = let low : 1 ≤ j = r.0 in let high : j ≤ length S.atoms = r.1 in (omega arith, omega arith)

      go : (j : ℕ) → (j - 1 < atoms) × (suc (j - 1) ≡ j) → Taken S F q j → Dec (get_or given.done (j - 1) 0 ≡ 1) → number_at given.contexts j ≡ 0
      go j r k (yes e) = absurd ((a.least (j - 1) e).0.1 (subst (Taken S F q) (sym r.1) k))
      go j r k (no n) = a.not_yet (j - 1) n
