-- More ways in the arrays than links across and atoms that break ways: no placing is left that agrees with the tables.
use Rattle.std.proofs.Common.{◌≡◌, ℕ, suc, ◌+◌, ◌-◌, ◌*◌, ◌<◌, ◌≤◌, Bool, true, false, ◌≢◌, ◌⊎◌, List, [], length, get_or, sym, ap, ◌∙◌, subst, inl, inr, arith, eq-eqb, eqb-true}
use native.Mathlib.Decide.{ℕ_discrete}
use Rattle.hyperlmntal.specs.Link.{◌∈◌}
use Rattle.rows.specs.Limits.{sheet_link_limit}
use Rattle.rows.specs.declared.Sheet.{Sheet as NormalForm}
use Rattle.placing.specs.Net.{Range}
use Rattle.placing.specs.Placing.{Placing, link_target, Taken, At}
use Rattle.placing.proofs.FirstLaws.{both_ways}
use Rattle.placing.proofs.Standing.{context-link}
use Rattle.network.specs.NetIn.{net_in}
use Rattle.network.specs.Ready.{Ready, TakenIn, state_in}
use Rattle.network.proofs.NetIn.{atoms-length}
use Rattle.candidates.specs.Laid.{LaidOut}
use Rattle.candidates.specs.Words.{In, InPair}
use Rattle.completing.specs.Completion.{Partial, Completion}
use Rattle.completing.specs.Known.{Stands, Known}
use Rattle.completing.specs.Ways.{OnBoth, OnOneHalf, Halved, SomeAt, OnlyAcross}
use Rattle.completing.proofs.Kept.{taken-same}
use Rattle.completing.proofs.Ways.{ways-outnumber}
use Rattle.stepping.specs.Chains.{node_of, Falls}
use Rattle.stepping.specs.Flags.{Within}
use Rattle.stepping.specs.Standing.{digit_of, Described}
use Rattle.stepping.proofs.Reading.{link_at}
use Rattle.ways.specs.Halves.{on_first, half_of, SortedTo, Sorts, Crossing}
use Rattle.ways.specs.Agrees.{Among, Agrees, NoneAgrees}
use Rattle.ways.specs.Trails.{Passable, Flagged, Unflagged, Has, WaysIn}
use Rattle.ways.proofs.Words.{half-first, half-second, half-both}
use Rattle.ways.proofs.Steps.{laid-passes}
use Rattle.ways.proofs.Trails.{ways-as}
use Rattle.ways.proofs.GuardedLinks.{all_links, all-links}

module _ (sheet figure : NormalForm) (atoms links count : ℕ) (chains words to : List ℕ) (d : Described sheet figure atoms links count chains words to) where
  pub links-few : links ≤ sheet_link_limit
  links-few = let h = d.ready.sheet-fit.class-count in let e = d.sheet-links in omega arith

  pub count-few : count ≤ sheet_link_limit
  count-few = let h = d.ready.figure-fit.class-count in let e = d.figure-links in omega arith

  pub links-within : Within (links + 1) count to
  links-within k h = let r = d.links-in.within k (let e = d.figure-links in omega arith) in let e = d.sheet-links in (r.0, omega (arith, r.1))

  pub chains-fall : Falls (node_of atoms 0) chains
  chains-fall = subst (λ (n : ℕ). Falls (node_of n 0) chains) d.sheet-atoms d.chains-in.nodes

  -- Figure link x goes to y by the table, or it may go there.
  abbrev Surely : ℕ → ℕ → Type 0
  Surely x y = Range count x × Range links y × (get_or to (x - 1) 0 ≡ y)

  module _ (side : ℕ) where
    -- where it has a flag and stands on both halves, to a guarded link
    abbrev Maybe : List ℕ → List ℕ → ℕ → ℕ → Type 0
    Maybe flags guarded x y = (get_or to (x - 1) 0 ≡ y) ⊎ ((get_or flags (x - 1) 0 ≡ 1) × (OnBoth (net_in figure) (on_first side) x → Among guarded y))

    -- figure link x, from 1, is of half h
    Half : ℕ → ℕ → Type 0
    Half h x = half_of (get_or words (x - 1) 0) side ≡ h

    -- A link that stands on a context has the context's digit.
    stands-in : (x k : ℕ) → Stands (net_in figure) x k → Range count x × In (get_or words (x - 1) 0) (digit_of k)
    stands-in x k s =
        let r = context-link (net_in figure) d.ready.figure-normal s.row x s.of-figure s.port in
        let e = d.figure-links in
        let up : x ≡ suc (x - 1) = omega (arith, r.0) in
        ((r.0, omega (arith, r.1)), d.standing.holds (x - 1) (omega (arith, r.0, r.1)) k (subst (λ (y : ℕ). Stands (net_in figure) y k) up s))

    on-first : (k : ℕ) → on_first side k ≡ true → In side (digit_of k)
    on-first k e = eqb-true _ 1 e

    not_first : (k : ℕ) → on_first side k ≡ false → ¬ In side (digit_of k)
    not_first k e i = both_ways (eq-eqb _ 1 i) e

    halved : Halved (net_in figure) (on_first side) (Half 1) (Half 2)
    unfolding Half
    halved = record {
      not-second = λ x h t. not_first t.0 t.2 (half-first (get_or words (x - 1) 0) side h (digit_of t.0) (stands-in x t.0 t.1).1);
      not_first = λ x h t. half-second (get_or words (x - 1) 0) side h (digit_of t.0) (stands-in x t.0 t.1).1 (on-first t.0 t.2);
      apart = λ x g h. omega arith;
    }

    pub both-half : (x : ℕ) → OnBoth (net_in figure) (on_first side) x → Range count x × (half_of (get_or words (x - 1) 0) side ≡ 3)
    unfolding Half
    both-half x t =
        let u = stands-in x t.0.0 t.0.1 in
        let v = stands-in x t.1.0 t.1.1 in
        (u.0, half-both (get_or words (x - 1) 0) side (digit_of t.0.0) (digit_of t.1.0) u.1 (on-first t.0.0 t.0.2) v.1 (not_first t.1.0 t.1.2))

    -- What the tables say of the placings that agree with them.
    module _ (flags taken guarded breaking : List ℕ) where
      abbrev Agreeing : Placing → Type 0
      Agreeing p = Agrees sheet figure to flags taken guarded side breaking p

      goes_at : (p : Placing) → Agreeing p → (x : ℕ) → Range count x → (get_or flags (x - 1) 0 ≢ 1) ⊎ (get_or to (x - 1) 0 ≢ suc sheet.class_count) → link_target p x ≡ get_or to (x - 1) 0
      goes_at p a x r s =
          let up : x ≡ suc (x - 1) = omega (arith, r.0) in
          ap (link_target p) up ∙ a.goes (x - 1) (let e = d.figure-links in omega (arith, r.0, r.1)) s

      agreeing-known : Known (net_in sheet) (net_in figure) Agreeing (Maybe flags guarded) Surely (λ j. ⊥)
      agreeing-known = record { good = λ p a. a.good; may-go = may; surely = sure; is-atom = λ j o. absurd o; not_taken = λ p a j o. absurd o }
        where
          held : (p : Placing) → Agreeing p → (x y : ℕ) → At (net_in sheet) (net_in figure) p x y → get_or flags (x - 1) 0 ≡ 1 → OnBoth (net_in figure) (on_first side) x → Among guarded y
          held p a x y t e o =
              let up : x ≡ suc (x - 1) = omega (arith, t.figure-link.0) in
              subst (Among guarded) (ap (link_target p) (sym up) ∙ t.there) (a.held (x - 1) (omega (arith, t.figure-link.0, t.figure-link.1)) e (subst (OnBoth (net_in figure) (on_first side)) up o) (subst (Range sheet.class_count) (sym t.there ∙ ap (link_target p) up) t.sheet-link))

          may : (p : Placing) → Agreeing p → (x y : ℕ) → At (net_in sheet) (net_in figure) p x y → Maybe flags guarded x y
          may p a x y t = go (ℕ_discrete (get_or flags (x - 1) 0) 1)
            where
              go : Dec (get_or flags (x - 1) 0 ≡ 1) → Maybe flags guarded x y
              go (yes e) = inr (e, held p a x y t e)
              go (no n) = inl (sym (goes_at p a x (t.figure-link.0, let e = d.figure-links in omega (arith, t.figure-link.1)) (inl n)) ∙ t.there)

          sure : (p : Placing) → Agreeing p → (x y : ℕ) → Surely x y → At (net_in sheet) (net_in figure) p x y
          sure p a x y s = record {
            figure-link = (s.0.0, let e = d.figure-links in omega (arith, s.0.1));
            sheet-link = (s.1.0, let e = d.sheet-links in omega (arith, s.1.1));
            there = goes_at p a x s.0 (inr (λ n. let e = d.sheet-links in omega (arith, n, s.1.1, s.2))) ∙ s.2;
          }

      agreeing-taken : (p : Placing) → Agreeing p → (j : ℕ) → Passable taken atoms j → (t : Taken (net_in sheet) (net_in figure) p j)
          → ((t.by ∈ breaking) × Has 2 taken j) ⊎ OnOneHalf (net_in figure) (on_first side) t.by
      agreeing-taken p a j r t = go (a.passed r.0 (let e = d.sheet-atoms in omega (arith, r.2)) r.3 (record { by = t.by; of-figure = t.of-figure; there = t.there ∙ r.1 }))
        where
          go : ((t.by ∈ breaking) × (get_or taken r.0 0 ≡ 2)) ⊎ OnOneHalf (net_in figure) (on_first side) t.by → ((t.by ∈ breaking) × Has 2 taken j) ⊎ OnOneHalf (net_in figure) (on_first side) t.by
          go (inl s) = inl (s.0, (r.0, r.1, s.1))
          go (inr s) = inr s

    passable-atom : (taken : List ℕ) (j : ℕ) → Passable taken atoms j → Range (length (net_in sheet).atoms) j
    passable-atom taken j r = let e = atoms-length sheet d.ready.sheet-fit in let f = d.sheet-atoms in let g = r.1 in let h = r.2 in (omega arith, omega arith)

    module _ (table : List ℕ) (sorts : Sorts words to (links + 1) side count table) where
      -- A link of half h surely goes where a flag of h is.
      flagged-at : (h y : ℕ) → Flagged table h links y → SomeAt Surely (Half h) y
      unfolding Half
      flagged-at h y g = (suc x, ((omega arith, let i = t.1 in omega arith), (let l = g.link in omega arith, let k = g.place_in in let l = g.link in omega arith), ap (λ (i : ℕ). get_or to i 0) back ∙ same.0), ap (λ (i : ℕ). half_of (get_or words i 0) side) back ∙ same.1)
        where
          t : (x : ℕ) × (x < count) × SortedTo words to (links + 1) side x (h * sheet_link_limit + g.place)
          t = (sorts (h * sheet_link_limit + g.place)).0 g.flag

          x : ℕ
          x = t.0

          back : suc x - 1 ≡ x
          back = omega arith

          same : (get_or to x 0 ≡ y) × (half_of (get_or words x 0) side ≡ h)
          same =
              let r = links-within x t.1 in
              let n : get_or to x 0 ≢ links + 1 = t.2.0 in
              let e : h * sheet_link_limit + g.place ≡ half_of (get_or words x 0) side * sheet_link_limit + (get_or to x 0 - 1) = t.2.1 in
              let f = links-few in
              let k = g.place_in in
              let i : half_of (get_or words x 0) side ≡ h = omega (arith, r.0, r.1) in
              (omega (arith, r.0, r.1, i, g.link), i)

      -- Where there is no flag of both, only links on both that have a flag may go, and what they may go to is guarded.
      module _ (guarded guards : List ℕ) (spread : (y : ℕ) → y < links → InPair guarded y → get_or guards y 0 ≡ 1) where
        unflagged-only : (flags : List ℕ) (m : ℕ) (c : Crossing words flags side count m) → (y : ℕ) → Unflagged table 3 links y → OnlyAcross (net_in figure) (on_first side) (Maybe flags guarded) c.across (Has 1 guards) y
        unfolding Half
        unflagged-only flags m c y g x (inl e) t =
            let b = both-half x t in
            let l = g.place_in in
            let k = g.link in
            absurd (g.no_flag ((sorts (3 * sheet_link_limit + g.place)).1 (x - 1, omega (arith, b.0.0, b.0.1), ((λ n. omega arith), omega (arith, b.1)))))
        unflagged-only flags m c y g x (inr u) t =
            let b = both-half x t in
            let up : x ≡ suc (x - 1) = omega (arith, b.0.0) in
            let i = u.1 t in
            let l = g.place_in in
            let k = g.link in
            let e : y ≡ suc i.0 = i.1 in
            (subst (λ (z : ℕ). z ∈ c.across) (sym up) (c.all (x - 1) (omega (arith, b.0.0, b.0.1)) u.0 b.1), (i.0, e, spread i.0 (omega arith) i.2))

    -- More ways than links across and atoms that break ways.
    pub ways-none-agree : (laid taken flags guarded guards table : List ℕ) (m n k : ℕ) → LaidOut sheet laid atoms → Sorts words to (links + 1) side count table → Crossing words flags side count m
        → ((y : ℕ) → y < links → InPair guarded y → get_or guards y 0 ≡ 1) → WaysIn laid taken atoms guards links table n → m + k < n → (r : Bool) → NoneAgrees sheet figure to flags taken guarded side k r
    unfolding Half
    ways-none-agree laid taken flags guarded guards table m n k out sorts c spread ways more r e breaking few =
        ways-outnumber (net_in sheet) (net_in figure) d.ready.sheet-normal d.ready.figure-normal (Agrees sheet figure to flags taken guarded side breaking) (Maybe flags guarded) Surely (λ j. ⊥)
        (agreeing-known flags taken guarded breaking) (on_first side) (Half 1) (Half 2) halved (Passable taken atoms) (passable-atom taken) (Has 1 guards) (Has 2 taken) breaking (agreeing-taken flags taken guarded breaking) c.across n
        (ways-as (laid-passes sheet laid taken atoms out) (flagged-at table sorts 1) (flagged-at table sorts 2) (unflagged-only table sorts guarded guards spread flags m c) n ways)
        (let h = c.number in omega arith)

-- A completion agrees with the tables of the placed atoms.
pub completion-agrees : (sheet figure : NormalForm) → Ready sheet figure → (side : ℕ) (list to flags taken un : List ℕ) → TakenIn sheet figure (state_in figure list to) taken
    → Partial (net_in sheet) (net_in figure) (state_in figure list to) un → ((x : ℕ) → suc x ∈ un → get_or flags x 0 ≡ 1)
    → (p : Placing) → Completion (net_in sheet) (net_in figure) (state_in figure list to) un p → Agrees sheet figure to flags taken all_links side [] p
completion-agrees sheet figure ready side list to flags taken un t a f p c = record {
  good = c.good;
  goes = λ x h w. let r : Range figure.class_count (suc x) = (omega arith, omega arith) in
      c.settled (suc x) r (λ m. settled x h m w) ∙ at x h;
  held = λ x h e o r. (link_target p (suc x) - 1, omega (arith, r.0), all-links (link_target p (suc x) - 1) (let f = ready.sheet-fit.class-count in omega (arith, r.0, r.1)));
  passed = λ row h n k. absurd (n (subst (λ (i : ℕ). get_or taken i 0 ≡ 1) (let e : suc row - 1 ≡ row = omega arith in e)
      ((t.flags (suc row) (omega arith, omega arith)).1 (taken-same (net_in sheet) (net_in figure) p (state_in figure list to) c.same-atoms (suc row) k))));
}
  where
    at : (x : ℕ) → x < figure.class_count → link_target (state_in figure list to) (suc x) ≡ get_or to x 0
    at x h = link_at figure ready.figure-fit (net_in sheet) list to (suc x) (omega arith, omega arith) ∙ ap (λ (i : ℕ). get_or to i 0) (let e : suc x - 1 ≡ x = omega arith in e)

    settled : (x : ℕ) → x < figure.class_count → suc x ∈ un → (get_or flags x 0 ≢ 1) ⊎ (get_or to x 0 ≢ suc sheet.class_count) → ⊥
    settled x h m (inl n) = n (f x m)
    settled x h m (inr n) = n (sym (at x h) ∙ a.read_none (suc x) m)
