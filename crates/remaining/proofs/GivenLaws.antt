-- The contexts that a completion gives to the atoms, as digits.
use Prim.Native.Nat.{ℕ, suc, ◌+◌, ◌-◌, ◌<◌}
use mathlib.Core.Path.{◌≡◌, sym, ◌∙◌, ap, subst}
use mathlib.Core.Logic.{inl, inr, ◌≢◌, ◌↔◌}
use mathlib.Core.List.{List}
use native.Mathlib.Nat.{mod-lt}
use native.Mathlib.Omega.{arith}
use lib.ListN.{length, get_or, take}
use lib.Seq.{get_or-take}
use Rattle.hyperlmntal.specs.Link.{◌∈◌}
use Rattle.rows.specs.declared.Sheet as form
use Rattle.placing.specs.Net.{Net, Range}
use Rattle.placing.specs.Placing.{Placing, link_target, given_to, At}
use Rattle.placing.proofs.Standing.{context-link, place-link}
use Rattle.network.specs.NetIn.{net_in}
use Rattle.network.specs.Ready.{state_in, TakenIn}
use Rattle.network.proofs.NetIn.{atoms-length}
use Rattle.candidates.specs.Words.{In}
use Rattle.candidates.proofs.Digits.{none_in, in_and}
use Rattle.completing.specs.Completion.{Partial, Completion}
use Rattle.completing.specs.Fault.{Other}
use Rattle.completing.specs.Known.{Stands, Known, MayGo}
use Rattle.completing.specs.Remaining.{Closed}
use Rattle.completing.proofs.Known.{completions-known, no-bars}
use Rattle.completing.proofs.Remaining.{sure-within, beside-within, sure-apart}
use Rattle.stepping.specs.Flags.{SentTo}
use Rattle.stepping.specs.Standing.{context_digits, digit_of, Described}
use Rattle.remaining.specs.Joining.{MayAt, Closure, closure_in}
use Rattle.remaining.specs.Allowing.{StandsAt, Allows, SettledIn, Together, TornAt}

back : (j : ℕ) → suc j - 1 ≡ j
back j = omega arith

module _ (sheet figure : form.Sheet) (atoms links count : ℕ) (chains standing to : List ℕ) (d : Described sheet figure atoms links count chains standing to)
    (taken flags placed un : List ℕ) (held : TakenIn sheet figure (state_in figure placed to) taken) (partial : Partial (net_in sheet) (net_in figure) (state_in figure placed to) un)
    (flagged : (x : ℕ) → suc x ∈ un → get_or flags x 0 ≡ 1) (p : Placing) (c : Completion (net_in sheet) (net_in figure) (state_in figure placed to) un p) where
  abbrev S : Net
  S = net_in sheet

  abbrev F : Net
  F = net_in figure

  abbrev q : Placing
  q = state_in figure placed to

  abbrev may : ℕ → ℕ → Type 0
  may = MayGo q un (λ x y. ⊥)

  known : Known S F (Completion S F q un) may (At S F q) (Other S F q)
  known = completions-known S F q un partial (λ x y. ⊥) (no-bars S F q un)

  -- the digit of the context of atom j, from 0
  abbrev pub digits : ℕ → ℕ
  digits j = digit_of (given_to p (suc j))

  pub small : (j : ℕ) → digits j < context_digits
  small j = mod-lt (given_to p (suc j)) (omega arith)

  digit-small : (k : ℕ) → digit_of k < context_digits
  digit-small k = mod-lt k (omega arith)

  other : (j y : ℕ) → StandsAt S taken j y → Other S F q (suc j)
  other j y o = let r : Range (length S.atoms) (suc j) = (omega arith, omega (arith, o.is-atom)) in
      (r, λ t. o.free (subst (λ (i : ℕ). get_or taken i 0 ≡ 1) (back j) ((held.flags (suc j) (omega arith, omega (arith, r.1, atoms-length sheet d.ready.sheet-fit))).1 t)))

  -- where a figure link goes
  link-of : (x : ℕ) → x < count → link_target q (suc x) ≡ get_or to x 0
  link-of x h = ap (λ (i : ℕ). get_or (take figure.class_count to) i 0) (back x) ∙ get_or-take figure.class_count to x 0 (omega (arith, h, d.figure-links))

  link-back : (x k : ℕ) → Stands F x k → (z : ℕ) × (z < count) × (x ≡ suc z)
  link-back x k s = let r = context-link F d.ready.figure-normal s.row x s.of-figure s.port in (x - 1, omega (arith, r.0, r.1, d.figure-links), omega (arith, r.0))

  stands-in : (z k : ℕ) → z < count → Stands F (suc z) k → In (get_or standing z 0) (digit_of k)
  stands-in z k h s = d.standing.holds z (omega (arith, h, d.figure-links)) k s

  -- A union of classes, said of the figure's contexts.
  closed-by : (y word r at : ℕ) → ((z : ℕ) → z < count → may (suc z) (suc y) → MayAt flags to at z) → Closure standing flags to count at word r → Closed F may (suc y) (λ k. In r (digit_of k))
  closed-by y word r at f u x m k k' s s' i = by (link-back x k s) m s s'
    where
      by : (z : ℕ) × (z < count) × (x ≡ suc z) → may x (suc y) → Stands F x k → Stands F x k' → In r (digit_of k')
      by (z, h, e) m s s' =
          let P : ℕ → Type 0 = λ v. may v (suc y) → Stands F v k → Stands F v k' → In r (digit_of k') in
          subst P (sym e) (λ m' t t'. u.closed z h (f z h m') (digit_of k) (digit_of k') (digit-small k') (stands-in z k h t) (stands-in z k' h t') i) m s s'

  may_at : (y z : ℕ) → z < count → may (suc z) (suc y) → MayAt flags to (suc y) z
  may_at y z h (inl e) = inr (sym (link-of z h) ∙ e)
  may_at y z h (inr m) = inl (flagged z m.0)

  at-link : (x y : ℕ) → x < count → get_or to x 0 ≢ links + 1 → get_or to x 0 ≡ suc y → At S F q (suc x) (suc y)
  at-link x y h n e = let r = d.links-in.within x (omega (arith, h, d.figure-links)) in record {
    figure-link = (omega arith, omega (arith, h, d.figure-links));
    sheet-link = (omega arith, omega (arith, r.1, n, e, d.sheet-links));
    there = link-of x h ∙ e;
  }

  pub settled-in : SettledIn S taken digits standing flags to count (links + 1)
  settled-in x y word h n e u j o = sure-within S F d.ready.sheet-normal d.ready.figure-normal (Completion S F q un) may (At S F q) (Other S F q) known p c (suc y)
      (λ k. In word (digit_of k)) (closed-by y (get_or standing x 0) word (suc y) (may_at y) u) (suc j) (suc x) (other j y o) o.on (at-link x y h n e)
      (λ k s. u.kept (digit_of k) (digit-small k) (stands-in x k h s))

  pub torn-not : ¬ TornAt standing flags to count (links + 1)
  torn-not t = let r = d.links-in.within t.one (omega (arith, t.one_in, d.figure-links)) in
      let y = get_or to t.one 0 - 1 in
      let e : get_or to t.one 0 ≡ suc y = omega (arith, r.0) in
      let u : Closure standing flags to count (suc y) (get_or standing t.one 0) t.word = subst (λ (v : ℕ). Closure standing flags to count v (get_or standing t.one 0) t.word) e t.closure in
      sure-apart S F d.ready.sheet-normal d.ready.figure-normal (Completion S F q un) may (At S F q) (Other S F q) known p c (suc y)
      (λ k. In t.word (digit_of k)) (closed-by y (get_or standing t.one 0) t.word (suc y) (may_at y) u) (suc t.one) (suc t.two)
      (at-link t.one y t.one_in t.some e) (at-link t.two y t.two_in (λ f. t.some (sym t.there ∙ f)) (t.there ∙ e)) (λ f. t.differ (omega (arith, f)))
      (λ k s. u.kept (digit_of k) (digit-small k) (stands-in t.one k t.one_in s))
      (λ k s i. none_in (digit_of k) (subst (λ (v : ℕ). In v (digit_of k)) t.apart (in_and (get_or standing t.two 0) t.word (digit_of k) (stands-in t.two k t.two_in s) i)))

  module _ (table used : List ℕ) (closures : (word : ℕ) → Closure standing flags to count 0 word (closure_in table word))
      (marked : (y : ℕ) → (get_or used y 0 ≡ 1) ↔ ((x : ℕ) × (x < count) × SentTo to (links + 1) x y)) where
    -- Where no settled link goes, those with a flag alone may.
    unused-at : (j y : ℕ) → StandsAt S taken j y → get_or used y 0 ≢ 1 → (z : ℕ) → z < count → may (suc z) (suc y) → MayAt flags to 0 z
    unused-at j y o n z h (inr m) = inl (flagged z m.0)
    unused-at j y o n z h (inl e) =
        let r = place-link S d.ready.sheet-normal (suc j) (suc y) (other j y o).0 o.on in
        let f : get_or to z 0 ≡ y + 1 = omega (arith, link-of z h, e) in
        absurd (n ((marked y).1 (z, h, (f, λ g. omega (arith, g, f, r.1, d.sheet-links)))))

    pub together : Together S taken digits table used
    together = record {
      small = small;
      kept = λ word t h i. (closures word).kept t h i;
      all = λ y n i word o u j o'. beside-within S F d.ready.sheet-normal d.ready.figure-normal (Completion S F q un) may (At S F q) (Other S F q) known p c (suc y)
          (λ k. In (closure_in table word) (digit_of k)) (closed-by y word (closure_in table word) 0 (unused-at i y o n) (closures word)) (suc i) (suc j) (other i y o) (other j y o') o.on o'.on u;
    }

  -- An atom with no digit left.
  pub empty-not : (words : List ℕ) → Allows S taken digits words → ¬ ((j : ℕ) × (j < atoms) × (get_or taken j 0 ≢ 1) × (get_or words j 0 ≡ 0))
  empty-not words a (j, h, f, e) = none_in (digits j) (subst (λ (v : ℕ). In v (digits j)) e (a.within j (omega (arith, h, d.sheet-atoms, atoms-length sheet d.ready.sheet-fit)) f))
