-- Steps say whether figure links that go to one sheet link are linked there.
use Prim.Native.Nat.{ℕ, suc, ◌+◌, ◌-◌, ◌≤◌, ◌<◌}
use mathlib.Core.Path.{◌≡◌, sym, ◌∙◌, ap, subst}
use mathlib.Core.List.{List}
use native.Mathlib.Omega.{arith}
use lib.ListN.{get_or}
use Rattle.hyperlmntal.specs.Link.{◌∈◌}
use Rattle.rows.specs.Limits.{sheet_link_limit}
use Rattle.rows.specs.declared.Sheet as form
use Rattle.placing.specs.Net.{NetCell, Net, Range}
use Rattle.placing.specs.Placing.{Placing, number_at, link_target, At, Linked, here, step}
use Rattle.network.specs.NetIn.{net_in, context_in, context_at}
use Rattle.network.specs.Ready.{state_in}
use Rattle.network.proofs.NetIn.{context-of, context-in}
use Rattle.candidates.specs.PortSets.{ContextsIn}
use Rattle.candidates.specs.declared.ports.PortSet.{PortSet}
use Rattle.candidates.proofs.PortRows.{port-in, port-range, in-port}
use Rattle.network.specs.Reach.{Reach, stay, move}
use Rattle.completing.specs.Fault.{AllLinked, TwoApart}
use Rattle.stepping.specs.Flags.{Within}
use Rattle.stepping.specs.Labels.{Tie, MeetTied, MeetApart}
use Rattle.stepping.proofs.Reading.{row_in, link_at, goes}

module _ (S : Net) {figure : form.Sheet} {sets : List PortSet} {rows links : ℕ} (o : ContextsIn figure sets rows links) (atoms to : List ℕ) where
  abbrev F : Net
  F = net_in figure

  abbrev q : Placing
  q = state_in figure atoms to

  few : links ≤ sheet_link_limit
  few = omega (arith, o.fit.class-count, o.link-count)

  -- steps lead between linked links
  linked-tied : (y : ℕ) {a b : ℕ} → Linked S F q y a b → Reach (Tie sets rows to) (a - 1) (b - 1)
  linked-tied y here = stay
  linked-tied y (step {x = x} {x' = z} s l) =
      let c = context-of figure o.fit s.row s.of-figure in
      let h : c.0 < rows = omega (arith, c.1, o.row_count) in
      let i = in-port o c.0 x h (subst (λ (r : NetCell). x ∈ r.1) (sym c.2) s.first) in
      let j = in-port o c.0 z h (subst (λ (r : NetCell). z ∈ r.1) (sym c.2) s.second) in
      let a : number_at to x ≡ y = sym (link_at figure o.fit S atoms to x s.first-at.figure-link) ∙ s.first-at.there in
      let b : number_at to z ≡ y = sym (link_at figure o.fit S atoms to z s.second_at.figure-link) ∙ s.second_at.there in
      move {x = x - 1} {y = z - 1} (record {
        row = c.0;
        row_in = h;
        first-in = omega (arith, i.0, i.1, few);
        second-in = omega (arith, j.0, j.1, few);
        first = i.2;
        second = j.2;
        together = a ∙ sym b;
      }) (linked-tied y l)

  reach-linked : {a b : ℕ} (y : ℕ) → Reach (Tie sets rows to) a b → At S F q (suc a) y → Linked S F q y (suc a) (suc b)
  reach-linked y stay h = here
  reach-linked {a} y (move {y = c} t r) h = step (record {
    row = context_in (context_at figure t.row);
    of-figure = context-in figure o.fit t.row (row_in o t.row t.row_in);
    first = port-in o t.row a t.row_in t.first-in t.first;
    second = port-in o t.row c t.row_in t.second-in t.second;
    first-at = h;
    second_at = next;
  }) (reach-linked y r next)
    where
      first : Range links (suc a)
      first = port-range o t.row a t.row_in t.first-in t.first

      second : Range links (suc c)
      second = port-range o t.row c t.row_in t.second-in t.second

      next : At S F q (suc c) y
      next = record { figure-link = (omega arith, omega (arith, second.1, o.link-count)); sheet-link = h.sheet-link; there = goes o S atoms to c second.1 ∙ sym t.together ∙ sym (goes o S atoms to a first.1) ∙ h.there }

  module _ (none : ℕ) (last : none ≡ S.links + 1) (within : Within none links to) where
    -- a figure link by its index
    by_index : (x : ℕ) → Range figure.class_count x → (x - 1 < links) × (suc (x - 1) ≡ x)
    by_index x r = (omega (arith, r.0, r.1, o.link-count), omega (arith, r.0))

    at-index : (x y : ℕ) → At S F q x y → get_or to (x - 1) 0 ≡ y
    at-index x y h = let i = by_index x h.figure-link in sym (goes o S atoms to (x - 1) i.0) ∙ ap (link_target q) i.1 ∙ h.there

    pub all-linked : MeetTied sets rows links to none → AllLinked S F q
    all-linked w x z y h k =
        let i = by_index x h.figure-link in
        let j = by_index z k.figure-link in
        let r = w (x - 1) (z - 1) y (record {
          first-in = i.0;
          second-in = j.0;
          first-at = at-index x y h;
          second_at = at-index z y k;
          not_none = λ n. omega (arith, n, last, h.sheet-link.1);
        }) in
        subst (λ (n : ℕ). Linked S F q y n z) i.1 (subst (Linked S F q y (suc (x - 1))) j.1
        (reach-linked y r (subst (λ (n : ℕ). At S F q n y) (sym i.1) h)))

    pub two-apart : (y : ℕ) → MeetApart sets rows links to none y → TwoApart S F q (suc y)
    two-apart y t = record {
      one = suc t.0;
      two = suc t.1;
      one_at = at t.0 t.2.first-in t.2.first-at;
      two_at = at t.1 t.2.second-in t.2.second_at;
      not-linked = λ l. t.3 (subst (λ (i : ℕ). Reach (Tie sets rows to) i t.1) (down t.0) (subst (Reach (Tie sets rows to) (suc t.0 - 1)) (down t.1) (linked-tied (suc y) l)));
    }
      where
        down : (i : ℕ) → suc i - 1 ≡ i
        down i = omega arith

        ry : Range S.links (suc y)
        ry = let i = within t.0 t.2.first-in in
            (omega (arith, i.0, t.2.first-at), omega (arith, i.1, t.2.first-at, t.2.not_none, last))

        at : (x : ℕ) → x < links → get_or to x 0 ≡ suc y → At S F q (suc x) (suc y)
        at x h e = record { figure-link = (omega arith, omega (arith, h, o.link-count)); sheet-link = ry; there = goes o S atoms to x h ∙ e }
