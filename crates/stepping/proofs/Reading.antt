-- What the tables say of the nets.
use Prim.Native.Nat.{ℕ, suc, ◌+◌, ◌*◌, ◌-◌, ◌≤◌, ◌<◌}
use mathlib.Core.Path.{◌≡◌, sym, ◌∙◌, ap, subst}
use mathlib.Core.Logic.{◌↔◌, ◌⊎◌, inl, inr, ◌≢◌}
use mathlib.Core.List.{List}
use native.Mathlib.Omega.{arith}
use lib.ListN.{take, get_or}
use lib.Seq.{get_or-take}
use Rattle.hyperlmntal.specs.Link.{◌∈◌}
use Rattle.rows.specs.Limits.{sheet_link_limit}
use Rattle.rows.specs.declared.Sheet as form
use Rattle.placing.specs.Net.{NetCell, Net, Range}
use Rattle.placing.specs.Placing.{Placing, cell_at, link_target, PortAt}
use Rattle.network.specs.NetIn.{context_in, net_in, atom_at, context_at, Fit}
use Rattle.network.specs.Ready.{state_in}
use Rattle.network.proofs.NetIn.{atom-index, context-index, context-in, context-of}
use Rattle.candidates.specs.Words.{pair_digits}
use Rattle.candidates.specs.PortSets.{PortIn, ContextsIn}
use Rattle.candidates.specs.declared.ports.PortSet.{PortSet}
use Rattle.candidates.proofs.PortRows.{port-in, port-range, in-port}
use Rattle.completing.specs.Fault.{Used}
use Rattle.stepping.specs.Contexts.{number_of}
use Rattle.stepping.specs.Flags.{Within, SentTo, IsAtPort, PortOfNumber}
use Rattle.stepping.proofs.Tables.{Marked}

-- only what was flagged
pub marked-only : (P : ℕ → ℕ → Type 0) (n : ℕ) (l : List ℕ) → Marked (λ p. ⊥) P n l → (p : ℕ) → (get_or l p 0 ≡ 1) ↔ ((k : ℕ) × (k < n) × P k p)
marked-only P n l f p = ((λ q. go ((f p).0 q)), (λ t. (f p).1 (inr t)))
  where
    go : ⊥ ⊎ ((k : ℕ) × (k < n) × P k p) → (k : ℕ) × (k < n) × P k p
    go (inl b) = absurd b
    go (inr t) = t

module _ (sheet : form.Sheet) (f : Fit sheet) where
  up : (j : ℕ) → j + 1 ≡ suc j
  up j = omega arith

  pub atom-links : (j : ℕ) → j < sheet.atom_count → (cell_at (net_in sheet).atoms (suc j)).1 ≡ take (atom_at sheet j).count (atom_at sheet j).links
  atom-links j h = ap (λ (c : NetCell). c.1) (ap (cell_at (net_in sheet).atoms) (sym (up j)) ∙ atom-index sheet f j h)

module _ (figure : form.Sheet) (f : Fit figure) where
  pub context-cell : (c : ℕ) → c < figure.context_count → cell_at (net_in figure).contexts (suc c) ≡ context_in (context_at figure c)
  context-cell c h = ap (cell_at (net_in figure).contexts) (let e : suc c ≡ c + 1 = omega arith in e) ∙ context-index figure f c h

  module _ (S : Net) (atoms to : List ℕ) where
    abbrev q : Placing
    q = state_in figure atoms to

    pub link_at : (x : ℕ) → Range figure.class_count x → link_target q x ≡ get_or to (x - 1) 0
    link_at x r = get_or-take figure.class_count to (x - 1) 0 (omega (arith, r.0, r.1))

    -- where figure links go
    pub used-read : (none y : ℕ) → suc y < none → (flags : List ℕ) → ((z : ℕ) → (get_or flags z 0 ≡ 1) ↔ ((x : ℕ) × (x < figure.class_count) × SentTo to none x z))
        → (get_or flags y 0 ≡ 1) ↔ Used S (net_in figure) q (suc y)
    used-read none y h flags g = (onward, back)
      where
        onward : get_or flags y 0 ≡ 1 → Used S (net_in figure) q (suc y)
        onward e =
            let t = (g y).0 e in
            let l : t.0 < figure.class_count = t.1 in
            let r : Range figure.class_count (suc t.0) = (omega arith, omega arith) in
            let i : suc t.0 - 1 ≡ t.0 = omega arith in
            (suc t.0, r, link_at (suc t.0) r ∙ ap (λ (n : ℕ). get_or to n 0) i ∙ t.2.0 ∙ (let j : y + 1 ≡ suc y = omega arith in j))

        back : Used S (net_in figure) q (suc y) → get_or flags y 0 ≡ 1
        back t =
            let e : get_or to (t.0 - 1) 0 ≡ suc y = sym (link_at t.0 t.1) ∙ t.2 in
            (g y).1 (t.0 - 1, omega (arith, t.1.0, t.1.1), (e ∙ (let j : suc y ≡ y + 1 = omega arith in j), λ n. omega arith))

module _ {figure : form.Sheet} {sets : List PortSet} {rows links : ℕ} (o : ContextsIn figure sets rows links) where
  pub row_in : (c : ℕ) → c < rows → c < figure.context_count
  row_in c h = omega (arith, h, o.row_count)

  pub cell-number : (c : ℕ) → c < rows → (cell_at (net_in figure).contexts (suc c)).0 ≡ number_of sets c
  cell-number c h = ap (λ (r : NetCell). r.0) (context-cell figure o.fit c (row_in c h)) ∙ sym (o.each c h).number

  module _ (S : Net) (atoms to : List ℕ) where
    pub goes : (x : ℕ) → x < links → link_target (state_in figure atoms to) (suc x) ≡ get_or to x 0
    goes x h = link_at figure o.fit S atoms to (suc x) (omega arith, omega (arith, h, o.link-count)) ∙ ap (λ (i : ℕ). get_or to i 0) (let e : suc x - 1 ≡ x = omega arith in e)

    -- where contexts have ports
    pub port-read : (none c y : ℕ) → c < rows → suc y < none → none ≤ sheet_link_limit + 1 → Within none links to → (flags : List ℕ)
        → ((p : ℕ) → (get_or flags p 0 ≡ 1) ↔ ((i : ℕ) × (i < rows) × PortOfNumber sets rows to none i p))
        → (get_or flags (c * sheet_link_limit + y) 0 ≡ 1) ↔ PortAt S (net_in figure) (state_in figure atoms to) (cell_at (net_in figure).contexts (suc c)).0 (suc y)
    port-read none c y hc hy room within flags g = (onward, back)
      where
        P : Type 0
        P = PortAt S (net_in figure) (state_in figure atoms to) (cell_at (net_in figure).contexts (suc c)).0 (suc y)

        onward : get_or flags (c * sheet_link_limit + y) 0 ≡ 1 → P
        onward e = at t.0 t.1 t.2.0 t.2.1 t.2.2.0 t.2.2.1.0 t.2.2.1.1 t.2.2.1.2 t.2.2.1.3
          where
            t : (i : ℕ) × (i < rows) × PortOfNumber sets rows to none i (c * sheet_link_limit + y)
            t = (g (c * sheet_link_limit + y)).0 e

            at : (i : ℕ) → i < rows → (d : ℕ) → d < rows → number_of sets d ≡ number_of sets i → (x : ℕ) → x < pair_digits → PortIn sets d x → IsAtPort to none i x (c * sheet_link_limit + y) → P
            at i hi d hd n x small m w =
                let l : x < links = (port-range o d x hd small m).1 in
                let b = within x l in
                let z : c * sheet_link_limit + y ≡ i * sheet_link_limit + (get_or to x 0 - 1) = w.1 in
                let v : get_or to x 0 ≢ none = w.0 in
                let u : get_or to x 0 ≡ suc y = omega (arith, b.0, b.1) in
                let j : i ≡ c = omega (arith, b.0, b.1) in
                record {
                  row = context_in (context_at figure d);
                  of-figure = context-in figure o.fit d (row_in d hd);
                  number = sym (o.each d hd).number ∙ n ∙ ap (number_of sets) j ∙ sym (cell-number c hc);
                  link = suc x;
                  port = port-in o d x hd small m;
                  there = goes x l ∙ u;
                }

        back : P → get_or flags (c * sheet_link_limit + y) 0 ≡ 1
        back t =
            let d = context-of figure o.fit t.row t.of-figure in
            let hd : d.0 < rows = omega (arith, d.1, o.row_count) in
            let m = in-port o d.0 t.link hd (subst (λ (r : NetCell). t.link ∈ r.1) (sym d.2) t.port) in
            let few : links ≤ sheet_link_limit = omega (arith, o.fit.class-count, o.link-count) in
            let l : t.link - 1 < links = omega (arith, m.0, m.1) in
            let e : suc (t.link - 1) ≡ t.link = omega (arith, m.0) in
            let u : get_or to (t.link - 1) 0 ≡ suc y = sym (goes (t.link - 1) l) ∙ ap (link_target (state_in figure atoms to)) e ∙ t.there in
            (g (c * sheet_link_limit + y)).1 (c, hc, (d.0, hd, ((o.each d.0 hd).number ∙ (ap (λ (w : NetCell). w.0) d.2 ∙ t.number ∙ cell-number c hc), (t.link - 1, omega (arith, l, few), m.2, ((λ n. omega arith), omega arith)))))
