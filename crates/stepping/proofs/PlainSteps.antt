-- Plain steps as the tables say them, and contexts with numbers of their own.
use Prim.Native.Nat.{ℕ, suc, ◌-◌, ◌<◌}
use mathlib.Core.Path.{◌≡◌, sym, ◌∙◌, ap, subst}
use mathlib.Core.Logic.{◌⊎◌, inl, inr, ⊎_elim, ◌≢◌}
use mathlib.Core.List.{List}
use native.Mathlib.Decide.{ℕ_discrete}
use native.Mathlib.Omega.{arith}
use lib.ListN.{length, get_or}
use Rattle.hyperlmntal.specs.Link.{◌∈◌}
use Rattle.rows.specs.Limits.{sheet_link_limit}
use Rattle.rows.specs.declared.Atom.{Atom}
use Rattle.rows.specs.declared.Sheet as form
use Rattle.rows.proofs.RowRange.{le-or-lt}
use Rattle.placing.specs.Net.{NetCell, Net, Range}
use Rattle.placing.specs.Placing.{Placing, cell_at}
use Rattle.placing.proofs.Lists.{member-at, get_d_of}
use Rattle.reading.proofs.normal.Merging.{get_d-in}
use Rattle.network.specs.NetIn.{net_in, context_in, context_at, atom_at, Fit, Used as Numbers}
use Rattle.network.proofs.NetIn.{atoms-length, context-of, used-range}
use Rattle.candidates.specs.Laid.{laid_atom, Rowed, LaidOut}
use Rattle.candidates.specs.PortSets.{ContextsIn}
use Rattle.candidates.specs.declared.ports.PortSet.{PortSet}
use Rattle.completing.specs.Known.{Touches}
use Rattle.completing.specs.Fault.{Used}
use Rattle.completing.specs.Neighbours.{PlainStep, OneEach}
use Rattle.stepping.specs.Contexts.{number_of}
use Rattle.stepping.specs.Chains.{ChainsIn, RowIn}
use Rattle.stepping.specs.Plain.{UsedBy, FreeBy, OnlyOn, OnlyBy, OtherOn, OtherBy, OwnLink, AllOwn}
use Rattle.stepping.proofs.Reading.{atom-links}
use Rattle.stepping.proofs.Chaining.{laid_in}

-- No two of the first n contexts have one number.
abbrev pub Differ : List ℕ → ℕ → Type 0
Differ numbers n = (c : ℕ) → c < n → (d : ℕ) → d < c → get_or numbers d 0 ≢ get_or numbers c 0

pub differ-each : (numbers : List ℕ) (sets : List PortSet) (rows : ℕ) → ((c : ℕ) → c < rows → get_or numbers c 0 ≡ number_of sets c) → Differ numbers rows
    → (figure : form.Sheet) (links : ℕ) → ContextsIn figure sets rows links → OneEach (net_in figure)
differ-each numbers sets rows same all figure links o row row' m m' e = sym t.2 ∙ ap (λ (c : ℕ). context_in (context_at figure c)) one ∙ t'.2
  where
    t : (c : ℕ) × (c < figure.context_count) × (context_in (context_at figure c) ≡ row)
    t = context-of figure o.fit row m

    t' : (c : ℕ) × (c < figure.context_count) × (context_in (context_at figure c) ≡ row')
    t' = context-of figure o.fit row' m'

    number : (c : ℕ) → c < figure.context_count → get_or numbers c 0 ≡ (context_at figure c).number
    number c h = let l : c < rows = omega (arith, o.row_count) in same c l ∙ (o.each c l).number

    equal : get_or numbers t.0 0 ≡ get_or numbers t'.0 0
    equal = number t.0 t.1 ∙ ap (λ (r : NetCell). r.0) t.2 ∙ e ∙ sym (ap (λ (r : NetCell). r.0) t'.2) ∙ sym (number t'.0 t'.1)

    one : t.0 ≡ t'.0
    one = go (ℕ_discrete t.0 t'.0)
      where
        go : Dec (t.0 ≡ t'.0) → t.0 ≡ t'.0
        go (yes i) = i
        go (no i) = ⊎_elim (λ l. absurd (all t'.0 (omega (arith, t'.1, o.row_count)) t.0 (omega arith) equal)) (λ l. absurd (all t.0 (omega (arith, t.1, o.row_count)) t'.0 l (sym equal))) (le-or-lt t.0 t'.0)

-- In a sheet.
module _ (sheet : form.Sheet) (f : Fit sheet) where
  abbrev S : Net
  S = net_in sheet

  only_above : (j w t u : ℕ) → Range (length S.atoms) j → suc w ∈ (cell_at S.atoms j).1 → OnlyOn S w t u → (j ≡ suc t) ⊎ (j ≡ suc u)
  only_above j w t u r m only =
      let e : suc (j - 1) ≡ j = omega (arith, r.0) in
      ⊎_elim (λ i. inl (omega (arith, i, e))) (λ i. inr (omega (arith, i, e))) (only (j - 1) (omega (arith, r.0, r.1)) (subst (λ (n : ℕ). suc w ∈ (cell_at S.atoms n).1) (sym e) m))

  module _ (figure : form.Sheet) (q : Placing) (used : List ℕ) (by-used : UsedBy sheet figure q used) where
    -- A link w, counted from 1, of atom t that is its own.
    own-link : (chains : List ℕ) → ChainsIn sheet chains → (t w : ℕ) → Range sheet.class_count w → OwnLink chains used (w - 1) t
        → (¬ Used S (net_in figure) q w) × ((j : ℕ) → Range (length S.atoms) j → w ∈ (cell_at S.atoms j).1 → j ≡ suc t)
    own-link chains c t w r own = (
      (λ i. own.0 (by-used (w - 1) (omega (arith, r.0, r.1)) (subst (Used S (net_in figure) q) (sym e) i))),
      λ j k m. ⊎_elim (λ i. i) (λ i. i) (only_above j (w - 1) t t k (subst (λ (n : ℕ). n ∈ (cell_at S.atoms j).1) (sym e) m) (own.1 sheet f c)),
    )
      where
        e : suc (w - 1) ≡ w
        e = omega (arith, r.0)

    -- What was checked of atom t, of link z, which is its link k, and of atom u makes a plain step.
    plain_step : (chains taken links : List ℕ) (count : ℕ) → ChainsIn sheet chains → FreeBy sheet figure q taken
        → (t u y z k : ℕ) → RowIn S t links count → t < sheet.atom_count → get_or taken t 0 ≢ 1 → k < count → get_or links k 0 ≡ suc z → z ≢ y → get_or used z 0 ≢ 1
        → OtherOn S z t u → get_or taken u 0 ≢ 1 → OnlyOn S z t u → AllOwn chains used links count t y z → Touches S (suc t) (suc y)
        → PlainStep S (net_in figure) q (suc t) (suc u) (suc y) (suc z)
    plain_step chains taken links count c by-free t u y z k row ht free hk at differ unused other free-u only own from = record {
      step_other = by-free t ht free;
      from = from;
      onto = onto;
      differ = λ e. differ (omega (arith, e));
      next-other = by-free u (omega (arith, u-on.0, atoms-length sheet f)) free-u;
      next-on = u-on.1;
      only = λ j r m. only_above j z t u r m only;
      unused = λ i. unused (by-used z (omega (arith, (range (suc z) onto).1)) i);
      private = λ w m ny nz. own-link chains c t w (range w m) (let p = place w m in
          subst (λ (n : ℕ). OwnLink chains used (n - 1) t) p.2 (own p.0 p.1 (λ e. ny (omega (arith, e, p.2, (range w m).0))) (λ e. nz (omega (arith, e, p.2, (range w m).0)))));
    }
      where
        onto : suc z ∈ (cell_at S.atoms (suc t)).1
        onto = subst (λ (n : ℕ). n ∈ (cell_at S.atoms (suc t)).1) (row.same k hk ∙ at) (get_d-in (cell_at S.atoms (suc t)).1 k 0 (omega (arith, row.width)))

        -- the place of a link of t
        place : (w : ℕ) → w ∈ (cell_at S.atoms (suc t)).1 → (i : ℕ) × (i < count) × (get_or links i 0 ≡ w)
        place w m =
            let p = member-at (cell_at S.atoms (suc t)).1 w m in
            let l : p.0 < count = omega (arith, p.1, row.width) in
            (p.0, l, sym (row.same p.0 l) ∙ get_d_of (cell_at S.atoms (suc t)).1 p.0 0 w p.2)

        range : (w : ℕ) → w ∈ (cell_at S.atoms (suc t)).1 → Range sheet.class_count w
        range w m = used-range sheet.class_count (atom_at sheet t).count (atom_at sheet t).links (f.atoms t ht) w (subst (λ (l : List ℕ). w ∈ l) (atom-links sheet f t ht) m)

        u-on : (u < length S.atoms) × Touches S (suc u) (suc z)
        u-on = ⊎_elim (λ e. subst (λ (j : ℕ). (j < length S.atoms) × Touches S (suc j) (suc z)) (sym e) (omega (arith, ht, atoms-length sheet f), onto)) (λ i. i) other

-- The row of atom t as it was read.
module _ (laid chains : List ℕ) (atoms t : ℕ) (a : Atom) (e : a ≡ laid_atom laid t) (h : t < atoms) where
  -- link z is in it
  abbrev Has : ℕ → Type 0
  Has z = (k : ℕ) × (k < a.count) × (get_or a.links k 0 ≡ suc z)

  pub found-range : Rowed laid atoms → (z : ℕ) → Has z → z < sheet_link_limit
  found-range r z k =
      let u = subst (λ (b : Atom). Numbers sheet_link_limit b.count b.links) (sym e) (r.atoms t h) in
      (subst (Range sheet_link_limit) k.2 (u.numbered k.0 k.1)).1

  pub step-found : (used taken : List ℕ) (u y z : ℕ) → get_or taken t 0 ≢ 1 → Has z → z ≢ y → get_or used z 0 ≢ 1
      → OtherBy chains z t u → get_or taken u 0 ≢ 1 → OnlyBy chains z t u → AllOwn chains used a.links a.count t y z
      → (sheet figure : form.Sheet) (q : Placing) → LaidOut sheet laid atoms → ChainsIn sheet chains → UsedBy sheet figure q used → FreeBy sheet figure q taken → Touches (net_in sheet) (suc t) (suc y)
      → (v : ℕ) × PlainStep (net_in sheet) (net_in figure) q (suc t) v (suc y) (suc z)
  step-found used taken u y z free k differ unused other free-u only own sheet figure q o c by-used by-free from = (
    suc u,
    plain_step sheet o.fit figure q used by-used chains taken a.links a.count c by-free t u y z k.0 row (omega (arith, h, o.count)) free k.1 k.2 differ unused
        (other sheet o.fit c) free-u (only sheet o.fit c) own from,
  )
    where
      row : RowIn (net_in sheet) t a.links a.count
      row = subst (λ (b : Atom). RowIn (net_in sheet) t b.links b.count) (sym e) (laid_in sheet laid atoms o t h)
