-- One link settled, in the arrays.
use Prim.Native.Nat.{ℕ, suc, ◌-◌, ◌≤◌, ◌<◌}
use mathlib.Core.Path.{◌≡◌, refl, sym, ◌∙◌, ap, subst}
use mathlib.Core.Logic.{◌⊎◌, inl, inr}
use mathlib.Core.List.{List, []}
use native.Mathlib.Omega.{arith}
use lib.ListN.{length, take, get_or, set, length-set}
use lib.Seq.{take-set-lt}
use Rattle.hyperlmntal.specs.Link.{◌∈◌}
use Rattle.rows.specs.Limits.{sheet_link_limit}
use Rattle.rows.specs.declared.Sheet as form
use Rattle.placing.specs.Net.{Net, Range}
use Rattle.placing.specs.Placing.{Placing}
use Rattle.network.specs.NetIn.{net_in}
use Rattle.network.specs.Ready.{Ready, LinksIn, state_in, Flag, TakenIn}
use Rattle.candidates.specs.Tables.{LinkIn}
use Rattle.completing.specs.Completion.{Partial, Completable, put, remove, SameContexts}
use Rattle.completing.specs.Fault.{Fault}
use Rattle.completing.specs.Known.{Bars}
use Rattle.completing.specs.OneRow.{OneRow}
use Rattle.completing.proofs.Lists.{of-remove, in_remove}
use Rattle.completing.proofs.Kept.{taken-same}
use Rattle.completing.proofs.Needs.{fault-links}
use Rattle.completing.proofs.Put.{completable-wider, partial-fewer, put-partial, completable-back}
use Rattle.completing.proofs.Completing.{fault-completable}
use Rattle.completing.proofs.Barring.{bars-put, barred-refused, failed-bars}
use Rattle.completing.proofs.OneRow.{several-suffice}
use Rattle.deciding.specs.Bars.{BarredTo}
use Rattle.deciding.specs.Kinds.{KindsIn}
use Rattle.settling.specs.Completes.{unsettled, Several, Working, CompletableIn, CompletableAt, BarredBy, BarsIn, WayOut}
use Rattle.deciding.proofs.Sets.{set_cases}
use Rattle.deciding.proofs.Flagged.{flagged-in, flagged-out, cleared-out, cleared-in}

-- What the links say of the arrays.
pub links-set : (sheet figure : form.Sheet) (to : List ℕ) → LinksIn sheet figure to → (x y : ℕ) → x < figure.class_count → figure.class_count ≤ sheet_link_limit → Range (suc sheet.class_count) y
    → LinksIn sheet figure (set to x y)
links-set sheet figure to l x y h few r = record {
  room = length-set to x y ∙ l.room;
  within = λ z k. set_cases (Range (suc sheet.class_count)) to x y z (omega (arith, l.room)) (λ e. r) (λ e. l.within z k);
}

module _ (sheet figure : form.Sheet) (to atoms : List ℕ) where
  pub state-put : (x y : ℕ) → x < figure.class_count → state_in figure atoms (set to x y) ≡ put (state_in figure atoms to) (suc x) y
  state-put x y h = ap (λ (l : List ℕ). record { atoms_to = take figure.atom_count atoms; links_to = l; given = [] })
      (take-set-lt figure.class_count to x y h ∙ ap (λ (i : ℕ). set (take figure.class_count to) i y) (let q : x ≡ suc x - 1 = omega arith in q))

  -- only the atoms say what is taken
  pub taken-in-same : (to' taken : List ℕ) → TakenIn sheet figure (state_in figure atoms to) taken → TakenIn sheet figure (state_in figure atoms to') taken
  taken-in-same to' taken t = record {
    room = t.room;
    flags = λ j r. (
      λ f. taken-same (net_in sheet) (net_in figure) (state_in figure atoms to) (state_in figure atoms to') refl j ((t.flags j r).0 f),
      λ f. (t.flags j r).1 (taken-same (net_in sheet) (net_in figure) (state_in figure atoms to') (state_in figure atoms to) refl j f),
    );
  }

-- counted from 1 and back
less_one : (x : ℕ) → suc x - 1 ≡ x
less_one x = omega arith

-- A list of links without one of them, by flags.
module _ (figure : form.Sheet) (flags : List ℕ) (x : ℕ) (fits : x < length flags) where
  pub cleared-remove : (z : ℕ) → z ∈ unsettled figure (set flags x 0) → z ∈ remove (suc x) (unsettled figure flags)
  cleared-remove z m = let t = cleared-out figure.class_count flags x fits z m in in_remove z (suc x) (unsettled figure flags) t.0 t.1

  pub remove-cleared : (z : ℕ) → z ∈ remove (suc x) (unsettled figure flags) → z ∈ unsettled figure (set flags x 0)
  remove-cleared z m = let t = of-remove z (suc x) (unsettled figure flags) m in cleared-in figure.class_count flags x fits z t.0 t.1

-- The flag of a link that is settled is cleared.
pub several-put : (figure : form.Sheet) (flags un : List ℕ) → Several figure flags un → (x : ℕ) → x < length flags → Several figure (set flags x 0) (remove (suc x) un)
several-put figure flags un s x fits = record { flag-in = flag-in; others = others }
  where
    flag-in : (z : ℕ) → z < figure.class_count → get_or (set flags x 0) z 0 ≡ 1 → suc z ∈ remove (suc x) un
    flag-in z h = set_cases (λ (v : ℕ). v ≡ 1 → suc z ∈ remove (suc x) un) flags x 0 z fits (λ e f. absurd (omega (arith, f)))
        (λ n f. in_remove (suc z) (suc x) un (s.flag-in z h f) (λ e. n (omega (arith, e))))

    others : (z : ℕ) → suc z ∈ remove (suc x) un → (get_or (set flags x 0) z 0 ≡ 1) ⊎ OneRow (net_in figure) (suc z)
    others z m = let t = of-remove (suc z) (suc x) un m in
        by (s.others z t.0) (λ f. set_cases (λ (v : ℕ). v ≡ 1) flags x 0 z fits (λ e. absurd (t.1 (ap suc e))) (λ n. f))
      where
        by : (get_or flags z 0 ≡ 1) ⊎ OneRow (net_in figure) (suc z) → (get_or flags z 0 ≡ 1 → get_or (set flags x 0) z 0 ≡ 1) → (get_or (set flags x 0) z 0 ≡ 1) ⊎ OneRow (net_in figure) (suc z)
        by (inl f) g = inl (g f)
        by (inr o) g = inr o

module _ (sheet figure : form.Sheet) (ready : Ready sheet figure) (taken to flags atoms un : List ℕ) (room : length flags ≡ sheet_link_limit) (w : Working sheet figure taken to flags atoms un) where
  abbrev S : Net
  S = net_in sheet

  abbrev F : Net
  F = net_in figure

  abbrev q : Placing
  q = state_in figure atoms to

  partial : Partial S F q un
  partial = w.placed.partial

  module _ (x : ℕ) (h : x < figure.class_count) (mine : suc x ∈ un) where
    fits : x < length flags
    fits = omega (arith, room, ready.figure-fit.class-count)

    -- between the arrays and the state with the link put
    pub of-put : (y : ℕ) → CompletableAt sheet figure to un x y atoms → CompletableIn sheet figure (set to x y) (remove (suc x) un) atoms
    of-put y c = subst (λ (p : Placing). Completable S F p (remove (suc x) un)) (sym (state-put sheet figure to atoms x y h)) c

    pub to-put : (y : ℕ) → CompletableIn sheet figure (set to x y) (remove (suc x) un) atoms → CompletableAt sheet figure to un x y atoms
    to-put y c = subst (λ (p : Placing). Completable S F p (remove (suc x) un)) (state-put sheet figure to atoms x y h) c

    pub working-put : (y : ℕ) → Range (suc sheet.class_count) y → Working sheet figure taken (set to x y) (set flags x 0) atoms (remove (suc x) un)
    working-put y r = record {
      placed = record {
        taken_in = taken-in-same sheet figure to atoms (set to x y) taken w.placed.taken_in;
        partial = subst (λ (p : Placing). Partial S F p (remove (suc x) un)) (sym (state-put sheet figure to atoms x y h)) (put-partial S F ready.figure-normal q un partial (suc x) mine y r);
      };
      several = several-put figure flags un w.several x fits;
    }

    pub put_back : (y : ℕ) → CompletableAt sheet figure to un x y atoms → CompletableIn sheet figure to un atoms
    put_back y c = completable-back S F ready.figure-normal q un partial (suc x) mine y c

    module _ (bars : List ℕ) (b : BarsIn sheet figure to un atoms bars) where
      pub bars-at : (y : ℕ) → BarsIn sheet figure (set to x y) (remove (suc x) un) atoms bars
      bars-at y = subst (λ (p : Placing). Bars S F p (remove (suc x) un) (BarredBy sheet bars)) (sym (state-put sheet figure to atoms x y h))
          (bars-put S F ready.figure-normal q un partial (BarredBy sheet bars) b (suc x) mine y)

      pub barred-at : (y : ℕ) → y < sheet.class_count → LinkIn bars x y → ¬ CompletableAt sheet figure to un x (suc y) atoms
      barred-at y l i = barred-refused S F ready.figure-normal q un partial (BarredBy sheet bars) b (suc x) mine (suc y)
          ((omega arith, omega (arith, l)), subst (λ (v : ℕ). LinkIn bars v (suc y - 1)) (sym (less_one x)) (subst (LinkIn bars x) (sym (less_one y)) i))

      -- what failed is barred to all links of the kind
      pub failed-at : (y : ℕ) → y < sheet.class_count → ¬ CompletableAt sheet figure to un x (suc y) atoms → (kinds : List ℕ) → KindsIn figure kinds → (after : List ℕ) → BarredTo kinds x y bars after
          → BarsIn sheet figure to un atoms after
      failed-at y l n kinds k after f = failed-bars S F ready.figure-normal q un partial (BarredBy sheet bars) b (suc x) mine (suc y) n (BarredBy sheet after) more
        where
          more : (z v : ℕ) → z ∈ un → BarredBy sheet after z v → BarredBy sheet bars z v ⊎ (SameContexts F z (suc x) × (v ≡ suc y))
          more z v i (r, m) =
              let o = (partial.are-open z i).is-link in
              let few = ready.figure-fit.class-count in
              let zs : z - 1 < sheet_link_limit = omega (arith, o.0, o.1, few) in
              let vs : v - 1 < sheet_link_limit = omega (arith, r.0, r.1, ready.sheet-fit.class-count) in
              by (f (z - 1) (v - 1) zs vs m)
            where
              by : LinkIn bars (z - 1) (v - 1) ⊎ ((get_or kinds (z - 1) 0 ≡ get_or kinds x 0) × (v - 1 ≡ y)) → BarredBy sheet bars z v ⊎ (SameContexts F z (suc x) × (v ≡ suc y))
              by (inl u) = inl (r, u)
              by (inr (e, g)) =
                  let o = (partial.are-open z i).is-link in
                  let few = ready.figure-fit.class-count in
                  let a : suc (z - 1) ≡ z = omega (arith, o.0) in
                  inr (subst (λ (u : ℕ). SameContexts F u (suc x)) a (k.same (z - 1) x (omega (arith, o.0, o.1, few)) (omega (arith, h, few)) e), omega (arith, g, r.0))

  -- Only the flagged links decide.
  abbrev tried : List ℕ
  tried = unsettled figure flags

  tried-in : (z : ℕ) → z ∈ tried → z ∈ un
  tried-in z m = let t = flagged-out figure.class_count flags z m in subst (λ (v : ℕ). v ∈ un) (sym t.number) (w.several.flag-in t.index t.within t.flag)

  pub several-in : CompletableIn sheet figure to un atoms → Completable S F q tried
  several-in = several-suffice S F ready.sheet-normal ready.figure-normal q un tried partial tried-in others
    where
      others : (z : ℕ) → z ∈ un → ¬ (z ∈ tried) → OneRow F z
      others z m n =
          let o = (partial.are-open z m).is-link in
          let a : suc (z - 1) ≡ z = omega (arith, o.0) in
          subst (OneRow F) a (by (w.several.others (z - 1) (subst (λ (v : ℕ). v ∈ un) (sym a) m)))
        where
          by : (get_or flags (z - 1) 0 ≡ 1) ⊎ OneRow F (suc (z - 1)) → OneRow F (suc (z - 1))
          by (inr r) = r
          by (inl f) =
              let o = (partial.are-open z m).is-link in
              let a : suc (z - 1) ≡ z = omega (arith, o.0) in
              absurd (n (subst (λ (v : ℕ). v ∈ tried) a (flagged-in figure.class_count flags (z - 1) (omega (arith, o.0, o.1)) f)))

  pub tried-partial : Partial S F q tried
  tried-partial = partial-fewer S F q un tried tried-in partial

  -- A fault is mended by a flagged link at one of its links, if it is.
  pub way_out : {v : List ℕ} → Fault S F q v → (links : List ℕ) → ((y : ℕ) → y ∈ v → Flag links y) → CompletableIn sheet figure to un atoms → WayOut sheet figure to flags un links atoms
  way_out f links named c =
      let t = fault-completable S F ready.sheet-normal ready.figure-normal q tried tried-partial f (several-in c) in
      let u = flagged-out figure.class_count flags t.0 t.1 in
      let s = t.2 in
      let r : Range S.links s.0 = fault-links S F ready.sheet-normal q f s.0 s.1 in
      let d = completable-wider S F (put q t.0 s.0) (remove t.0 tried) (remove t.0 un)
      (λ z m. let o = of-remove z t.0 tried m in in_remove z t.0 un (tried-in z o.0) o.1) s.2 in
      record {
        link = u.index;
        link-in = u.within;
        flag = u.flag;
        at = s.0 - 1;
        at_in = omega (arith, r.0, r.1);
        at_flag = named s.0 s.1;
        completes = subst (λ (n : ℕ). CompletableAt sheet figure to un u.index n atoms) (let e : s.0 ≡ suc (s.0 - 1) = omega (arith, r.0) in e)
            (subst (λ (z : ℕ). Completable S F (put q z s.0) (remove z un)) u.number d);
      }
