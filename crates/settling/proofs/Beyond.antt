-- A failure carried one plain step further.
use Prim.Native.Nat.{ℕ, suc, ◌+◌, ◌-◌, ◌<◌}
use mathlib.Core.Path.{◌≡◌, ap, sym, ◌∙◌, subst}
use mathlib.Core.Logic.{◌↔◌, ⊎_elim}
use mathlib.Core.List.{List}
use native.Mathlib.Omega.{arith}
use lib.ListN.{length, get_or}
use Rattle.rows.specs.Limits.{sheet_link_limit}
use Rattle.rows.specs.declared.Sheet as form
use Rattle.network.specs.NetIn.{net_in}
use Rattle.network.specs.Ready.{state_in, TakenIn}
use Rattle.network.proofs.NetIn.{atoms-length}
use Rattle.candidates.specs.Tables.{LinkIn}
use Rattle.completing.specs.Neighbours.{PlainStep, OneEach}
use Rattle.completing.proofs.Neighbours.{neighbour-completable}
use Rattle.stepping.specs.Flags.{SentTo}
use Rattle.stepping.specs.Plain.{FreeBy, OtherBy}
use Rattle.stepping.proofs.Reading.{used-read}
use Rattle.faults.specs.declared.nets.Nets.{Nets}
use Rattle.deciding.specs.Bars.{BarredTo}
use Rattle.settling.specs.Completes.{Tables, KeepsBars}
use Rattle.settling.specs.Beyond.{Along}
use Rattle.settling.proofs.States.{barred-at, failed-at}

-- an atom without a flag is an other atom
pub free-by : (sheet figure : form.Sheet) (atoms to taken : List ℕ) → TakenIn sheet figure (state_in figure atoms to) taken → length (net_in sheet).atoms ≡ sheet.atom_count → FreeBy sheet figure (state_in figure atoms to) taken
free-by sheet figure atoms to taken t e j h n =
    let k : suc j - 1 ≡ j = omega arith in
    ((omega arith, omega (arith, h, e)), λ m. n (ap (λ (i : ℕ). get_or taken i 0) (sym k) ∙ (t.flags (suc j) (omega arith, omega (arith, h))).1 m))

module _ (sheet figure : form.Sheet) (nets : Nets) (laid chains kinds used to : List ℕ) (a : Along sheet figure nets laid chains kinds used to) (taken flags : List ℕ) (room : length flags ≡ sheet_link_limit) where
  -- Where x is barred at y, and a plain step leads from y to z, it may be barred at z.
  pub beyond-keeps : (x y t z : ℕ) → x < nets.count → y < nets.links → z < nets.links → (bars : List ℕ) → LinkIn bars x y
      → ((atoms : List ℕ) → FreeBy sheet figure (state_in figure atoms to) taken → (u : ℕ) × PlainStep (net_in sheet) (net_in figure) (state_in figure atoms to) (suc t) u (suc y) (suc z))
      → (after : List ℕ) → BarredTo kinds x z bars after → KeepsBars sheet figure taken to flags bars x after
  beyond-keeps x y t z hx hy hz bars i step after f atoms un w m b =
      let n = a.nets-in in
      let r = n.ready in
      let h : x < figure.class_count = omega (arith, hx, n.contexts-in.link-count) in
      let s = step atoms (free-by sheet figure atoms to taken w.placed.taken_in (atoms-length sheet r.sheet-fit)) in
      failed-at sheet figure r taken to flags atoms un room w x h m bars b z (omega (arith, hz, n.sheet-links))
      (λ d. barred-at sheet figure r taken to flags atoms un room w x h m bars b y (omega (arith, hy, n.sheet-links)) i
      (neighbour-completable (net_in sheet) (net_in figure) r.sheet-normal r.figure-normal a.one_each (state_in figure atoms to) un w.placed.partial (suc t) s.0 (suc y) (suc z) s.1 (suc x) m d))
      kinds a.kinds-in after f

-- What the arrays are asked to be.
module _ (sheet figure : form.Sheet) (nets : Nets) (laid chains kinds used to : List ℕ) (a : Along sheet figure nets laid chains kinds used to) where
  -- and the one that is found is one of the sheet's
  pub other-within : (y t u : ℕ) → t < nets.atoms → OtherBy chains y t u → u < nets.atoms
  other-within y t u h other =
      let f = a.nets-in.ready.sheet-fit in
      ⊎_elim (λ e. omega (arith, e, h)) (λ w. omega (arith, w.0, atoms-length sheet f, a.nets-in.laid_out.count)) (other sheet f a.chains-in)

-- by the tables of the search, and the links to which figure links go
pub along-of : {sheet figure : form.Sheet} {nets : Nets} {laid chains kinds standing to : List ℕ} → Tables sheet figure nets laid chains kinds standing to → OneEach (net_in figure)
    → (used : List ℕ) → ((y : ℕ) → (get_or used y 0 ≡ 1) ↔ ((x : ℕ) × (x < nets.count) × SentTo to (nets.links + 1) x y)) → Along sheet figure nets laid chains kinds used to
along-of {sheet} {figure} {nets} {to = to} t one used u = record {
  nets-in = t.over.nets-in;
  chains-in = t.over.chains-in;
  kinds-in = t.kinds-in;
  one_each = one;
  used-by = λ atoms y h. (used-read figure t.over.nets-in.ready.figure-fit (net_in sheet) atoms to (nets.links + 1) y (omega (arith, h, t.over.nets-in.sheet-links)) used
      (subst (λ (n : ℕ). (z : ℕ) → (get_or used z 0 ≡ 1) ↔ ((x : ℕ) × (x < n) × SentTo to (nets.links + 1) x z)) (sym t.over.nets-in.contexts-in.link-count) u)).1;
}
