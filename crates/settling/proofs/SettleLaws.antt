-- The loop that settles the open links in ascending order.
use Prim.Native.Nat.{ℕ, suc, ◌+◌, ◌*◌, ◌/◌, ◌%◌, ◌-◌, ◌≤◌, ◌<◌}
use mathlib.Core.Path.{◌≡◌, sym, ◌∙◌, ap, subst}
use mathlib.Core.Logic.{◌≢◌}
use mathlib.Core.List.{List, ◌∷◌}
use native.Mathlib.Decide.{dec_le}
use native.Mathlib.Omega.{arith}
use native.Mathlib.Numerals.{add-one}
use lib.ListN.{length, get_or, set, replicate, length-set}
use Rattle.hyperlmntal.specs.Link.{◌∈◌}
use Rattle.rows.specs.Limits.{sheet_link_limit}
use Rattle.rows.proofs.Padding.{get_d-filled}
use Rattle.rows.specs.declared.Sheet as form
use Rattle.placing.specs.Net.{Net}
use Rattle.placing.specs.Placing.{Placing, link_target}
use Rattle.network.specs.NetIn.{net_in}
use Rattle.network.specs.Ready.{Ready, LinksIn, state_in}
use Rattle.candidates.specs.Words.{word_digits, In}
use Rattle.candidates.proofs.Digits.{none_in}
use Rattle.completing.specs.Completion.{Completable, put, remove}
use Rattle.completing.specs.Leaf.{Ascending, Settling}
use Rattle.completing.proofs.Put.{completable-wider}
use Rattle.completing.proofs.SettlingLoop.{settling-start, settling-last, settling-next}
use Rattle.completing.proofs.Barring.{bars-fewer}
use Rattle.settling.specs.Completes.{unsettled, Several, Working, CompletableIn, CompletableAt, BarredBy, BarsIn, KeepsBars, FirstFor, Settles}
use Rattle.deciding.proofs.Sets.{set_cases, below-cases, below_or}
use Rattle.deciding.proofs.Flagged.{flagged-in, flagged-ascending, flagged-first, flagged-none}
use Rattle.settling.proofs.States.{links-set, state-put, taken-in-same, cleared-remove, remove-cleared, several-put, bars-at}

-- Nothing is barred by a table of zeros.
pub zeros-bar : (sheet figure : form.Sheet) (to un atoms bars : List ℕ) (n : ℕ) → bars ≡ replicate n 0 → BarsIn sheet figure to un atoms bars
zeros-bar sheet figure to un atoms bars n e p c x m (r, i) =
    let y = link_target p x - 1 in
    let k = (x - 1) * 2 + y / word_digits in
    none_in (y % word_digits) (subst (λ (v : ℕ). In v (y % word_digits)) (ap (λ (l : List ℕ). get_or l k 0) e ∙ get_d-filled {A = ℕ} 0 n k) i)

-- The links before x are settled.
pub record SettledTo (sheet figure : form.Sheet) (taken to₀ opened₀ flags₀ to rest flags bars : List ℕ) (x : ℕ) : Type 0 where
  pub links-in : LinksIn sheet figure to
  pub room : length rest ≡ sheet_link_limit
  pub flags-room : length flags ≡ sheet_link_limit
  pub cleared : (z : ℕ) → z < x → get_or rest z 0 ≢ 1
  pub several : Several figure flags₀ (unsettled figure opened₀) → Several figure flags (unsettled figure rest)
  pub settling : (atoms : List ℕ) → Working sheet figure taken to₀ flags₀ atoms (unsettled figure opened₀) → CompletableIn sheet figure to₀ (unsettled figure opened₀) atoms
      → Settling (net_in sheet) (net_in figure) (state_in figure atoms to₀) (unsettled figure opened₀) (state_in figure atoms to) (unsettled figure rest)
  pub barred : (atoms : List ℕ) → Working sheet figure taken to₀ flags₀ atoms (unsettled figure opened₀) → CompletableIn sheet figure to₀ (unsettled figure opened₀) atoms
      → BarsIn sheet figure to (unsettled figure rest) atoms bars

pub settled_same : {sheet figure : form.Sheet} {taken to₀ opened₀ flags₀ to to' rest rest' flags flags' bars bars' : List ℕ} {x : ℕ} → to' ≡ to → rest' ≡ rest → flags' ≡ flags → bars' ≡ bars
    → SettledTo sheet figure taken to₀ opened₀ flags₀ to rest flags bars x → SettledTo sheet figure taken to₀ opened₀ flags₀ to' rest' flags' bars' x
settled_same {sheet} {figure} {taken} {to₀} {opened₀} {flags₀} {to} {to'} {rest} {rest'} {flags} {flags'} {bars} {bars'} {x} e f g h s =
    subst (λ (k : List ℕ). SettledTo sheet figure taken to₀ opened₀ flags₀ k rest' flags' bars' x) (sym e)
    (subst (λ (k : List ℕ). SettledTo sheet figure taken to₀ opened₀ flags₀ to k flags' bars' x) (sym f)
    (subst (λ (k : List ℕ). SettledTo sheet figure taken to₀ opened₀ flags₀ to rest k bars' x) (sym g)
    (subst (λ (k : List ℕ). SettledTo sheet figure taken to₀ opened₀ flags₀ to rest flags k x) (sym h) s)))

module _ (sheet figure : form.Sheet) (ready : Ready sheet figure) (taken to₀ opened₀ flags₀ : List ℕ) where
  abbrev S : Net
  S = net_in sheet

  abbrev F : Net
  F = net_in figure

  pub settled-start : LinksIn sheet figure to₀ → length opened₀ ≡ sheet_link_limit → length flags₀ ≡ sheet_link_limit → (bars : List ℕ) (n : ℕ) → bars ≡ replicate n 0 → SettledTo sheet figure taken to₀ opened₀ flags₀ to₀ opened₀ flags₀ bars 0
  settled-start l r k bars n e = record {
    links-in = l;
    room = r;
    flags-room = k;
    cleared = λ z h. absurd (omega arith);
    several = λ s. s;
    settling = λ atoms w c. settling-start S F ready.sheet-normal ready.figure-normal (state_in figure atoms to₀) (unsettled figure opened₀) w.placed.partial c;
    barred = λ atoms w c. zeros-bar sheet figure to₀ (unsettled figure opened₀) atoms bars n e;
  }

  -- no link is open
  pub settled-already : LinksIn sheet figure to₀ → ((x : ℕ) → x < figure.class_count → get_or opened₀ x 0 ≢ 1) → Settles sheet figure taken to₀ opened₀ flags₀ to₀
  settled-already l n = record {
    links-in = l;
    settling = λ atoms w c. subst (Settling S F (state_in figure atoms to₀) (unsettled figure opened₀) (state_in figure atoms to₀)) (flagged-none figure.class_count opened₀ n)
        (settling-start S F ready.sheet-normal ready.figure-normal (state_in figure atoms to₀) (unsettled figure opened₀) w.placed.partial c);
  }

  pub settled-end : (to rest flags bars : List ℕ) (x : ℕ) → figure.class_count ≤ x → SettledTo sheet figure taken to₀ opened₀ flags₀ to rest flags bars x → Settles sheet figure taken to₀ opened₀ flags₀ to
  settled-end to rest flags bars x h s = record {
    links-in = s.links-in;
    settling = λ atoms w c. subst (Settling S F (state_in figure atoms to₀) (unsettled figure opened₀) (state_in figure atoms to))
        (flagged-none figure.class_count rest (λ z k. s.cleared z (omega arith))) (s.settling atoms w c);
  }

  module _ (to rest flags bars : List ℕ) (x : ℕ) (s : SettledTo sheet figure taken to₀ opened₀ flags₀ to rest flags bars x) where
    pub settled-skip : get_or rest x 0 ≢ 1 → SettledTo sheet figure taken to₀ opened₀ flags₀ to rest flags bars (x + 1)
    settled-skip n = record {
      links-in = s.links-in;
      room = s.room;
      flags-room = s.flags-room;
      cleared = λ z h. below-cases (λ (i : ℕ). get_or rest i 0 ≢ 1) x z (omega (arith, add-one x)) (λ k. s.cleared z k) n;
      several = s.several;
      settling = s.settling;
      barred = s.barred;
    }

    module _ (h : x < figure.class_count) (flag : get_or rest x 0 ≡ 1) (y : ℕ) (first : FirstFor sheet figure taken to flags bars x y) (after : List ℕ) (keeps : KeepsBars sheet figure taken to flags bars x after) where
      abbrev un : List ℕ
      un = unsettled figure rest

      abbrev left : List ℕ
      left = unsettled figure (set rest x 0)

      fits : x < length rest
      fits = omega (arith, s.room, ready.figure-fit.class-count)

      flags-fit : x < length flags
      flags-fit = omega (arith, s.flags-room, ready.figure-fit.class-count)

      mine : suc x ∈ un
      mine = flagged-in figure.class_count rest x h flag

      split : un ≡ suc x ∷ left
      split = flagged-first figure.class_count rest x s.cleared h (omega (arith, s.room, ready.figure-fit.class-count)) flag

      ascending : Ascending (suc x ∷ left)
      ascending = subst Ascending split (flagged-ascending figure.class_count rest)

      module _ (atoms : List ℕ) (w : Working sheet figure taken to₀ flags₀ atoms (unsettled figure opened₀)) (c : CompletableIn sheet figure to₀ (unsettled figure opened₀) atoms) where
        abbrev q₀ : Placing
        q₀ = state_in figure atoms to₀

        abbrev q : Placing
        q = state_in figure atoms to

        so_far : Settling S F q₀ (unsettled figure opened₀) q (suc x ∷ left)
        so_far = subst (Settling S F q₀ (unsettled figure opened₀) q) split (s.settling atoms w c)

        working : Working sheet figure taken to flags atoms un
        working = record {
          placed = record { taken_in = taken-in-same sheet figure to₀ atoms to taken w.placed.taken_in; partial = (s.settling atoms w c).partial };
          several = s.several w.several;
        }

        refused : (z : ℕ) → 1 ≤ z → z < y → ¬ Completable S F (put q (suc x) z) left
        refused z k l d =
            let e : z ≡ suc (z - 1) = omega arith in
            first.refused atoms un working (s.barred atoms w c) mine (z - 1) (omega arith)
            (subst (λ (n : ℕ). CompletableAt sheet figure to un x n atoms) e (completable-wider S F (put q (suc x) z) left (remove (suc x) un) (cleared-remove figure rest x fits) d))

        will-do : Dec (y ≤ sheet.class_count) → Completable S F (put q (suc x) y) left
        will-do (yes k) = completable-wider S F (put q (suc x) y) (remove (suc x) un) left (remove-cleared figure rest x fits) (first.found atoms un working mine k)
        will-do (no k) =
            let e : suc sheet.class_count ≡ y = omega (arith, first.within.1) in
            subst (λ (n : ℕ). Completable S F (put q (suc x) n) left) e
            (settling-last S F ready.sheet-normal ready.figure-normal q₀ (unsettled figure opened₀) q (suc x) left ascending so_far (λ z r. refused z r.0 (omega (arith, r.1))))

        next : Settling S F q₀ (unsettled figure opened₀) (state_in figure atoms (set to x y)) left
        next = subst (λ (p : Placing). Settling S F q₀ (unsettled figure opened₀) p left) (sym (state-put sheet figure to atoms x y h))
            (settling-next S F ready.sheet-normal ready.figure-normal q₀ (unsettled figure opened₀) q (suc x) left ascending so_far y refused (will-do (dec_le y sheet.class_count)))

        barred : BarsIn sheet figure (set to x y) left atoms after
        barred = bars-fewer S F (state_in figure atoms (set to x y)) (remove (suc x) un) left (BarredBy sheet after) (cleared-remove figure rest x fits)
            (bars-at sheet figure ready taken to flags atoms un s.flags-room working x h mine after (keeps atoms un working mine (s.barred atoms w c)) y)

      several : Several figure flags₀ (unsettled figure opened₀) → Several figure (set flags x 0) left
      several k = let t = several-put figure flags un (s.several k) x flags-fit in
          record { flag-in = λ z l f. remove-cleared figure rest x fits (suc z) (t.flag-in z l f); others = λ z m. t.others z (cleared-remove figure rest x fits (suc z) m) }

      pub settled-next : SettledTo sheet figure taken to₀ opened₀ flags₀ (set to x y) (set rest x 0) (set flags x 0) after (x + 1)
      settled-next = record {
        links-in = links-set sheet figure to s.links-in x y h ready.figure-fit.class-count first.within;
        room = length-set rest x 0 ∙ s.room;
        flags-room = length-set flags x 0 ∙ s.flags-room;
        cleared = λ z k. set_cases (λ (v : ℕ). v ≢ 1) rest x 0 z fits (λ e u. absurd (omega arith)) (λ d. s.cleared z (below_or z x (omega (arith, k)) d));
        several = several;
        settling = next;
        barred = barred;
      }
