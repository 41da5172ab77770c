-- A figure without contexts takes every sheet atom.
use Prim.Native.Nat.{ℕ, zero, suc, ◌-◌, ◌≤◌, ◌<◌}
use mathlib.Core.Path.{◌≡◌, refl, ap, sym, ◌∙◌, subst}
use mathlib.Core.Logic.{◌≢◌, ⊎_elim}
use mathlib.Core.List.Memᴰ
use mathlib.Core.List.{List, [], ◌∷◌}
use native.Mathlib.Omega.{arith}
use lib.ListN.{length}
use Rattle.hyperlmntal.specs.Link.{◌∈◌}
use Rattle.rows.specs.declared.Sheet as form
use Rattle.reading.proofs.normal.Merging.{get_d-in}
use Rattle.placing.specs.Net.{Range}
use Rattle.placing.specs.Placing.{Taken}
use Rattle.network.specs.NetIn.{net_in}
use Rattle.network.specs.Begun.{Begun}
use Rattle.network.specs.Ready.{Ready}
use Rattle.network.proofs.NetIn.{atoms-length, context-of}
use Rattle.completing.proofs.Decide.{taken-dec}

-- a list without one of its entries
without : (x : ℕ) (l : List ℕ) → x ∈ l → (r : List ℕ) × (suc (length r) ≡ length l) × ((j : ℕ) → j ∈ l → j ≢ x → j ∈ r)
without x [] m = absurd (Memᴰ.not-nil m)
without x (y ∷ l) m = ⊎_elim
    (λ e. (l, refl, λ j k d. ⊎_elim (λ q. absurd (d (q ∙ sym e))) (λ z. z) (Memᴰ.cases_cons k)))
    (λ k. let w = without x l k in (y ∷ w.0, ap suc w.1, λ j q d. ⊎_elim (λ e. Memᴰ.head e) (λ z. Memᴰ.tail (w.2 j z d)) (Memᴰ.cases_cons q)))
    (Memᴰ.cases_cons m)

-- a list that has each number from 1 to n has n entries or more
covers : (n : ℕ) (l : List ℕ) → ((j : ℕ) → Range n j → j ∈ l) → n ≤ length l
covers zero l h = omega arith
covers (suc n) l h =
    let w = without (suc n) l (h (suc n) (omega arith, omega arith)) in
    let c = covers n w.0 (λ j r. w.2 j (h j (r.0, omega (arith, r.1))) (λ e. absurd (omega (arith, r.1, e)))) in
    omega (arith, w.1, c)

pub leftover : (sheet figure : form.Sheet) → Ready sheet figure → figure.context_count ≡ 0 → figure.atom_count < sheet.atom_count → ¬ Begun (net_in sheet) (net_in figure) []
leftover sheet figure ready none few b = absurd (omega (arith, covers (length (net_in sheet).atoms) b.0.atoms_to all, b.1.sending.atoms-sent, atoms-length sheet ready.sheet-fit, atoms-length figure ready.figure-fit))
  where
    all : (j : ℕ) → Range (length (net_in sheet).atoms) j → j ∈ b.0.atoms_to
    all j r = go (taken-dec (net_in sheet) (net_in figure) b.0 j)
      where
        go : Dec (Taken (net_in sheet) (net_in figure) b.0 j) → j ∈ b.0.atoms_to
        go (yes t) = subst (λ (i : ℕ). i ∈ b.0.atoms_to) t.there (get_d-in b.0.atoms_to (t.by - 1) 0 (omega (arith, t.of-figure.0, t.of-figure.1, b.1.sending.atoms-sent)))
        go (no t) = let c = b.1.sending.to-contexts j r t in let k = context-of figure ready.figure-fit c.0 c.1 in absurd (omega (arith, k.1))
