-- What is known of the completions of placed atoms.
use Prim.Native.Nat.{ℕ, ◌≤◌}
use mathlib.Core.Path.{◌≡◌, sym, ◌∙◌, subst}
use mathlib.Core.Logic.{inl, inr}
use mathlib.Core.List.{List}
use native.Mathlib.Omega.{arith}
use Rattle.hyperlmntal.specs.Link.{◌∈◌}
use Rattle.placing.specs.Net.{Net}
use Rattle.placing.specs.Placing.{Placing, link_target, At}
use Rattle.completing.specs.Completion.{Partial, Completion}
use Rattle.completing.specs.Fault.{Other}
use Rattle.completing.specs.Known.{Known, MayGo, Bars}
use Rattle.completing.proofs.Decide.{member-dec}
use Rattle.completing.proofs.Kept.{taken-same}

module _ (S F : Net) (q : Placing) (un : List ℕ) where
  -- A settled link surely goes where q sends it; an unsettled one may go wherever it is not barred.
  pub completions-known : Partial S F q un → (bar : ℕ → ℕ → Type 0) → Bars S F q un bar → Known S F (Completion S F q un) (MayGo q un bar) (At S F q) (Other S F q)
  completions-known a bar b = record {
    good = λ p c. c.good;
    may-go = goes;
    surely = stays;
    is-atom = λ j o. o.0;
    not_taken = λ p c j o t. o.1 (taken-same S F p q c.same-atoms j t);
  }
    where
      goes : (p : Placing) → Completion S F q un p → (x y : ℕ) → At S F p x y → MayGo q un bar x y
      goes p c x y t = by (member-dec x un)
        where
          by : Dec (x ∈ un) → MayGo q un bar x y
          by (yes m) = inr (m, (λ h. b p c x m (subst (bar x) (sym t.there) h)))
          by (no n) = inl (sym (c.settled x t.figure-link n) ∙ t.there)

      stays : (p : Placing) → Completion S F q un p → (x y : ℕ) → At S F q x y → At S F p x y
      stays p c x y t = record { figure-link = t.figure-link; sheet-link = t.sheet-link; there = c.settled x t.figure-link settled ∙ t.there }
        where
          settled : ¬ (x ∈ un)
          settled m = let k = a.read_none x m in let h : link_target q x ≡ y = t.there in let s : y ≤ S.links = t.sheet-link.1 in absurd (omega arith)

  -- nothing is barred
  pub no-bars : Bars S F q un (λ x y. ⊥)
  no-bars p c x m b = b
