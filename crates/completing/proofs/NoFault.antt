-- Without a fault there are least contexts for all other atoms.
use Prim.Native.Nat.{ℕ, ◌+◌, ◌-◌}
use mathlib.Core.Path.{◌≡◌, refl, sym, ◌∙◌, ap, subst}
use mathlib.Core.List.{List}
use native.Mathlib.Omega.{arith}
use lib.ListN.{length}
use Rattle.placing.specs.Net.{Net, Range}
use Rattle.placing.specs.Placing.{Placing, number_at, Taken}
use Rattle.placing.specs.Smallest.{table}
use Rattle.placing.proofs.Lists.{table-length, table_at}
use Rattle.completing.specs.Fault.{Other, Number, Allowed, NoFault, LeastContext, LeastGiven}
use Rattle.completing.proofs.Decide.{dec-and, LeastOf, least-of, other-dec, allowed-dec, number-dec}

module _ (S F : Net) (q : Placing) (f : NoFault S F q) where
  abbrev Fitting : ℕ → ℕ → Type 0
  Fitting j k = Number S F q k × Allowed S F q k j

  found : (j : ℕ) → Other S F q j → (k : ℕ) × LeastOf (Fitting j) (λ k. dec-and (number-dec S F q k) (allowed-dec S F q k j)) k
  found j o = let s = f.served j o in least-of (Fitting j) (λ k. dec-and (number-dec S F q k) (allowed-dec S F q k j)) s.0 (s.1, s.2)

  found-least : (j : ℕ) (o : Other S F q j) → LeastContext S F q j (found j o).0
  found-least j o = let t = (found j o).1 in record { number = t.has.0; allowed = t.has.1; least = λ d n h. t.least d (n, h) }

  abbrev context_for : (j : ℕ) → Dec (Other S F q j) → ℕ
  context_for j (yes o) = (found j o).0
  context_for j (no n) = 0

  abbrev contexts : List ℕ
  contexts = table (λ j. context_for j (other-dec S F q j)) 1 (length S.atoms)

  contexts-at : (j : ℕ) → Range (length S.atoms) j → number_at contexts j ≡ context_for j (other-dec S F q j)
  contexts-at j r = table_at (λ i. context_for i (other-dec S F q i)) 1 (length S.atoms) (j - 1) 0 (omega (arith, r.0, r.1))
      ∙ ap (λ (i : ℕ). context_for i (other-dec S F q i)) (let e : 1 + (j - 1) ≡ j = omega (arith, r.0) in e)

  pub least-contexts : (g : List ℕ) × LeastGiven S F q g
  least-contexts = (
    contexts,
    record {
      atoms-given = table-length (λ j. context_for j (other-dec S F q j)) 1 (length S.atoms);
      not-given = zero-at;
      least-given = least_at;
    },
  )
    where
      zero-at : (j : ℕ) → Range (length S.atoms) j → Taken S F q j → number_at contexts j ≡ 0
      zero-at j r t = contexts-at j r ∙ go (other-dec S F q j)
        where
          go : (d : Dec (Other S F q j)) → context_for j d ≡ 0
          go (yes o) = absurd (o.1 t)
          go (no n) = refl

      least_at : (j : ℕ) → Other S F q j → LeastContext S F q j (number_at contexts j)
      least_at j o = subst (LeastContext S F q j) (sym (contexts-at j o.0)) (go (other-dec S F q j))
        where
          go : (d : Dec (Other S F q j)) → LeastContext S F q j (context_for j d)
          go (yes o') = found-least j o'
          go (no n) = absurd (n o)
