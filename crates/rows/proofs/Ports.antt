-- The table of port counts, one entry for each context number, and one context more.
use Prim.Native.Nat.{ℕ, zero, suc, ◌+◌, ◌<◌}
use mathlib.Core.Path.{◌≡◌, refl, ap, ◌∙◌, sym}
use mathlib.Core.List.{List, [], ◌∷◌, ◌++◌, map}
use mathlib.Core.Bool.{Bool, true, false}
use native.Mathlib.Omega.{arith}
use native.Mathlib.Numerals.{add-one}
use lib.Dec.{eqb}
use lib.ListN.{get_or, set}
use borrow.Author.Tests.{eq-eqb, ne_eqb, eqb-true, eqb-false}
use Rattle.rows.specs.Format.{context_bound}
use Rattle.rows.specs.Pick.{pick}
use Rattle.rows.specs.Packed.{ports_of, port_table}
use Rattle.rows.specs.declared.Context.{Context}

-- a statement of each context number
below-bound : (P : ℕ → Type 0) → P 0 → P 1 → P 2 → P 3 → P 4 → (k : ℕ) → k < context_bound → P k
below-bound P a b c d e zero h = a
below-bound P a b c d e (suc zero) h = b
below-bound P a b c d e (suc (suc zero)) h = c
below-bound P a b c d e (suc (suc (suc zero))) h = d
below-bound P a b c d e (suc (suc (suc (suc zero)))) h = e
below-bound P a b c d e (suc (suc (suc (suc (suc k))))) h = absurd (omega arith)

pub table_at : (l : List Context) (k : ℕ) → k < context_bound → get_or (port_table l) k 0 ≡ ports_of l k
table_at l = below-bound (λ k. get_or (port_table l) k 0 ≡ ports_of l k) refl refl refl refl refl

-- the ports of a number after one context more: those of an earlier context, else those of the new one
ports-more : (l : List Context) (c : Context) (k : ℕ) → ports_of (l ++ (c ∷ [])) k ≡ pick (eqb (ports_of l k) 0) (pick (eqb c.number k) (suc c.count) 0) (ports_of l k)
unfolding ports_of
ports-more [] c k = refl
ports-more (b ∷ l) c k = go (eqb b.number k) (ports-more l c k)
  where
    go : (t : Bool) → ports_of (l ++ (c ∷ [])) k ≡ pick (eqb (ports_of l k) 0) (pick (eqb c.number k) (suc c.count) 0) (ports_of l k)
        → pick t (suc b.count) (ports_of (l ++ (c ∷ [])) k) ≡ pick (eqb (pick t (suc b.count) (ports_of l k)) 0) (pick (eqb c.number k) (suc c.count) 0) (pick t (suc b.count) (ports_of l k))
    go true ih = rw (ne_eqb (suc b.count) 0 (λ e. omega arith))
    go false ih = ih

module _ (l : List Context) (c : Context) where
  ports-new : ports_of l c.number ≡ 0 → ports_of (l ++ (c ∷ [])) c.number ≡ c.count + 1
  ports-new e = ports-more l c c.number ∙ rw (eq-eqb _ _ e) (rw (eq-eqb c.number c.number refl) (sym (add-one c.count)))

  ports-same : (k : ℕ) → (c.number ≡ k → ports_of l k ≡ 0 → ⊥) → ports_of (l ++ (c ∷ [])) k ≡ ports_of l k
  ports-same k h = ports-more l c k ∙ go (eqb (ports_of l k) 0) refl (eqb c.number k) refl
    where
      go : (s : Bool) → eqb (ports_of l k) 0 ≡ s → (t : Bool) → eqb c.number k ≡ t → pick s (pick t (suc c.count) 0) (ports_of l k) ≡ ports_of l k
      go false e t q = refl
      go true e false q = sym (eqb-true _ _ e)
      go true e true q = absurd (h (eqb-true _ _ q) (eqb-true _ _ e))

  -- the first context of its number changes that number's entry alone
  entry : ports_of l c.number ≡ 0 → (k j : ℕ) → c.number ≡ k → ports_of (l ++ (c ∷ [])) j ≡ pick (eqb k j) (c.count + 1) (ports_of l j)
  entry e k j q = go (eqb k j) refl
    where
      go : (t : Bool) → eqb k j ≡ t → ports_of (l ++ (c ∷ [])) j ≡ pick t (c.count + 1) (ports_of l j)
      go true p = ap (ports_of (l ++ (c ∷ []))) (sym (q ∙ eqb-true k j p)) ∙ ports-new e
      go false p = ports-same j (λ r z. eqb-false k j p (sym q ∙ r))

  entries : ℕ → List ℕ
  entries k = map (λ j. pick (eqb k j) (c.count + 1) (ports_of l j)) (0 ∷ 1 ∷ 2 ∷ 3 ∷ 4 ∷ [])

  table-entries : ports_of l c.number ≡ 0 → (k : ℕ) → c.number ≡ k → entries k ≡ port_table (l ++ (c ∷ []))
  unfolding entries
  table-entries e k q = rw (entry e k 0 q) (rw (entry e k 1 q) (rw (entry e k 2 q) (rw (entry e k 3 q) (rw (entry e k 4 q)))))

  pub table-first : c.number < context_bound → ports_of l c.number ≡ 0 → set (port_table l) c.number (c.count + 1) ≡ port_table (l ++ (c ∷ []))
  unfolding entries
  table-first small e =
      below-bound (λ k. c.number ≡ k → set (port_table l) k (c.count + 1) ≡ port_table (l ++ (c ∷ []))) (λ q. table-entries e 0 q) (λ q. table-entries e 1 q) (λ q. table-entries e 2 q)
      (λ q. table-entries e 3 q) (λ q. table-entries e 4 q) c.number small refl

  -- a further one
  pub table-again : (ports_of l c.number ≡ 0 → ⊥) → port_table l ≡ port_table (l ++ (c ∷ []))
  table-again h =
      let same : (k : ℕ) → ports_of (l ++ (c ∷ [])) k ≡ ports_of l k = λ k. ports-same k (λ q z. h (ap (ports_of l) q ∙ z)) in
      rw (same 0) (rw (same 1) (rw (same 2) (rw (same 3) (rw (same 4)))))
