-- What place hands out are fillings as document 01 has them written, so the search says 'no placing' exactly when nobody can write
-- such fillings.
use Prim.Native.Nat.{ℕ, ◌≤◌, ◌<◌}
use mathlib.Core.Path.{◌≡◌, sym, subst}
use mathlib.Core.Logic.{◌⊎◌, inl, inr, ◌↔◌}
use mathlib.Core.List.Memᴰ
use mathlib.Core.List.{List, [], ◌∷◌, map}
use native.Mathlib.Omega.{arith}
use lib.ListN.{length}
use Rattle.hyperlmntal.specs.Link.{◌∈◌}
use Rattle.rows.specs.Format.{most_name}
use Rattle.normalising.specs.NormalText.{slip_length}
use Rattle.texts.specs.Fitting.{Fitting}
use Rattle.placing.specs.Net.{NetCell, blank_of}
use Rattle.placing.specs.Fillings.{symbol_row, Filling, by_number}
use Rattle.placing.specs.TextNets.{pattern_net}
use Rattle.placing.specs.ListFits.{Ascends}
use Rattle.placing.proofs.Orders.{by-number-out}
use Rattle.placing.proofs.ListParts.{ascends-above}
use Rattle.answers.specs.declared.outcome.Done.TheVariants as done
use Rattle.finding.specs.Place.{place_answer}
use Rattle.finding.specs.Passed.{PlacePassed}
use Rattle.tasks.specs.Demand.{Turning, Different, head_of, Written, HandsOut}
use Rattle.tasks.proofs.Places.{place-ends, place_none, place-writes, handed-fits}

-- Numbers that ascend are different.
ascends-different : (n : ℕ) (θ : List Filling) → Ascends n θ → Different (map (λ (f : Filling). f.number) θ)
ascends-different n [] up = tt
ascends-different n (f ∷ θ) up = (λ m. again (Memᴰ.of_map (λ (g : Filling). g.number) θ m), ascends-different f.number θ up.1)
  where
    again : (g : Filling) × (g ∈ θ) × (g.number ≡ f.number) → ⊥
    again t = let above : f.number < t.0.number = ascends-above f.number θ up.1 t.0 t.1 in let same : t.0.number ≡ f.number = t.2 in omega arith

module _ (sheet pattern : List ℕ) (ok : PlacePassed sheet pattern) (slip : List ℕ) where
  pub handed-written : (θ : List Filling) → HandsOut sheet pattern slip θ → Written (pattern_net pattern) θ
  handed-written θ h =
      let fits = handed-fits sheet pattern ok slip θ h in
      record {
        symbols = λ f i name joints j. let r : Fitting (fits.fillings f i).links most_name (name, joints) = (fits.fillings f i).each (symbol_row name joints) j in (r.name, r.count);
        different = ascends-different 0 θ fits.ascends;
        of-blank = λ f i. blank f (Memᴰ.of_map blank_of (by_number (pattern_net pattern).contexts) (subst (λ l. head_of f ∈ l) h.one-for-each (Memᴰ.map head_of i)));
      }
    where
      blank : (f : Filling) → (c : NetCell) × (c ∈ by_number (pattern_net pattern).contexts) × (blank_of c ≡ head_of f) → head_of f ∈ map blank_of (pattern_net pattern).contexts
      blank f t = subst (λ b. b ∈ map blank_of (pattern_net pattern).contexts) t.2 (Memᴰ.map blank_of (by-number-out (pattern_net pattern).contexts t.0 t.1))

  -- Forward, nobody can write any fillings; backward, place would hand some out.
  pub place-none-written : slip_length ≤ length slip
      → (place_answer sheet pattern (length slip) ≡ done.NoPlacing) ↔ (((θ : List Filling) × Written (pattern_net pattern) θ × Turning sheet pattern θ) → ⊥)
  place-none-written full = (λ e t. (place_none sheet pattern ok (length slip) full).0 e (t.0, t.2), λ nobody. by nobody (place-ends sheet pattern ok (length slip) full))
    where
      by : (((θ : List Filling) × Written (pattern_net pattern) θ × Turning sheet pattern θ) → ⊥)
          → ((bytes : ℕ) × (place_answer sheet pattern (length slip) ≡ done.Written bytes)) ⊎ (place_answer sheet pattern (length slip) ≡ done.NoPlacing)
          → place_answer sheet pattern (length slip) ≡ done.NoPlacing
      by nobody (inr e) = e
      by nobody (inl w) = absurd (nobody (let t = place-writes sheet pattern ok slip full (λ e. let z : ◌≡◌ {A = ℕ} 0 1 = cc w.1 in omega arith) in (t.0, handed-written t.0 t.1, t.1.turning)))
