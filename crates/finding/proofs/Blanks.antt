-- Blanks that have fillings: those of a pattern have the fillings that fit it.
use Prim.Native.Nat.{ℕ, suc}
use mathlib.Core.Path.{◌≡◌, refl, ap, sym, ◌∙◌, subst}
use mathlib.Core.List.Memᴰ
use mathlib.Core.List.{List, [], ◌∷◌}
use mathlib.Core.Bool.{Bool, true, false}
use native.Mathlib.Omega.{arith}
use borrow.Author.Tests.{eqb-true}
use lib.Dec.{eqb}
use lib.ListN.{length}
use Rattle.hyperlmntal.specs.Link.{◌∈◌}
use Rattle.rows.specs.Pick.{pick}
use Rattle.rows.specs.Packed.{ports_of}
use Rattle.rows.specs.declared.Context.{Context}
use Rattle.sheet.specs.Reading.{outcome_of, no_ports}
use Rattle.sheet.specs.declared.kind.Kind.TheVariants.{Pattern}
use Rattle.sheet.specs.declared.answer.Answer.TheVariants.{Passed}
use Rattle.sheet.specs.HeldLimits.{Every}
use Rattle.texts.proofs.BuiltRows.{every_in}
use Rattle.placing.specs.Net.{NetCell, blank_of}
use Rattle.placing.specs.Fillings.{Filling, Fits}
use Rattle.placing.specs.TextNets.{text_blank, pattern_held, pattern_net}
use Rattle.placing.proofs.Orders.{apart-same}
use Rattle.placing.proofs.Theorems.{pattern-net, pattern-blanks}

-- A filling of this blank's number and port count.
abbrev pub Covering : List Filling → Context → Type 0
Covering θ c = (f : Filling) × (f ∈ θ) × (f.number ≡ c.number) × (f.ports ≡ c.count)

-- The first context of a number.
pub ports-found : (l : List Context) (x n : ℕ) → ports_of l x ≡ suc n → (d : Context) × (d ∈ l) × (d.number ≡ x) × (d.count ≡ n)
unfolding ports_of
ports-found [] x n e = absurd (omega arith)
ports-found (c ∷ l) x n e = go (eqb c.number x) refl e (ports-found l x n)
  where
    go : (b : Bool) → eqb c.number x ≡ b → pick b (suc c.count) (ports_of l x) ≡ suc n
        → (ports_of l x ≡ suc n → (d : Context) × (d ∈ l) × (d.number ≡ x) × (d.count ≡ n)) → (d : Context) × (d ∈ (c ∷ l)) × (d.number ≡ x) × (d.count ≡ n)
    go true q r ih = (c, Memᴰ.head refl, eqb-true c.number x q, omega arith)
    go false q r ih = let t = ih r in (t.0, Memᴰ.tail t.1, t.2, t.3)

-- A blank of a pattern, in the pattern's net.
blank-cell : (pattern : List ℕ) (c : Context) → c ∈ (pattern_held pattern).contexts → (d : NetCell) × (d ∈ (pattern_net pattern).contexts) × (blank_of d ≡ text_blank c)
blank-cell pattern c m = Memᴰ.of_map blank_of (pattern_net pattern).contexts (subst (λ l. text_blank c ∈ l) (sym (pattern-blanks pattern)) (Memᴰ.map text_blank m))

-- Blanks of a pattern with one number have one port count.
pub one-count : (pattern : List ℕ) → (outcome_of Pattern no_ports pattern).answer ≡ Passed
    → (c d : Context) → c ∈ (pattern_held pattern).contexts → d ∈ (pattern_held pattern).contexts → c.number ≡ d.number → c.count ≡ d.count
one-count pattern passed c d i j e =
    let t = blank-cell pattern c i in
    let u = blank-cell pattern d j in
    let same : t.0 ≡ u.0 = apart-same (pattern_net pattern).contexts (pattern-net pattern passed).different t.0 u.0 t.1 u.1 (ap (λ q. q.0) t.2 ∙ e ∙ sym (ap (λ q. q.0) u.2)) in
    sym (ap (λ q. q.1) t.2) ∙ ap (λ x. length x.1) same ∙ ap (λ q. q.1) u.2

module _ (pattern : List ℕ) (θ : List Filling) (fit : Fits (pattern_net pattern) θ) where
  pub one_covers : (c : Context) → c ∈ (pattern_held pattern).contexts → Covering θ c
  one_covers c m =
      let t = blank-cell pattern c m in
      let f = fit.for-each t.0 t.1 in
      (f.0, f.1, f.2 ∙ ap (λ q. q.0) t.2, f.3 ∙ ap (λ q. q.1) t.2)

  pub pattern-covered : Every (Covering θ) (pattern_held pattern).contexts
  pattern-covered = every_in (Covering θ) (pattern_held pattern).contexts one_covers
