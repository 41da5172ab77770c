-- The list that place hands out fills the pattern: no blank lacks its filling, no filling has other marks, and what is written is the same as the sheet.
use Prim.Native.Nat.{ℕ, suc}
use mathlib.Core.Path.{◌≡◌, refl, ap, sym, ◌∙◌, subst}
use mathlib.Core.Logic.{◌⊎◌, inl, inr}
use mathlib.Core.Bool.{Bool, true, false}
use mathlib.Core.List.Memᴰ
use mathlib.Core.List.{List, [], ◌∷◌}
use borrow.Author.Tests.{eqb-true, eqb-false}
use lib.Dec.{eqb}
use lib.ListN.{length}
use Rattle.hyperlmntal.specs.Link.{◌∈◌}
use Rattle.hyperlmntal.specs.Congruence.{◌≅◌, ≅-trans}
use Rattle.rows.specs.Pick.{pick}
use Rattle.rows.specs.Held.{Held}
use Rattle.rows.specs.Packed.{ports_of}
use Rattle.rows.specs.declared.Context.{Context}
use Rattle.reading.specs.Graph.{term_of_text}
use Rattle.sheet.specs.Reading.{Outcome, outcome_of, no_ports}
use Rattle.sheet.specs.declared.answer.Answer.TheVariants.{Passed}
use Rattle.sheet.specs.declared.kind.Kind.TheVariants.{Plain, Pattern}
use Rattle.placing.specs.Net.{NetCell, Net, blank_of}
use Rattle.placing.specs.Placing.{Placing, Good}
use Rattle.placing.specs.Fillings.{Filling, Fits, normal_fillings_of}
use Rattle.placing.specs.Holding.{holding_term}
use Rattle.placing.specs.ListText.{list_text}
use Rattle.placing.specs.TextNets.{text_blank, sheet_held, pattern_held, sheet_net, pattern_net}
use Rattle.placing.proofs.Theorems.{pattern-blanks, text-placing-fillings}
use Rattle.filling.specs.Read.{list_held, filling_read, fillings_read}
use Rattle.filling.specs.Fill.{figure_held, filled_text, fill_answer}
use Rattle.answers.specs.declared.outcome.Done.TheVariants as done
use Rattle.filling.proofs.Exact.{marks-exact}
use Rattle.filling.specs.Right.{Right}
use Rattle.filling.proofs.Back.{placed-back}
use Rattle.filling.proofs.Denotes.{fill-congruent}
use Rattle.filling.proofs.ReadAsFigure.{pattern-figure}

-- The port count of a number, where all of that number have one count.
ports-first : (l : List Context) (x n : ℕ) → ((c : Context) → c ∈ l → c.number ≡ x → c.count ≡ n) → (c : Context) → c ∈ l → c.number ≡ x → ports_of l x ≡ suc n
unfolding ports_of
ports-first [] x n same c i q = absurd (Memᴰ.not-nil i)
ports-first (d ∷ l) x n same c i q = go (eqb d.number x) refl (Memᴰ.cases_cons i) (λ j. ports-first l x n (λ b k. same b (Memᴰ.tail k)) c j q)
  where
    go : (b : Bool) → eqb d.number x ≡ b → (c ≡ d) ⊎ (c ∈ l) → (c ∈ l → ports_of l x ≡ suc n) → pick b (suc d.count) (ports_of l x) ≡ suc n
    go true e k ih = ap suc (same d (Memᴰ.head refl) (eqb-true d.number x e))
    go false e (inl p) ih = absurd (eqb-false d.number x e (ap (λ (b : Context). b.number) (sym p) ∙ q))
    go false e (inr j) ih = ih j

module _ (sheet pattern : List ℕ) (a : (outcome_of Plain no_ports sheet).answer ≡ Passed) (b : (outcome_of Pattern no_ports pattern).answer ≡ Passed)
    (p : Placing) (good : Good (sheet_net sheet) (pattern_net pattern) p) where
  abbrev F : Net
  F = pattern_net pattern

  abbrev θ : List Filling
  θ = normal_fillings_of (sheet_net sheet) p F

  abbrev pub placed_list : List ℕ
  placed_list = list_text θ

  fit : Fits F θ
  fit = (text-placing-fillings sheet pattern a b p good).0

  same-held : figure_held pattern ≡ pattern_held pattern
  same-held = ap (λ (o : Outcome). o.held) (pattern-figure pattern b)

  read_back : fillings_read placed_list ≡ θ
  read_back = placed-back sheet pattern a b p good

  is-placed : (c : Context) → c ∈ (list_held placed_list).contexts → filling_read placed_list c ∈ θ
  is-placed c i = subst (λ l. filling_read placed_list c ∈ l) read_back (Memᴰ.map (filling_read placed_list) i)

  ported : (c : Context) → c ∈ (pattern_held pattern).contexts → ports_of (list_held placed_list).contexts c.number ≡ suc c.count
  ported c i =
      let t : (d : NetCell) × (d ∈ F.contexts) × (blank_of d ≡ text_blank c) = Memᴰ.of_map blank_of F.contexts (subst (λ l. text_blank c ∈ l) (sym (pattern-blanks pattern)) (Memᴰ.map text_blank i)) in
      let x : t.0.0 ≡ c.number = ap (λ (e : ℕ × ℕ). e.0) t.2 in
      let n : length t.0.1 ≡ c.count = ap (λ (e : ℕ × ℕ). e.1) t.2 in
      let f = fit.for-each t.0 t.1 in
      let u : (d : Context) × (d ∈ (list_held placed_list).contexts) × (filling_read placed_list d ≡ f.0) = Memᴰ.of_map (filling_read placed_list) (list_held placed_list).contexts (subst (λ l. f.0 ∈ l) (sym read_back) f.1) in
      ports-first (list_held placed_list).contexts c.number c.count
      (λ d k q. ap (λ (g : Filling). g.ports) (fit.one (filling_read placed_list d) f.0 (is-placed d k) f.1 (q ∙ sym x ∙ sym f.2)) ∙ f.3 ∙ n)
      u.0 u.1 (ap (λ (g : Filling). g.number) u.2 ∙ f.2 ∙ x)

  pub placed-right : Right pattern placed_list
  placed-right =
      record {
        ported = λ c i. ported c (subst (λ (h : Held). c ∈ h.contexts) same-held i);
        exact = λ c i. marks-exact (filling_read placed_list c) (fit.exact (filling_read placed_list c) (is-placed c i));
      }

  -- What fill writes of the pattern and that list is the same as the sheet.
  pub placed-fill : (slip : List ℕ) (n : ℕ) → fill_answer pattern placed_list (length slip) ≡ done.Written n → term_of_text (outcome_of Plain no_ports (filled_text pattern placed_list)).held ≅ term_of_text (sheet_held sheet)
  placed-fill slip n e =
      ≅-trans (fill-congruent pattern placed_list slip n e)
      (subst (λ (η : List Filling). holding_term (term_of_text (figure_held pattern)) η ≅ term_of_text (sheet_held sheet)) (sym read_back)
      (subst (λ (h : Held). holding_term (term_of_text h) θ ≅ term_of_text (sheet_held sheet)) (sym same-held) (text-placing-fillings sheet pattern a b p good).1))
