-- A claim holds exactly when the filled figure is the same as the sheet.
use Prim.Native.Nat.{ℕ}
use mathlib.Core.Path.{◌≡◌, refl, sym, ◌∙◌, subst}
use mathlib.Core.Logic.{◌⊎◌, inl, inr, ◌↔◌}
use mathlib.Core.List.{List}
use mathlib.Core.Bool.{Bool, true, false}
use mathlib.Core.Option.{Option, none, some}
use native.Mathlib.Omega.{arith}
use Rattle.hyperlmntal.specs.Congruence.{◌≅◌, ≅-sym, ≅-trans}
use Rattle.hyperlmntal.specs.Hypergraph.{Flat}
use Rattle.rows.specs.Pick.{pick}
use Rattle.reading.specs.Graph.{graph_of, term_of_text}
use Rattle.sheet.specs.Reading.{no_ports}
use Rattle.sheet.specs.declared.kind.Kind.TheVariants.{Fillings}
use Rattle.sheet.proofs.read.HeldLimits.{held-within}
use Rattle.placing.specs.Net.{Net, NormalSheet}
use Rattle.placing.specs.Placing.{Placing, Good}
use Rattle.placing.specs.Holding.{holding_term}
use Rattle.placing.specs.Filled.{filled_graph}
use Rattle.placing.specs.Smallest.{smallest}
use Rattle.placing.specs.Fillings.{AllExactMarks}
use Rattle.placing.specs.TextNets.{sheet_held, sheet_net}
use Rattle.placing.proofs.Theorems.{sheet-net}
use Rattle.placing.proofs.TextPlacing.{text-net}
use Rattle.placing.proofs.FilledText.{filled-same}
use Rattle.placing.proofs.Sheets.{sheets-placing}
use Rattle.placing.proofs.SmallestLaws.{smallest-good, smallest-none}
use Rattle.placing.proofs.PlacedText.{text-small}
use Rattle.filling.specs.Read.{list_held, fillings_read}
use Rattle.filling.specs.Fill.{figure_held, is_too_large}
use Rattle.filling.proofs.Exact.{all-exact}
use Rattle.filling.proofs.ResultNet.{Atoms, result-sheet, result-term}
use Rattle.filling.proofs.Answers.{rowed}
use Rattle.claiming.specs.Claim.{filled_net, placed_claim, claimed_answer, claim_answer}
use Rattle.answers.specs.declared.outcome.Claimed.TheVariants.{Holds, Differs}
use Rattle.claiming.proofs.Listed.{listed-atoms}
use Rattle.tasks.specs.Passed.{ClaimPassed}
use Rattle.tasks.proofs.GoodSize.{good-atoms, good-links}
use Rattle.tasks.proofs.Large.{not-large}

module _ (sheet figure list : List ℕ) (ok : ClaimPassed sheet figure list) where
  abbrev S : Net
  S = sheet_net sheet

  abbrev G : Flat ℕ
  G = filled_graph (graph_of (figure_held figure)) (fillings_read list)

  abbrev N : Net
  N = filled_net figure list

  exact : AllExactMarks (fillings_read list)
  exact = all-exact list (list_held list).contexts (rowed Fillings (list_held list).contexts (held-within Fillings no_ports list).ranges.contexts) ok.none-differing

  pub claim-atoms : Atoms G.atoms
  claim-atoms = listed-atoms figure list ok.none-lacking

  s : NormalSheet S
  s = sheet-net sheet ok.sheet-passes

  n : NormalSheet N
  n = result-sheet G claim-atoms

  -- Some placing of the filled figure is good exactly when it is the same as the sheet.
  same : ((p : Placing) × Good S N p) ↔ (holding_term (term_of_text (figure_held figure)) (fillings_read list) ≅ term_of_text (sheet_held sheet))
  same =
      let d = sheets-placing S N s n in
      let f = filled-same (sheet_held sheet) (figure_held figure) (fillings_read list) exact in (
        λ t. f.0 (subst (λ T. T ≅ term_of_text (sheet_held sheet)) (result-term G claim-atoms) (≅-trans (d.0 t) (≅-sym (text-net (sheet_held sheet))))),
        λ e. d.1 (≅-trans (subst (λ T. T ≅ term_of_text (sheet_held sheet)) (sym (result-term G claim-atoms)) (f.1 e)) (text-net (sheet_held sheet))),
      )

  -- A filled figure that is the same as a sheet is no larger.
  no-larger : (p : Placing) → Good S N p → is_too_large G ≡ false
  no-larger p g =
      let small = text-small sheet figure in
      let a = good-atoms S N s n p g in
      let b = good-links S N s n p g in
      not-large G claim-atoms (omega (arith, a, small.atoms)) (omega (arith, b, small.links))

  answer : claim_answer sheet figure list ≡ pick (is_too_large G) Differs (placed_claim (smallest S N))
  unfolding claim_answer claimed_answer
  answer = rw (ok.sheet-passes, ok.figure-passes, ok.list-passes, ok.none-lacking, ok.none-differing)

  pub claim-ends : (claim_answer sheet figure list ≡ Holds) ⊎ (claim_answer sheet figure list ≡ Differs)
  claim-ends = rw answer (go (is_too_large G) (smallest S N))
    where
      go : (b : Bool) (o : Option Placing) → (pick b Differs (placed_claim o) ≡ Holds) ⊎ (pick b Differs (placed_claim o) ≡ Differs)
      go true o = inr refl
      go false none = inr refl
      go false (some p) = inl refl

  pub claim-congruent : (claim_answer sheet figure list ≡ Holds) ↔ (holding_term (term_of_text (figure_held figure)) (fillings_read list) ≅ term_of_text (sheet_held sheet))
  claim-congruent = (λ e. onward (is_too_large G) (smallest S N) refl (sym answer ∙ e), λ e. let t = same.1 e in answer ∙ rw (no-larger t.0 t.1) (back t (smallest S N) refl))
    where
      onward : (b : Bool) (o : Option Placing) → smallest S N ≡ o → pick b Differs (placed_claim o) ≡ Holds → holding_term (term_of_text (figure_held figure)) (fillings_read list) ≅ term_of_text (sheet_held sheet)
      onward true o q e = absurd (let z : ◌≡◌ {A = ℕ} 0 1 = cc in omega arith)
      onward false none q e = absurd (let z : ◌≡◌ {A = ℕ} 0 1 = cc in omega arith)
      onward false (some p) q e = same.0 (p, smallest-good S N p q)

      back : (p : Placing) × Good S N p → (o : Option Placing) → smallest S N ≡ o → placed_claim o ≡ Holds
      back t none q = absurd ((smallest-none S N).0 q t.0 t.1)
      back t (some p) q = refl
