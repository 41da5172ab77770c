-- Place, for texts that passed and a slip of the full length.
use Prim.Native.Nat.{ℕ, ◌≤◌}
use mathlib.Core.Path.{◌≡◌, refl, ap, sym, ◌∙◌, subst}
use mathlib.Core.Logic.{◌⊎◌, inl, inr, ◌↔◌}
use mathlib.Core.List.{List, ◌++◌, map, map-map}
use mathlib.Core.Option.{Option, none, some}
use native.Mathlib.Omega.{arith}
use borrow.Author.Tests.{le-ltb}
use lib.ListN.{length, take, drop}
use lib.Seq.{take_at}
use Rattle.hyperlmntal.specs.Congruence.{◌≅◌}
use Rattle.rows.specs.declared.Context.{Context}
use Rattle.reading.specs.Graph.{term_of_text}
use Rattle.normalising.specs.NormalText.{slip_length}
use Rattle.sheet.specs.Reading.{Outcome, outcome_of, no_ports}
use Rattle.sheet.specs.declared.kind.Kind.TheVariants.{Pattern, Figure}
use Rattle.sheet.specs.HeldLimits.{Every}
use Rattle.placing.specs.Placing.{Placing, Good}
use Rattle.placing.specs.Fillings.{Filling, by_number, filling_for, fillings_of, normal_filling, normal_fillings_of}
use Rattle.placing.specs.Holding.{holding_term}
use Rattle.placing.specs.ListText.{list_text}
use Rattle.placing.specs.Smallest.{smallest}
use Rattle.placing.specs.ListFits.{ListFits}
use Rattle.placing.specs.TextNets.{sheet_held, pattern_held, sheet_net, pattern_net}
use Rattle.placing.specs.Net.{blank_of}
use Rattle.placing.proofs.Theorems.{sheet-net, pattern-net}
use Rattle.placing.proofs.Chosen.{chosen_none, chosen-fillings}
use Rattle.placing.proofs.SmallestLaws.{smallest-good}
use Rattle.placing.proofs.PlacedText.{text-fits}
use Rattle.answers.specs.Done.{done_bytes, slip_after}
use Rattle.filling.specs.Read.{list_held, fillings_read}
use Rattle.filling.specs.Fill.{figure_held, first_lacking}
use Rattle.answers.specs.declared.outcome.Done.TheVariants as done
use Rattle.filling.proofs.Back.{placed-back}
use Rattle.filling.proofs.ReadAsFigure.{pattern-figure}
use Rattle.finding.specs.Place.{fillings_in, placed_fillings, placed_answer, placed_text, place_answer, place_slip}
use Rattle.finding.specs.Passed.{PlacePassed}
use Rattle.finding.proofs.Blanks.{Covering, pattern-covered}
use Rattle.claiming.specs.Claim.{claim_answer}
use Rattle.answers.specs.declared.outcome.Claimed.TheVariants.{Holds}
use Rattle.swapping.proofs.ListWhole.{written-lacks, written-exact}
use Rattle.tasks.specs.Passed.{ClaimPassed}
use Rattle.tasks.specs.Demand.{Turning, place_written, head_of, HandsOut}
use Rattle.tasks.proofs.Room.{list-room}
use Rattle.tasks.proofs.Claims.{claim-congruent}

module _ (sheet pattern : List ℕ) (ok : PlacePassed sheet pattern) where
  pub place-answer : (n : ℕ) → slip_length ≤ n → place_answer sheet pattern n ≡ placed_answer (placed_fillings sheet pattern)
  unfolding place_answer
  place-answer n full = rw (le-ltb n slip_length full, ok.sheet-passes, ok.pattern-passes)

  -- 'place ends in 0 or 11'
  pub place-ends : (n : ℕ) → slip_length ≤ n → ((bytes : ℕ) × (place_answer sheet pattern n ≡ done.Written bytes)) ⊎ (place_answer sheet pattern n ≡ done.NoPlacing)
  place-ends n full = rw (place-answer n full) (go (placed_fillings sheet pattern))
    where
      go : (o : Option (List Filling)) → ((bytes : ℕ) × (placed_answer o ≡ done.Written bytes)) ⊎ (placed_answer o ≡ done.NoPlacing)
      go none = inr refl
      go (some θ) = inl (length (list_text θ), refl)

  pub answer-none : (n : ℕ) → slip_length ≤ n → (place_answer sheet pattern n ≡ done.NoPlacing) ↔ (smallest (sheet_net sheet) (pattern_net pattern) ≡ none)
  unfolding placed_fillings
  answer-none n full = (λ e. onward (smallest (sheet_net sheet) (pattern_net pattern)) (sym (place-answer n full) ∙ e), λ e. place-answer n full ∙ rw e)
    where
      onward : (o : Option Placing) → placed_answer (fillings_in (sheet_net sheet) (pattern_net pattern) o) ≡ done.NoPlacing → o ≡ none
      onward none e = refl
      onward (some p) e = absurd (let z : ◌≡◌ {A = ℕ} 0 1 = cc in omega arith)

  -- No placing exactly when nobody can write fillings.
  pub place_none : (n : ℕ) → slip_length ≤ n → (place_answer sheet pattern n ≡ done.NoPlacing) ↔ (((θ : List Filling) × Turning sheet pattern θ) → ⊥)
  place_none n full =
      let a = answer-none n full in
      let c = chosen_none sheet pattern ok.sheet-passes ok.pattern-passes in
      (λ e t. c.0 (a.0 e) (t.0, t.1.0, t.1.1), λ h. a.1 (c.1 (λ t. h (t.0, (t.1, t.2)))))

  heads : (p : Placing) → map head_of (normal_fillings_of (sheet_net sheet) p (pattern_net pattern)) ≡ map blank_of (by_number (pattern_net pattern).contexts)
  heads p =
      map-map head_of normal_filling (fillings_of (sheet_net sheet) p (pattern_net pattern))
      ∙ map-map (λ (f : Filling). head_of (normal_filling f)) (filling_for (sheet_net sheet) p) (by_number (pattern_net pattern).contexts)

  good : (p : Placing) → smallest (sheet_net sheet) (pattern_net pattern) ≡ some p → Good (sheet_net sheet) (pattern_net pattern) p
  good p e = smallest-good (sheet_net sheet) (pattern_net pattern) p e

  pub chosen-read : (p : Placing) → smallest (sheet_net sheet) (pattern_net pattern) ≡ some p
      → fillings_read (list_text (normal_fillings_of (sheet_net sheet) p (pattern_net pattern))) ≡ normal_fillings_of (sheet_net sheet) p (pattern_net pattern)
  chosen-read p e = placed-back sheet pattern ok.sheet-passes ok.pattern-passes p (good p e)

  pub chosen-slip : (slip : List ℕ) → slip_length ≤ length slip → (p : Placing) → smallest (sheet_net sheet) (pattern_net pattern) ≡ some p
      → HandsOut sheet pattern slip (normal_fillings_of (sheet_net sheet) p (pattern_net pattern))
  unfolding placed_fillings place_slip
  chosen-slip slip full p e =
      let θ = normal_fillings_of (sheet_net sheet) p (pattern_net pattern) in
      let c = chosen-fillings sheet pattern ok.sheet-passes ok.pattern-passes p e in
      let f : placed_fillings sheet pattern ≡ some θ = rw e in
      let a : place_answer sheet pattern (length slip) ≡ done.Written (length (list_text θ)) = place-answer (length slip) full ∙ ap placed_answer f in
      record {
        placing = p;
        chosen = e;
        chosen-fillings = refl;
        answer = a;
        room = list-room (sheet_net sheet) (pattern_net pattern) (sheet-net sheet ok.sheet-passes) (pattern-net pattern ok.pattern-passes) p (good p e) (text-fits sheet pattern ok.sheet-passes ok.pattern-passes p (good p e));
        slip-after = ap (λ d. slip_after d (placed_text (placed_fillings sheet pattern)) slip) a ∙ ap (λ o. placed_text o ++ drop (length (list_text θ)) slip) f;
        one-for-each = heads p;
        passes = c.0;
        read_back = chosen-read p e;
        turning = c.1;
      }

  -- In every other case it hands out the fillings that are chosen.
  pub place-writes : (slip : List ℕ) → slip_length ≤ length slip → ¬ (place_answer sheet pattern (length slip) ≡ done.NoPlacing) → (θ : List Filling) × HandsOut sheet pattern slip θ
  place-writes slip full other = go (smallest (sheet_net sheet) (pattern_net pattern)) refl
    where
      go : (o : Option Placing) → smallest (sheet_net sheet) (pattern_net pattern) ≡ o → (θ : List Filling) × HandsOut sheet pattern slip θ
      go none e = absurd (other ((answer-none (length slip) full).1 e))
      go (some p) e = (normal_fillings_of (sheet_net sheet) p (pattern_net pattern), chosen-slip slip full p e)

  -- The bytes that it wrote.
  pub written-list : (slip : List ℕ) (θ : List Filling) → HandsOut sheet pattern slip θ → place_written sheet pattern slip ≡ list_text θ
  written-list slip θ h =
      ap (λ d. take (done_bytes d) (place_slip sheet pattern slip)) h.answer ∙ ap (take (length (list_text θ))) h.slip-after ∙ take_at (list_text θ) (drop (length (list_text θ)) slip) (length (list_text θ)) refl

  pub handed-placed : (slip : List ℕ) (θ : List Filling) → HandsOut sheet pattern slip θ → placed_fillings sheet pattern ≡ some θ
  unfolding placed_fillings
  handed-placed slip θ h = ap (fillings_in (sheet_net sheet) (pattern_net pattern)) h.chosen ∙ ap some (sym h.chosen-fillings)

  pub handed-fits : (slip : List ℕ) (θ : List Filling) → HandsOut sheet pattern slip θ → ListFits θ
  handed-fits slip θ h = subst ListFits (sym h.chosen-fillings) (text-fits sheet pattern ok.sheet-passes ok.pattern-passes h.placing (good h.placing h.chosen))

  -- No 8 in that list, for blanks that have fillings in it.
  pub handed-lacks : (slip : List ℕ) (θ : List Filling) → HandsOut sheet pattern slip θ → (l : List Context) → Every (Covering θ) l → first_lacking (list_held (list_text θ)).contexts l ≡ 0
  handed-lacks slip θ h l c = written-lacks θ (handed-fits slip θ h) h.read_back h.turning.0.one h.turning.0.exact l c

  -- That list passes in a claim.
  pub claim-passed : (slip : List ℕ) (θ : List Filling) → HandsOut sheet pattern slip θ → ClaimPassed sheet pattern (list_text θ)
  claim-passed slip θ h =
      let fit = h.turning.0 in
      let figure : outcome_of Figure no_ports pattern ≡ outcome_of Pattern no_ports pattern = pattern-figure pattern ok.pattern-passes in
      record {
        sheet-passes = ok.sheet-passes;
        figure-passes = ap (λ (o : Outcome). o.answer) figure ∙ ok.pattern-passes;
        list-passes = h.passes;
        none-lacking = ap (λ (o : Outcome). first_lacking (list_held (list_text θ)).contexts o.held.contexts) figure ∙ handed-lacks slip θ h (pattern_held pattern).contexts (pattern-covered pattern θ fit);
        none-differing = written-exact θ (handed-fits slip θ h) h.read_back fit.one fit.exact;
      }

  -- The claim with what place wrote holds.
  pub place-claim : (slip : List ℕ) → slip_length ≤ length slip → ¬ (place_answer sheet pattern (length slip) ≡ done.NoPlacing) → claim_answer sheet pattern (place_written sheet pattern slip) ≡ Holds
  place-claim slip full other =
      let t = place-writes slip full other in
      let h = t.1 in
      let figure : outcome_of Figure no_ports pattern ≡ outcome_of Pattern no_ports pattern = pattern-figure pattern ok.pattern-passes in
      ap (claim_answer sheet pattern) (written-list slip t.0 h)
      ∙ (claim-congruent sheet pattern (list_text t.0) (claim-passed slip t.0 h)).1
      (subst (λ η. holding_term (term_of_text (figure_held pattern)) η ≅ term_of_text (sheet_held sheet)) (sym h.read_back)
      (subst (λ (o : Outcome). holding_term (term_of_text o.held) t.0 ≅ term_of_text (sheet_held sheet)) (sym figure) h.turning.1))
