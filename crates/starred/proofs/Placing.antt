-- How place ends with every slip of the full length, and the claim of what it wrote, from what a search finds that leaves out
-- beginnings which cannot become good: with all of them the largest sheet takes half a million tests.
use Prim.Native.Nat.{ℕ, ◌≤◌}
use mathlib.Core.Path.{◌≡◌, refl, ap, ap₂, sym, ◌∙◌, subst}
use mathlib.Core.List.{List, [], ◌∷◌, ◌++◌}
use mathlib.Core.Option.{Option, none, some}
use native.Mathlib.Omega.{arith}
use lib.ListN.{length, take, drop, replicate, length-replicate}
use lib.Seq.{take_at}
use Rattle.writing.specs.RowText.{row_bytes}
use Rattle.normalising.specs.NormalText.{slip_length}
use Rattle.placing.specs.Fillings.{Filling}
use Rattle.placing.specs.ListText.{list_text}
use Rattle.placing.specs.Narrowed.{narrowed}
use Rattle.placing.specs.TextNets.{sheet_net, pattern_net}
use Rattle.placing.proofs.Narrowed.{narrowed-same}
use Rattle.answers.specs.AnswerRow.{answer_letter, answer_row}
use Rattle.answers.specs.Done.{done_bytes, slip_after}
use Rattle.answers.specs.Values.{done_values}
use Rattle.answers.specs.declared.outcome.Done.{Done}
use Rattle.answers.specs.declared.outcome.Done.TheVariants as done
use Rattle.finding.specs.Place.{fillings_in, placed_fillings, placed_answer, placed_text, place_answer, place_slip}
use Rattle.finding.specs.Passed.{PlacePassed}
use Rattle.claiming.specs.Claim.{claim_answer}
use Rattle.answers.specs.declared.outcome.Claimed.TheVariants as claim
use Rattle.tasks.specs.Demand.{place_written}
use Rattle.tasks.proofs.Places.{place-answer, place-claim}
use Rattle.starred.specs.Case.{PlaceEnds, printed, Prints}

-- the answer and the text of what is placed
abbrev end_of : Option (List Filling) → Done × List ℕ
end_of o = (placed_answer o, placed_text o)

abbrev pub found_in : List ℕ → List ℕ → Done × List ℕ
found_in sheet pattern = end_of (fillings_in (sheet_net sheet) (pattern_net pattern) (narrowed (sheet_net sheet) (pattern_net pattern)))

module _ (sheet pattern : List ℕ) (ok : PlacePassed sheet pattern) (d : Done) (text : List ℕ) (found : found_in sheet pattern ≡ (d, text)) where
  found-placed : end_of (placed_fillings sheet pattern) ≡ (d, text)
  unfolding placed_fillings
  found-placed = ap (λ o. end_of (fillings_in (sheet_net sheet) (pattern_net pattern) o)) (narrowed-same (sheet_net sheet) (pattern_net pattern)) ∙ found

  answer-is : (n : ℕ) → slip_length ≤ n → place_answer sheet pattern n ≡ d
  answer-is n full = place-answer sheet pattern ok n full ∙ ap (λ (r : Done × List ℕ). r.0) found-placed

  slip-is : (slip : List ℕ) → slip_length ≤ length slip → place_slip sheet pattern slip ≡ slip_after d text slip
  unfolding place_slip
  slip-is slip full = ap₂ (λ e t. slip_after e t slip) (answer-is (length slip) full) (ap (λ (r : Done × List ℕ). r.1) found-placed)

-- the whole output for what is found
abbrev pub output_of : Done × List ℕ → List ℕ
output_of r = answer_row (done_values r.0) ++ r.1

output-of : (slip : List ℕ) (o : Option (List Filling)) → printed (done_values (placed_answer o)) (slip_after (placed_answer o) (placed_text o) slip) ≡ output_of (end_of o)
output-of slip none = refl
output-of slip (some θ) = ap (λ l. row_bytes answer_letter (0 ∷ 0 ∷ 0 ∷ []) ++ l) (take_at (list_text θ) (drop (length (list_text θ)) slip) (length (list_text θ)) refl)

pub place-prints : (sheet pattern : List ℕ) → PlacePassed sheet pattern → Prints sheet pattern (output_of (found_in sheet pattern))
place-prints sheet pattern ok slip full =
    ap₂ (λ d s. printed (done_values d) s) (answer-is sheet pattern ok _ _ refl (length slip) full) (slip-is sheet pattern ok _ _ refl slip full)
    ∙ output-of slip (fillings_in (sheet_net sheet) (pattern_net pattern) (narrowed (sheet_net sheet) (pattern_net pattern)))

module _ (sheet pattern : List ℕ) (ok : PlacePassed sheet pattern) (found : found_in sheet pattern ≡ (done.NoPlacing, [])) where
  pub nowhere-ends : PlaceEnds sheet pattern 11 []
  nowhere-ends = record { answered = λ slip full. ap done_values (answer-is sheet pattern ok _ [] found (length slip) full); slip-after = slip-is sheet pattern ok _ [] found }

module _ (sheet pattern list : List ℕ) (ok : PlacePassed sheet pattern) (found : found_in sheet pattern ≡ (done.Written (length list), list)) where
  pub place-ends : PlaceEnds sheet pattern 0 list
  place-ends = record { answered = λ slip full. ap done_values (answer-is sheet pattern ok _ list found (length slip) full); slip-after = slip-is sheet pattern ok _ list found }

  module _ (slip : List ℕ) (full : slip_length ≤ length slip) where
    not-nowhere : ¬ (place_answer sheet pattern (length slip) ≡ done.NoPlacing)
    not-nowhere e =
        let p : done.Written (length list) ≡ done.NoPlacing = sym (answer-is sheet pattern ok _ list found (length slip) full) ∙ e in
        let z : ◌≡◌ {A = ℕ} 0 1 = cc in
        omega arith

    written : place_written sheet pattern slip ≡ list
    written =
        ap₂ (λ d s. take (done_bytes d) s) (answer-is sheet pattern ok _ list found (length slip) full) (slip-is sheet pattern ok _ list found slip full)
        ∙ take_at list (drop (length list) slip) (length list) refl

    claim-by : claim_answer sheet pattern list ≡ claim.Holds
    claim-by = subst (λ l. claim_answer sheet pattern l ≡ claim.Holds) written (place-claim sheet pattern ok slip full not-nowhere)

  pub claim-holds : claim_answer sheet pattern list ≡ claim.Holds
  claim-holds = claim-by (replicate slip_length 0) (rw (length-replicate {A = ℕ} slip_length 0) (omega arith))
