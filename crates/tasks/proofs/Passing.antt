-- Texts have passed exactly when the answer, to a slip of the full length, names no input.
use Prim.Native.Nat.{ℕ, suc, ◌≤◌}
use mathlib.Core.Path.{◌≡◌, refl, ap}
use mathlib.Core.Logic.{◌↔◌, ⊎_elim}
use mathlib.Core.List.{List}
use mathlib.Core.Bool.{Bool, true, false}
use native.Mathlib.Omega.{arith}
use borrow.Author.Tests.{le-ltb, ltb-false}
use lib.Dec.{ltb}
use Rattle.rows.specs.Pick.{pick}
use Rattle.normalising.specs.NormalText.{slip_length}
use Rattle.sheet.specs.declared.answer.Answer.{Answer}
use Rattle.sheet.specs.declared.answer.Answer.TheVariants.{Passed, Refused}
use Rattle.filling.specs.Read.{list_held}
use Rattle.filling.specs.Fill.{unless, figure_held, first_lacking, first_differing}
use Rattle.answers.specs.Done.{done_input}
use Rattle.answers.specs.declared.outcome.Done.{Done}
use Rattle.answers.specs.declared.outcome.Done.TheVariants as done
use Rattle.placing.specs.TextNets.{pattern_held}
use Rattle.finding.specs.Place.{place_answer}
use Rattle.finding.specs.Passed.{PlacePassed}
use Rattle.claiming.specs.Claim.{claim_unless, claimed_answer, claim_answer}
use Rattle.answers.specs.Claimed.{claimed_input}
use Rattle.answers.specs.declared.outcome.Claimed.{Claimed}
use Rattle.answers.specs.declared.outcome.Claimed.TheVariants as claimed
use Rattle.swapping.specs.Swap.{replacement_held, same_marks, swap_answer}
use Rattle.tasks.specs.Passed.{SwapPassed, ClaimPassed}
use Rattle.tasks.proofs.Places.{place-ends}
use Rattle.tasks.proofs.Swapping.{swap_ends}
use Rattle.tasks.proofs.Claims.{claim-ends}

input-passed : (a : Answer) (k : ℕ) (next : Done) → done_input (unless a (suc k) next) ≡ 0 → (a ≡ Passed) × (done_input next ≡ 0)
input-passed Passed k next e = (refl, e)
input-passed (Refused why row) k next e = absurd (omega arith)

claim-input : (a : Answer) (k : ℕ) (next : Claimed) → claimed_input (claim_unless a (suc k) next) ≡ 0 → (a ≡ Passed) × (claimed_input next ≡ 0)
claim-input Passed k next e = (refl, e)
claim-input (Refused why row) k next e = absurd (omega arith)

module _ (sheet pattern : List ℕ) (n : ℕ) (full : slip_length ≤ n) where
  pub place-passed : PlacePassed sheet pattern ↔ (done_input (place_answer sheet pattern n) ≡ 0)
  unfolding place_answer
  place-passed = (
    λ ok. ⊎_elim (λ t. ap done_input t.1) (λ e. ap done_input e) (place-ends sheet pattern ok n full),
    λ e. let a = input-passed _ _ _ (rw (le-ltb n slip_length full) at e) in let b = input-passed _ _ _ a.1 in record { sheet-passes = a.0; pattern-passes = b.0 },
  )

module _ (sheet pattern replacement : List ℕ) (n : ℕ) (full : slip_length ≤ n) where
  pub swap-passed : SwapPassed sheet pattern replacement ↔ (done_input (swap_answer sheet pattern replacement n) ≡ 0)
  unfolding swap_answer
  swap-passed = (
    λ ok. ⊎_elim (λ t. ap done_input t.1) (λ t. ⊎_elim (λ e. ap done_input e) (λ e. ap done_input e) t) (swap_ends sheet pattern replacement ok n full),
    λ e.
        let a = input-passed _ _ _ (rw (le-ltb n slip_length full) at e) in
        let b = input-passed _ _ _ a.1 in
        let c = input-passed _ _ _ b.1 in
        record { placed = record { sheet-passes = a.0; pattern-passes = b.0 }; replacement-passes = c.0; same-marks = marks (same_marks (replacement_held pattern replacement) (pattern_held pattern)) _ c.1 },
  )
    where
      marks : (b : Bool) (d : Done) → done_input (pick b d (done.EdgeDiffers 3 0)) ≡ 0 → b ≡ true
      marks true d e = refl
      marks false d e = absurd (omega arith)

pub claim-passed : (sheet figure list : List ℕ) → ClaimPassed sheet figure list ↔ (claimed_input (claim_answer sheet figure list) ≡ 0)
unfolding claim_answer claimed_answer
claim-passed sheet figure list = (
  λ ok. ⊎_elim (λ e. ap claimed_input e) (λ e. ap claimed_input e) (claim-ends sheet figure list ok),
  λ e.
      let a = claim-input _ _ _ e in
      let b = claim-input _ _ _ a.1 in
      let c = claim-input _ _ _ b.1 in
      let k = first_lacking (list_held list).contexts (figure_held figure).contexts in
      let m = first_differing list (list_held list).contexts in
      let d = lacking (ltb 0 k) k _ refl c.1 in
      record { sheet-passes = a.0; figure-passes = b.0; list-passes = c.0; none-lacking = d.0; none-differing = differing (ltb 0 m) m _ refl d.1 },
)
  where
    lacking : (b : Bool) (k : ℕ) (next : Claimed) → ltb 0 k ≡ b → claimed_input (pick b (claimed.BlankClash 2 k) next) ≡ 0 → (k ≡ 0) × (claimed_input next ≡ 0)
    lacking true k next q e = absurd (omega arith)
    lacking false k next q e = (omega (arith, ltb-false 0 k q), e)

    differing : (b : Bool) (k : ℕ) (next : Claimed) → ltb 0 k ≡ b → claimed_input (pick b (claimed.EdgeDiffers 3 k) next) ≡ 0 → k ≡ 0
    differing true k next q e = absurd (omega arith)
    differing false k next q e = omega (arith, ltb-false 0 k q)
