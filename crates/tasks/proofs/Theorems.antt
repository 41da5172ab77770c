-- What this crate is for, in one place: demand 3, for all bytes.
use Prim.Native.Nat.{ℕ, ◌≤◌}
use mathlib.Core.Path.{◌≡◌}
use mathlib.Core.Logic.{◌⊎◌, ◌↔◌}
use mathlib.Core.List.{List}
use lib.ListN.{length}
use Rattle.hyperlmntal.specs.Congruence.{◌≅◌}
use Rattle.reading.specs.Graph.{term_of_text}
use Rattle.normalising.specs.NormalText.{slip_length, normalised_answer, normalised_slip, normalised_number}
use Rattle.sheet.specs.declared.kind.Kind.{Kind}
use Rattle.placing.specs.Fillings.{Filling}
use Rattle.placing.specs.Holding.{holding_term}
use Rattle.placing.specs.TextNets.{sheet_held, pattern_net}
use Rattle.filling.specs.Read.{fillings_read}
use Rattle.answers.specs.Done.{done_number, done_input}
use Rattle.filling.specs.Fill.{figure_held, fill_answer, fill_slip}
use Rattle.answers.specs.declared.outcome.Done.TheVariants as done
use Rattle.finding.specs.Place.{place_answer, place_slip}
use Rattle.finding.specs.Passed.{PlacePassed}
use Rattle.claiming.specs.Claim.{claim_answer}
use Rattle.answers.specs.Claimed.{claimed_input}
use Rattle.answers.specs.declared.outcome.Claimed.TheVariants.{Holds, Differs}
use Rattle.swapping.specs.Swap.{swap_answer, swap_slip}
use Rattle.tasks.specs.Passed.{SwapPassed, ClaimPassed}
use Rattle.tasks.specs.Demand.{Turning, Written, place_written, HandsOut, Swaps}
use Rattle.tasks.proofs.Places as Places
use Rattle.tasks.proofs.WrittenFillings as WrittenFillings
use Rattle.tasks.proofs.Claims as Claims
use Rattle.tasks.proofs.Swapping as Swapping
use Rattle.tasks.proofs.Passing as Passing
use Rattle.tasks.proofs.SlipLaws as SlipLaws

-- 'For every sheet and pattern figure that passed, with a slip of the full length,'
module _ (sheet pattern : List ℕ) (ok : PlacePassed sheet pattern) (slip : List ℕ) (full : slip_length ≤ length slip) where
  -- 'the search says 'no placing' exactly when nobody can write fillings of any size, each with exactly its blank's ports as marks, that
  -- turn the figure into that sheet under E1 to E10.'
  pub place_none : (place_answer sheet pattern (length slip) ≡ done.NoPlacing) ↔ (((θ : List Filling) × Turning sheet pattern θ) → ⊥)
  place_none = Places.place_none sheet pattern ok (length slip) full

  -- The same for fillings exactly as 'Words of demand 3' has them: rows within the table's ranges, one filling for each blank and none
  -- besides.
  pub place-none-written : (place_answer sheet pattern (length slip) ≡ done.NoPlacing) ↔ (((θ : List Filling) × Written (pattern_net pattern) θ × Turning sheet pattern θ) → ⊥)
  place-none-written = WrittenFillings.place-none-written sheet pattern ok slip full

  -- 'In every other case it hands out the fillings that document 01 chooses, one for each blank with exactly its ports as marks, and the
  -- figure holding them is the same as that sheet.'
  pub place-writes : ¬ (place_answer sheet pattern (length slip) ≡ done.NoPlacing) → (θ : List Filling) × HandsOut sheet pattern slip θ
  place-writes other = Places.place-writes sheet pattern ok slip full other

  -- These are so written too.
  pub handed-written : (θ : List Filling) → HandsOut sheet pattern slip θ → Written (pattern_net pattern) θ
  handed-written θ handed = WrittenFillings.handed-written sheet pattern ok slip θ handed

  -- 'place ends in 0 or 11'
  pub place-ends : ((bytes : ℕ) × (place_answer sheet pattern (length slip) ≡ done.Written bytes)) ⊎ (place_answer sheet pattern (length slip) ≡ done.NoPlacing)
  place-ends = Places.place-ends sheet pattern ok (length slip) full

  -- The claim of sheet, figure and the bytes that place wrote holds.
  pub place-claim : ¬ (place_answer sheet pattern (length slip) ≡ done.NoPlacing) → claim_answer sheet pattern (place_written sheet pattern slip) ≡ Holds
  place-claim other = Places.place-claim sheet pattern ok slip full other

-- 'A swap of these two, with any replacement that passed too and such a slip,'
module _ (sheet pattern replacement : List ℕ) (ok : SwapPassed sheet pattern replacement) (slip : List ℕ) (full : slip_length ≤ length slip) where
  -- 'says 'no placing' exactly when the search does.'
  pub swap-none : (swap_answer sheet pattern replacement (length slip) ≡ done.NoPlacing) ↔ (place_answer sheet pattern (length slip) ≡ done.NoPlacing)
  swap-none = Swapping.swap-none sheet pattern replacement ok (length slip) full

  -- 'Otherwise it prints, byte for byte, the normal text of the replacement holding the fillings that the search hands out for that sheet
  -- and figure, or says 'too large', exactly when that result is over the table's limits.'
  pub swap-writes : (θ : List Filling) → HandsOut sheet pattern slip θ → Swaps sheet pattern replacement slip θ
  swap-writes θ handed = Swapping.swap-writes sheet pattern replacement ok slip full θ handed

  -- 'swap in 0, 11 or 12'
  pub swap_ends : ((bytes : ℕ) × (swap_answer sheet pattern replacement (length slip) ≡ done.Written bytes))
      ⊎ ((swap_answer sheet pattern replacement (length slip) ≡ done.NoPlacing) ⊎ (swap_answer sheet pattern replacement (length slip) ≡ done.TooLarge))
  swap_ends = Swapping.swap_ends sheet pattern replacement ok (length slip) full

  -- Swap is fill of the replacement from the bytes that place wrote.
  pub swap-fill : ¬ (place_answer sheet pattern (length slip) ≡ done.NoPlacing)
      → (swap_answer sheet pattern replacement (length slip) ≡ fill_answer replacement (place_written sheet pattern slip) (length slip))
      × (swap_slip sheet pattern replacement slip ≡ fill_slip replacement (place_written sheet pattern slip) slip)
  swap-fill other =
      let t = Places.place-writes sheet pattern ok.placed slip full other in
      Swapping.swap-fill sheet pattern replacement ok slip full t.0 t.1

-- 'Check a claim: yes exactly when the filled figure is the same as the sheet, whoever wrote the list'
pub claim-congruent : (sheet figure list : List ℕ) → ClaimPassed sheet figure list
    → (claim_answer sheet figure list ≡ Holds) ↔ (holding_term (term_of_text (figure_held figure)) (fillings_read list) ≅ term_of_text (sheet_held sheet))
claim-congruent sheet figure list ok = Claims.claim-congruent sheet figure list ok

pub claim-ends : (sheet figure list : List ℕ) → ClaimPassed sheet figure list → (claim_answer sheet figure list ≡ Holds) ⊎ (claim_answer sheet figure list ≡ Differs)
claim-ends sheet figure list ok = Claims.claim-ends sheet figure list ok

-- Demand 1: 'Turned down, it leaves the output slip with its old bytes.' No answer changes its length. For all bytes and slips.
pub normalise-kept : (kind : Kind) (text slip : List ℕ) → ¬ (normalised_number (normalised_answer kind text (length slip)) ≡ 0) → normalised_slip kind text slip ≡ slip
normalise-kept kind text slip refused = SlipLaws.normalise-kept kind text slip refused

pub fill-kept : (figure list slip : List ℕ) → ¬ (done_number (fill_answer figure list (length slip)) ≡ 0) → fill_slip figure list slip ≡ slip
fill-kept figure list slip refused = SlipLaws.fill-kept figure list slip refused

pub place_kept : (sheet pattern slip : List ℕ) → ¬ (done_number (place_answer sheet pattern (length slip)) ≡ 0) → place_slip sheet pattern slip ≡ slip
place_kept sheet pattern slip refused = SlipLaws.place_kept sheet pattern slip refused

pub swap-kept : (sheet pattern replacement slip : List ℕ) → ¬ (done_number (swap_answer sheet pattern replacement (length slip)) ≡ 0) → swap_slip sheet pattern replacement slip ≡ slip
swap-kept sheet pattern replacement slip refused = SlipLaws.swap-kept sheet pattern replacement slip refused

pub place-length : (sheet pattern slip : List ℕ) → length (place_slip sheet pattern slip) ≡ length slip
place-length sheet pattern slip = SlipLaws.place-length sheet pattern slip

pub swap-length : (sheet pattern replacement slip : List ℕ) → length (swap_slip sheet pattern replacement slip) ≡ length slip
swap-length sheet pattern replacement slip = SlipLaws.swap-length sheet pattern replacement slip

-- 'A text has passed when no refusal that names an input holds of it in its task.'
pub place-passed : (sheet pattern : List ℕ) (n : ℕ) → slip_length ≤ n → PlacePassed sheet pattern ↔ (done_input (place_answer sheet pattern n) ≡ 0)
place-passed sheet pattern n full = Passing.place-passed sheet pattern n full

pub swap-passed : (sheet pattern replacement : List ℕ) (n : ℕ) → slip_length ≤ n → SwapPassed sheet pattern replacement ↔ (done_input (swap_answer sheet pattern replacement n) ≡ 0)
swap-passed sheet pattern replacement n full = Passing.swap-passed sheet pattern replacement n full

pub claim-passed : (sheet figure list : List ℕ) → ClaimPassed sheet figure list ↔ (claimed_input (claim_answer sheet figure list) ≡ 0)
claim-passed sheet figure list = Passing.claim-passed sheet figure list
