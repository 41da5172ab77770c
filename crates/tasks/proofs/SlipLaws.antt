-- The slips at exit, for all bytes: a refusal leaves the slip, and every answer leaves its length.
use Prim.Native.Nat.{ℕ, ◌≤◌}
use mathlib.Core.Path.{◌≡◌, refl, ap, ◌∙◌}
use mathlib.Core.List.{List, ◌++◌}
use mathlib.Core.Bool.{Bool, true, false}
use native.Mathlib.Omega.{arith}
use borrow.Author.Tests.{ltb-false}
use lib.Dec.{ltb}
use lib.ListN.{length, drop, length-append, length-drop}
use Rattle.rows.specs.Pick.{pick}
use Rattle.reading.specs.Graph.{graph_of}
use Rattle.normalising.specs.NormalText.{text_of, slip_length, normal_text_of, answered, written_over, normalised_answer, normalised_slip, normalised_number}
use Rattle.sheet.specs.Reading.{outcome_of, no_ports}
use Rattle.sheet.specs.declared.kind.Kind.{Kind}
use Rattle.sheet.specs.declared.answer.Answer.{Answer}
use Rattle.sheet.specs.declared.answer.Answer.TheVariants.{Passed, Refused}
use Rattle.normalising.specs.declared.normalise.Normalised.TheVariants as normal
use Rattle.placing.specs.ListText.{list_text}
use Rattle.answers.specs.Done.{done_number, done_input, slip_after}
use Rattle.filling.specs.Fill.{filled_text, fill_answer, fill_slip}
use Rattle.answers.specs.declared.outcome.Done.{Done}
use Rattle.answers.specs.declared.outcome.Done.TheVariants as done
use Rattle.finding.specs.Place.{placed_fillings, placed_text, place_answer, place_slip}
use Rattle.swapping.specs.Swap.{replacement_held, swapped_text, swap_answer, swap_slip}
use Rattle.tasks.specs.Demand.{swapped}
use Rattle.tasks.proofs.Places.{place-writes}
use Rattle.tasks.proofs.Swapping.{swap-none, swap-writes}
use Rattle.tasks.proofs.Passing.{place-passed, swap-passed}

refusal-keeps : (d : Done) (text slip : List ℕ) → ¬ (done_number d ≡ 0) → slip_after d text slip ≡ slip
refusal-keeps (done.Written bytes) text slip n = absurd (n refl)
refusal-keeps done.ShortSlip text slip n = refl
refusal-keeps (done.Refused input why row) text slip n = refl
refusal-keeps (done.BlankClash input row) text slip n = refl
refusal-keeps (done.EdgeDiffers input row) text slip n = refl
refusal-keeps done.NoPlacing text slip n = refl
refusal-keeps done.TooLarge text slip n = refl

-- The same where a buffer is short or a reader refuses.
reader-keeps : (short : Bool) (a : Answer) (text slip : List ℕ)
    → ¬ (normalised_number (pick short normal.ShortSlip (answered a (length text))) ≡ 0) → pick short slip (written_over a text slip) ≡ slip
reader-keeps true a text slip n = refl
reader-keeps false Passed text slip n = absurd (n refl)
reader-keeps false (Refused why row) text slip n = refl

pub normalise-kept : (kind : Kind) (text slip : List ℕ) → ¬ (normalised_number (normalised_answer kind text (length slip)) ≡ 0) → normalised_slip kind text slip ≡ slip
unfolding normalised_answer normalised_slip
normalise-kept kind text slip n = reader-keeps (ltb (length slip) slip_length) (outcome_of kind no_ports text).answer (normal_text_of kind text) slip n

pub fill-kept : (figure list slip : List ℕ) → ¬ (done_number (fill_answer figure list (length slip)) ≡ 0) → fill_slip figure list slip ≡ slip
unfolding fill_slip
fill-kept figure list slip n = refusal-keeps (fill_answer figure list (length slip)) (filled_text figure list) slip n

pub place_kept : (sheet pattern slip : List ℕ) → ¬ (done_number (place_answer sheet pattern (length slip)) ≡ 0) → place_slip sheet pattern slip ≡ slip
unfolding place_slip
place_kept sheet pattern slip n = refusal-keeps (place_answer sheet pattern (length slip)) (placed_text (placed_fillings sheet pattern)) slip n

pub swap-kept : (sheet pattern replacement slip : List ℕ) → ¬ (done_number (swap_answer sheet pattern replacement (length slip)) ≡ 0) → swap_slip sheet pattern replacement slip ≡ slip
unfolding swap_slip
swap-kept sheet pattern replacement slip n =
    refusal-keeps (swap_answer sheet pattern replacement (length slip)) (swapped_text (graph_of (replacement_held pattern replacement)) (placed_fillings sheet pattern)) slip n

-- A text with room over the beginning of a slip.
over-length : (text slip : List ℕ) → length text ≤ slip_length → slip_length ≤ length slip → length (text ++ drop (length text) slip) ≡ length slip
over-length text slip a b = simp (length-append, length-drop) (omega arith)

module _ (sheet pattern slip : List ℕ) where
  place-full : (bytes : ℕ) → place_answer sheet pattern (length slip) ≡ done.Written bytes → slip_length ≤ length slip
  unfolding place_answer
  place-full bytes e = go (ltb (length slip) slip_length) refl
    where
      go : (b : Bool) → ltb (length slip) slip_length ≡ b → slip_length ≤ length slip
      go true q = absurd (let p : done.ShortSlip ≡ done.Written bytes = rw q at e in let z : ◌≡◌ {A = ℕ} 0 1 = cc in omega arith)
      go false q = ltb-false (length slip) slip_length q

  pub place-length : length (place_slip sheet pattern slip) ≡ length slip
  unfolding place_slip
  place-length = go (place_answer sheet pattern (length slip)) refl
    where
      after : (d : Done) → place_answer sheet pattern (length slip) ≡ d → length (place_slip sheet pattern slip) ≡ length (slip_after d (placed_text (placed_fillings sheet pattern)) slip)
      after d e = ap (λ d. length (slip_after d (placed_text (placed_fillings sheet pattern)) slip)) e

      go : (d : Done) → place_answer sheet pattern (length slip) ≡ d → length (place_slip sheet pattern slip) ≡ length slip
      go (done.Written bytes) e =
          let full = place-full bytes e in
          let t = place-writes sheet pattern ((place-passed sheet pattern (length slip) full).1 (ap done_input e)) slip full (λ q. let z : ◌≡◌ {A = ℕ} 0 1 = cc in omega arith) in
          ap length t.1.slip-after ∙ over-length (list_text t.0) slip t.1.room full
      go done.ShortSlip e = after done.ShortSlip e
      go (done.Refused input why row) e = after (done.Refused input why row) e
      go (done.BlankClash input row) e = after (done.BlankClash input row) e
      go (done.EdgeDiffers input row) e = after (done.EdgeDiffers input row) e
      go done.NoPlacing e = after done.NoPlacing e
      go done.TooLarge e = after done.TooLarge e

module _ (sheet pattern replacement slip : List ℕ) where
  swap-full : (bytes : ℕ) → swap_answer sheet pattern replacement (length slip) ≡ done.Written bytes → slip_length ≤ length slip
  unfolding swap_answer
  swap-full bytes e = go (ltb (length slip) slip_length) refl
    where
      go : (b : Bool) → ltb (length slip) slip_length ≡ b → slip_length ≤ length slip
      go true q = absurd (let p : done.ShortSlip ≡ done.Written bytes = rw q at e in let z : ◌≡◌ {A = ℕ} 0 1 = cc in omega arith)
      go false q = ltb-false (length slip) slip_length q

  pub swap-length : length (swap_slip sheet pattern replacement slip) ≡ length slip
  unfolding swap_slip
  swap-length = go (swap_answer sheet pattern replacement (length slip)) refl
    where
      after : (d : Done) → swap_answer sheet pattern replacement (length slip) ≡ d
          → length (swap_slip sheet pattern replacement slip) ≡ length (slip_after d (swapped_text (graph_of (replacement_held pattern replacement)) (placed_fillings sheet pattern)) slip)
      after d e = ap (λ d. length (slip_after d (swapped_text (graph_of (replacement_held pattern replacement)) (placed_fillings sheet pattern)) slip)) e

      go : (d : Done) → swap_answer sheet pattern replacement (length slip) ≡ d → length (swap_slip sheet pattern replacement slip) ≡ length slip
      go (done.Written bytes) e =
          let full = swap-full bytes e in
          let ok = (swap-passed sheet pattern replacement (length slip) full).1 (ap done_input e) in
          let n = swap-none sheet pattern replacement ok (length slip) full in
          let t = place-writes sheet pattern ok.placed slip full (λ q. let p = n.1 q in let z : ◌≡◌ {A = ℕ} 0 1 = cc in omega arith) in
          let s = swap-writes sheet pattern replacement ok slip full t.0 t.1 in
          ap length (s.slip-after (λ o. let p = s.too_large.1 o in let z : ◌≡◌ {A = ℕ} 0 1 = cc in omega arith))
          ∙ over-length (text_of (swapped pattern replacement t.0)) slip (s.room (λ o. let p = s.too_large.1 o in let z : ◌≡◌ {A = ℕ} 0 1 = cc in omega arith)) full
      go done.ShortSlip e = after done.ShortSlip e
      go (done.Refused input why row) e = after (done.Refused input why row) e
      go (done.BlankClash input row) e = after (done.BlankClash input row) e
      go (done.EdgeDiffers input row) e = after (done.EdgeDiffers input row) e
      go done.NoPlacing e = after done.NoPlacing e
      go done.TooLarge e = after done.TooLarge e
