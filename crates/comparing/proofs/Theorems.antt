-- What this crate is for, in one place.
use Prim.Native.Nat.{ℕ}
use mathlib.Core.Path.{◌≡◌}
use mathlib.Core.Logic.{◌⊎◌, ◌↔◌}
use mathlib.Core.List.{List}
use Rattle.hyperlmntal.specs.Congruence.{◌≅◌, ≅-sym}
use Rattle.reading.specs.Graph.{term_of_text}
use Rattle.sheet.specs.Reading.{outcome_of, no_ports}
use Rattle.sheet.specs.declared.kind.Kind.TheVariants.{Plain}
use Rattle.sheet.specs.declared.answer.Answer.TheVariants.{Passed}
use Rattle.placing.specs.TextNets.{sheet_held}
use Rattle.placing.proofs.Theorems.{text-sheets-placing}
use Rattle.comparing.specs.Compare.{compare_answer}
use Rattle.answers.specs.declared.outcome.Compared.TheVariants.{Same, Differs}
use Rattle.comparing.proofs.Comparing.{passed-either, passed-same}

-- Two sheets that passed are the same or they differ; neither is refused.
pub compare-passed : (a b : List ℕ) → (outcome_of Plain no_ports a).answer ≡ Passed → (outcome_of Plain no_ports b).answer ≡ Passed → (compare_answer a b ≡ Same) ⊎ (compare_answer a b ≡ Differs)
compare-passed a b p q = passed-either a b p q

-- They are the same exactly when their terms are congruent: when rules E1 to E10 lead from one to the other.
pub compare-congruent : (a b : List ℕ) → (outcome_of Plain no_ports a).answer ≡ Passed → (outcome_of Plain no_ports b).answer ≡ Passed
    → (compare_answer a b ≡ Same) ↔ (term_of_text (sheet_held a) ≅ term_of_text (sheet_held b))
compare-congruent a b p q =
    let t = passed-same a b p q in
    let u = text-sheets-placing a b p q in
    (λ e. ≅-sym (u.0 (t.0 e)), λ c. t.1 (u.1 (≅-sym c)))
