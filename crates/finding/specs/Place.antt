-- Document 01, 'Place: sheet, pattern; find the pattern in the sheet (output: its list of fillings, an H row for each blank of the
-- pattern)': what placing answers and writes.
use Rattle.std.specs.Prelude.{ℕ, List, [], ltb, length}
use Rattle.std.proofs.Math.Option.{Option, none, some}
use Rattle.rows.specs.Pick.{pick}
use Rattle.normalising.specs.NormalText.{slip_length}
use Rattle.sheet.specs.Reading.{outcome_of, no_ports}
use Rattle.sheet.specs.declared.kind.Kind.TheVariants.{Plain, Pattern}
use Rattle.placing.specs.Net.{Net}
use Rattle.placing.specs.TextNets.{sheet_net, pattern_net}
use Rattle.placing.specs.Placing.{Placing}
use Rattle.placing.specs.Fillings.{Filling, normal_fillings_of}
use Rattle.placing.specs.ListText.{list_text}
use Rattle.placing.specs.Smallest.{smallest}
use Rattle.answers.specs.Done.{slip_after}
use Rattle.filling.specs.Fill.{unless}
use Rattle.answers.specs.declared.outcome.Done.{Done}
use Rattle.answers.specs.declared.outcome.Done.TheVariants as done

-- the fillings of a placing, where there is one
abbrev pub fillings_in : Net → Net → Option Placing → Option (List Filling)
fillings_in S F none = none
fillings_in S F (some p) = some (normal_fillings_of S p F)

-- the fillings that are handed out: 'Of several good placings the smallest is taken'; none where no placing is good
unfoldable pub placed_fillings : List ℕ → List ℕ → Option (List Filling)
placed_fillings sheet pattern =
    let S = sheet_net sheet in
    let F = pattern_net pattern in
    fillings_in S F (smallest S F)

-- 11: 'no good placing'
abbrev pub placed_answer : Option (List Filling) → Done
placed_answer none = done.NoPlacing
placed_answer (some θ) = done.Written (length (list_text θ))

abbrev pub placed_text : Option (List Filling) → List ℕ
placed_text none = []
placed_text (some θ) = list_text θ

-- 'Order: 10; then the inputs in task order, each row by row; then 11'
unfoldable pub place_answer : List ℕ → List ℕ → ℕ → Done
place_answer sheet pattern slip =
    pick (ltb slip slip_length) done.ShortSlip
    (unless (outcome_of Plain no_ports sheet).answer 1 (unless (outcome_of Pattern no_ports pattern).answer 2 (placed_answer (placed_fillings sheet pattern))))

-- the slip at exit
unfoldable pub place_slip : List ℕ → List ℕ → List ℕ → List ℕ
place_slip sheet pattern slip = slip_after (place_answer sheet pattern (length slip)) (placed_text (placed_fillings sheet pattern)) slip
