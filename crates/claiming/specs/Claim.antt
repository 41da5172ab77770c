-- Document 01, 'Check a claim: sheet, figure, list; yes exactly when the filled figure is the same as the sheet, whoever wrote the
-- list': the answer.
use Rattle.std.specs.Prelude.{ℕ, List, ltb}
use Rattle.std.proofs.Math.Option.{Option, none, some}
use Rattle.rows.specs.Pick.{pick}
use Rattle.reading.specs.Graph.{graph_of}
use Rattle.sheet.specs.Reading.{outcome_of, no_ports}
use Rattle.sheet.specs.declared.kind.Kind.TheVariants.{Plain, Figure, Fillings}
use Rattle.sheet.specs.declared.answer.Answer.{Answer}
use Rattle.sheet.specs.declared.answer.Answer.TheVariants as read
use Rattle.placing.specs.Net.{Net, net_of}
use Rattle.placing.specs.Placing.{Placing}
use Rattle.placing.specs.Filled.{filled_normal}
use Rattle.placing.specs.Smallest.{smallest}
use Rattle.placing.specs.TextNets.{sheet_net}
use Rattle.filling.specs.Read.{list_held, fillings_read}
use Rattle.filling.specs.Fill.{figure_held, first_lacking, first_differing, filled_by, is_too_large}
use Rattle.answers.specs.declared.outcome.Claimed.{Claimed}
use Rattle.answers.specs.declared.outcome.Claimed.TheVariants.{Holds, Differs, Refused, BlankClash, EdgeDiffers}

-- the normal text of the filled figure, as a net
abbrev pub filled_net : List ℕ → List ℕ → Net
filled_net figure list = net_of (filled_normal (graph_of (figure_held figure)) (fillings_read list))

-- two sheets are the same exactly when one, as a figure without blanks, can be placed in the other
abbrev pub placed_claim : Option Placing → Claimed
placed_claim none = Differs
placed_claim (some p) = Holds

-- texts that passed row by row: 8 and 9 over whole texts; 'a claim whose filled figure would be too large says differs, never 12'
unfoldable pub claimed_answer : List ℕ → List ℕ → List ℕ → Claimed
claimed_answer sheet figure list =
    pick (ltb 0 (first_lacking (list_held list).contexts (figure_held figure).contexts)) (BlankClash 2 (first_lacking (list_held list).contexts (figure_held figure).contexts))
    (pick (ltb 0 (first_differing list (list_held list).contexts)) (EdgeDiffers 3 (first_differing list (list_held list).contexts))
    (pick (is_too_large (filled_by figure list)) Differs (placed_claim (smallest (sheet_net sheet) (filled_net figure list)))))

-- an input that is refused at a row, or what comes next
abbrev pub claim_unless : Answer → ℕ → Claimed → Claimed
claim_unless read.Passed input next = next
claim_unless (read.Refused why row) input next = Refused input why row

-- the inputs in task order, each row by row, then 8 and 9 over whole texts
unfoldable pub claim_answer : List ℕ → List ℕ → List ℕ → Claimed
claim_answer sheet figure list =
    claim_unless (outcome_of Plain no_ports sheet).answer 1
    (claim_unless (outcome_of Figure no_ports figure).answer 2 (claim_unless (outcome_of Fillings no_ports list).answer 3 (claimed_answer sheet figure list)))
